-- The lines of a world's script, and their requests.
use Rattle.std.specs.Prelude.{◌≡◌, ℕ, List, [], ◌∷◌, Option, Some, None, option_and_then, option_map}
use Rattle.txc_world.specs.declared.step.ActorStep.TheVariants as acts
use Rattle.txc_world.specs.declared.step.KeeperStep.TheVariants as keeps
use Rattle.txc_world.specs.declared.step.Step.TheVariants.{Actor, BeginIn, Keeper}
use Rattle.txc_script.specs.Words.{words_of}
use Rattle.txc_script.specs.declared.parsed_word.ChangeName.{ChangeName}
use Rattle.txc_script.specs.declared.parsed_word.ChangeName.TheVariants as changes
use Rattle.txc_script.specs.declared.parsed_word.ParsedWord.{ParsedWord}
use Rattle.txc_script.specs.declared.parsed_word.ParsedWord.TheVariants.{Change, Function, Key, Number, Stamp}
use Rattle.txc_script_lines.specs.declared.name.LineName.{LineName}
use Rattle.txc_script_lines.specs.declared.name.LineName.TheVariants as names
use Rattle.txc_script_lines.specs.Names.{name_text}
use Rattle.txc_script_lines.specs.LineWords.{SaysAfter, change_said, query_said}
use Rattle.txc_script_world.specs.declared.task.Task.{Task}
use Rattle.txc_script_world.specs.declared.task.Task.TheVariants as tasks

-- the actor or the node that is the only value
abbrev pub place_said : List ParsedWord → Option ℕ
place_said (Number place ∷ []) = Some place
place_said values = None

-- the request of a line of this name whose only word is this actor or node
abbrev pub task_at : LineName → ℕ → Option Task
task_at names.Rw actor = Some (tasks.One (Actor actor acts.BeginRw))
task_at names.Step actor = Some (tasks.One (Actor actor acts.Request))
task_at names.Finish actor = Some (tasks.Finish actor)
task_at names.Pins actor = Some (tasks.Pins actor)
task_at names.Commit actor = Some (tasks.Commit actor)
task_at names.Abort actor = Some (tasks.Abort actor)
task_at names.Advance node = Some (tasks.One (Keeper (keeps.Advance node)))
task_at name place = None

-- the keeper makes the change of these values
abbrev pub keeper_change : ChangeName → List ParsedWord → Option Task
keeper_change name values = option_map (λ change. tasks.One (Keeper (keeps.Write change))) (change_said name values)

-- the request of a line of this name, by the values of the words after it
abbrev pub task_said : LineName → List ParsedWord → Option Task
task_said names.Put values = keeper_change changes.Put values
task_said names.Remove values = keeper_change changes.Remove values
task_said names.Pin (Number now ∷ []) = Some (tasks.Pin now)
task_said names.Query (Stamp stamp ∷ values) =
    option_map (λ query. tasks.One (Keeper (keeps.Query stamp query))) (query_said values)
task_said names.Ro (Number actor ∷ Number now ∷ Number staleness ∷ Stamp at_least ∷ []) =
    Some (tasks.One (Actor actor (acts.BeginRo (record { now = now; staleness = staleness; at_least = at_least }))))
task_said names.Session (Number actor ∷ Number now ∷ Number staleness ∷ []) =
    Some (tasks.One (BeginIn actor now staleness))
task_said names.Call (Number actor ∷ Key key ∷ []) = Some (tasks.One (Actor actor (acts.Start key)))
task_said names.Ask (Number actor ∷ values) =
    option_map (λ query. tasks.One (Actor actor (acts.Ask query))) (query_said values)
task_said names.Write (Number actor ∷ Change name ∷ values) =
    option_map (λ change. tasks.One (Actor actor (acts.Write change))) (change_said name values)
task_said names.Sweep (Number node ∷ Stamp horizon ∷ []) =
    Some (tasks.One (Keeper (keeps.Sweep node horizon)))
task_said names.Tidy (Number now ∷ Number age ∷ []) = Some (tasks.Tidy now age)
task_said names.Counts (Number node ∷ Function function ∷ []) = Some (tasks.Counts node function)
task_said names.Rw values = option_and_then (task_at names.Rw) (place_said values)
task_said names.Step values = option_and_then (task_at names.Step) (place_said values)
task_said names.Finish values = option_and_then (task_at names.Finish) (place_said values)
task_said names.Pins values = option_and_then (task_at names.Pins) (place_said values)
task_said names.Commit values = option_and_then (task_at names.Commit) (place_said values)
task_said names.Abort values = option_and_then (task_at names.Abort) (place_said values)
task_said names.Advance values = option_and_then (task_at names.Advance) (place_said values)
task_said name values = None

-- the request of a line with this name and these words after it
pub record LineAsksFor (name : LineName) (words : List (List ℕ)) (task : Task) : Type 0 where
  pub values : List ParsedWord
  pub say : SaysAfter name words values
  pub asks : task_said name values ≡ Some task

-- the line is a name and words that ask for this
abbrev pub SpellsTask : List ℕ → Task → Type 0
SpellsTask line task =
    (name : LineName) × (words : List (List ℕ)) × (words_of line ≡ name_text name ∷ words) × LineAsksFor name words task
