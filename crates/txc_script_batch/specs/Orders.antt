-- The requests of the lines of a batch's script.
use Rattle.std.specs.Prelude.{◌≡◌, ◌⊎◌, ℕ, ◌≤◌, List, [], ◌∷◌, Option, Some, None, option_map, codes, length}
use Rattle.std.specs.List.{filter_map}
use Rattle.txc_tags.specs.Keys.{Call}
use Rattle.txc_script.specs.LineFaults.{kinds_for}
use Rattle.txc_script.specs.ParsedWords.{SayAll}
use Rattle.txc_script.specs.Words.{words_of}
use Rattle.txc_script.specs.declared.line_fault.WordKind.{WordKind}
use Rattle.txc_script.specs.declared.line_fault.WordKind.TheVariants as word_kinds
use Rattle.txc_script.specs.declared.parsed_word.ChangeName.TheVariants as changes
use Rattle.txc_script.specs.declared.parsed_word.ParsedWord.{ParsedWord}
use Rattle.txc_script.specs.declared.parsed_word.ParsedWord.TheVariants.{Key, Number}
use Rattle.txc_script_lines.specs.Faults.{moment}
use Rattle.txc_script_lines.specs.Names.{name_text}
use Rattle.txc_script_lines.specs.LineWords.{SaysAfter, change_said}
use Rattle.txc_script_lines.specs.declared.name.LineName.{LineName}
use Rattle.txc_script_lines.specs.declared.name.LineName.TheVariants as names
use Rattle.txc_work.specs.declared.job.Job.{Job}
use Rattle.txc_script_batch.specs.QueuedJobs.{QueuedValue}
use Rattle.txc_script_batch.specs.declared.order.Order.{Order}
use Rattle.txc_script_batch.specs.declared.order.Order.TheVariants.{Write, Pin, Run}
use Rattle.txc_script_batch.specs.declared.reading.TheConstants.{LEAST_WORDS}

-- the names of lines that prepare the source of the jobs: changes and pins
abbrev pub IsPreparing : LineName → Type 0
IsPreparing names.Put = Unit {0}
IsPreparing names.Remove = Unit {0}
IsPreparing names.Pin = Unit {0}
IsPreparing name = ⊥

-- the kinds of the words after `job`: a moment, a staleness, and keys
abbrev pub job_kinds : List (List ℕ) → List WordKind
job_kinds words = kinds_for (moment ∷ moment ∷ []) word_kinds.Key words

-- the key that is this value
abbrev pub key_said : ParsedWord → Option Call
key_said (Key key) = Some key
key_said value = None

-- the job of these values
abbrev pub job_said : List ParsedWord → Option QueuedValue
job_said (Number now ∷ Number staleness ∷ keys) =
    Some (record { now = now; staleness = staleness; keys = filter_map key_said keys })
job_said values = None

-- the words are a moment, a staleness, and at least one key, and are those of this job
pub record AreJobWords (words : List (List ℕ)) (q : QueuedValue) : Type 0 where
  pub values : List ParsedWord
  pub some : LEAST_WORDS ≤ length words
  pub say : SayAll (job_kinds words) words values
  pub asks : job_said values ≡ Some q

-- the line is a job
pub record SpellsJob (line : List ℕ) (q : QueuedValue) : Type 0 where
  pub words : List (List ℕ)
  pub line_is : words_of line ≡ codes "job" ∷ words
  pub says : AreJobWords words q

-- the request of a line of such a name, by the values of the words after it
abbrev pub order_said : LineName → List ParsedWord → Option Order
order_said names.Put values = option_map Write (change_said changes.Put values)
order_said names.Remove values = option_map Write (change_said changes.Remove values)
order_said names.Pin (Number now ∷ []) = Some (Pin now)
order_said name values = None

-- the words after this name ask for this
pub record Prepares (name : LineName) (words : List (List ℕ)) (order : Order) : Type 0 where
  pub values : List ParsedWord
  pub say : SaysAfter name words values
  pub asks : order_said name values ≡ Some order

-- the line is a name and words that ask for this
abbrev pub SpellsPreparing : List ℕ → Order → Type 0
SpellsPreparing line order =
    (name : LineName) × (words : List (List ℕ)) × (words_of line ≡ name_text name ∷ words) × Prepares name words order

-- the request of a line after lines that requested these jobs: a job; or a change or a pin, before the first
-- job
abbrev pub AsksFor : List Job → List ℕ → Order → Type 0
AsksFor jobs line order =
    ((q : QueuedValue) × (order ≡ Run q) × SpellsJob line q) ⊎ ((jobs ≡ []) × SpellsPreparing line order)
