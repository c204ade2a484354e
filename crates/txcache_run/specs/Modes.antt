-- The effect of a run, by the kind of its script and its settings.
use Rattle.std.specs.Prelude.{◌≡◌, ◌⊎◌, ℕ, List, [], Option, Result, All, length, map}
use Rattle.txc_script_settings.specs.declared.script.Script.{Script}
use Rattle.txc_script_settings.specs.declared.script.Script.TheVariants as scripts
use Rattle.txc_script_settings.specs.declared.settings.Settings.{Settings}
use Rattle.txc_node.specs.Cache.{empty_cache, Cache}
use Rattle.txc_script.specs.Runs.{ScriptHasRun}
use Rattle.txc_script.specs.declared.fault.RunFault.{RunFault}
use Rattle.txc_script_lines.specs.Faults.{WordsStatus}
use Rattle.txc_script_node.specs.NodeScripts.{node_script}
use Rattle.txcache_functions.specs.Program.{program}
use Rattle.txc_world.specs.ActorValues.{resting}
use Rattle.txc_world.specs.NewWorld.{AreNewPorts}
use Rattle.txc_world.specs.Tidy.{nothing_in_hand}
use Rattle.txc_world.specs.Observation.{idle}
use Rattle.txc_world.specs.Worlds.{IsBalanced, WorldValue}
use Rattle.txc_script_world.specs.WorldRuns.{world_settings, HasPlayed}
use Rattle.txc_script_batch.specs.BatchRuns.{HasNotBegun, HasRunBatch}
use Rattle.txc_script_batch.specs.WorkerFunctions.{numbers_in}
use Rattle.txcache_run.specs.Registries.{IsStaff, StaffValue}
use Rattle.txcache_run.specs.declared.running.TheConstants.{ACTORS}

-- a new world of these settings: nothing happened, its nodes are new, and there is an actor with nothing open
-- for each registry
pub record IsNewWorldOf (settings : Settings) (staff : StaffValue) (w : WorldValue) : Type 0 where
  pub settings_are : w.told.settings ≡ world_settings settings
  pub history : w.told.history ≡ []
  pub spare : w.told.spare ≡ []
  pub floors : w.told.floors ≡ map (λ objects. 0) staff.registries
  pub observed : w.told.actors ≡ map (λ objects. idle) staff.registries
  pub balanced : IsBalanced w nothing_in_hand
  pub ports : AreNewPorts (world_settings settings) (length staff.registries) w.ports
  pub actors : w.actors ≡ map (λ objects. resting objects) staff.registries

-- A run of a script by these settings. A node's begins with an empty cache. A world's begins in a new world,
-- with eight actors whose functions share the permits; at the end nothing is open. A batch's has the workers of
-- the settings, whose functions share the permits. Or the run did not begin.
abbrev pub HasRunBy : Script → Settings → Option (List ℕ) → Option (List ℕ) → Option (List ℕ) → Option (List ℕ)
    → Result WordsStatus RunFault → Type 0
HasRunBy (scripts.Node mode) settings remaining_old remaining_new contents_old contents_new result =
    (left : Cache) × ScriptHasRun (node_script mode) (empty_cache settings.capacity settings.recent)
    remaining_old remaining_new contents_old contents_new result left
HasRunBy scripts.World settings remaining_old remaining_new contents_old contents_new result =
    HasNotBegun remaining_old remaining_new contents_old contents_new result
    ⊎ ((staff : StaffValue) × (start : WorldValue) × (left : WorldValue) × IsStaff settings.permits ACTORS staff
    × IsNewWorldOf settings staff start
    × HasPlayed program start remaining_old remaining_new contents_old contents_new result left
    × All (λ observed. observed ≡ idle) left.told.actors)
HasRunBy scripts.Batch settings remaining_old remaining_new contents_old contents_new result =
    HasNotBegun remaining_old remaining_new contents_old contents_new result
    ⊎ ((staff : StaffValue) × IsStaff settings.permits settings.workers staff
    × HasRunBatch program settings (numbers_in staff.registries) remaining_old remaining_new contents_old contents_new
    result)
