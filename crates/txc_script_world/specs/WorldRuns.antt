-- The effect of a run on the lines of a world's script.
use Rattle.std.specs.Prelude.{ℕ, List, Option, Result}
use Rattle.txc_script_settings.specs.declared.settings.Settings.{Settings}
use Rattle.txc_app.specs.Eval.{Next}
use Rattle.txc_world.specs.declared.settings.WorldSettings.{WorldSettings}
use Rattle.txc_world.specs.Worlds.{WorldValue}
use Rattle.txc_script.specs.Runs.{ScriptHasRun}
use Rattle.txc_script.specs.declared.fault.RunFault.{RunFault}
use Rattle.txc_script_lines.specs.Faults.{WordsStatus}
use Rattle.txc_script_world.specs.TaskSteps.{HasGivenUp}
use Rattle.txc_script_world.specs.WorldScripts.{world_script}

-- the settings of the world
abbrev pub world_settings : Settings → WorldSettings
world_settings s = record {
  capacity = s.capacity;
  nodes = s.nodes;
  recent = s.recent;
  renew_after = s.renew_after;
  row_cap = s.row_cap;
}

-- a run of a world's script that begins in this world, after which the actors gave up what they had open, and
-- the world that is left
abbrev pub HasPlayed : Next → WorldValue → Option (List ℕ) → Option (List ℕ) → Option (List ℕ)
    → Option (List ℕ) → Result WordsStatus RunFault → WorldValue → Type 0
HasPlayed next start remaining_old remaining_new contents_old contents_new result left =
    (s : WorldValue)
    × ScriptHasRun (world_script next) start remaining_old remaining_new contents_old contents_new result s
    × HasGivenUp next s left
