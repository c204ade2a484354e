-- The state of a batch between two lines of its script.
use Rattle.std.specs.Prelude.{ℕ, List, []}
use Rattle.txc_script_settings.specs.declared.settings.Settings.{Settings}
use Rattle.txc_work.specs.declared.job.Job.{Job}
use Rattle.txc_script_batch.specs.PlainDatabase.{SourceValue}

-- the settings of the nodes and of the clients, the database and the pincushion that jobs are to run over, the
-- numbers of the functions that they may call, and the jobs
pub record BatchState : Type 0 where
  pub settings : Settings
  pub source : SourceValue
  pub functions : List ℕ
  pub jobs : List Job

-- these, and no job
abbrev pub new_batch : Settings → SourceValue → List ℕ → BatchState
new_batch settings source functions =
    record { settings = settings; source = source; functions = functions; jobs = [] }
