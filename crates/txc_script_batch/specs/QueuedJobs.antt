-- The jobs that lines have queued.
use Rattle.std.specs.Prelude.{◌≡◌, ℕ, List}
use Rattle.txc_tags.specs.Keys.{Call}
use Rattle.txc_work.specs.declared.job.Job.{Job}

-- the moment of a job and how stale its snapshot may be, both in milliseconds, and the keys that it calls, in
-- order
pub record QueuedValue : Type 0 where
  pub now : ℕ
  pub staleness : ℕ
  pub keys : List Call

-- the job has this number, this moment and staleness, a snapshot at any stamp, and these keys
pub record IsJobOf (number : ℕ) (q : QueuedValue) (job : Job) : Type 0 where
  pub number_is : job.number ≡ number
  pub now : job.bounds.now ≡ q.now
  pub staleness : job.bounds.staleness ≡ q.staleness
  pub at_least : job.bounds.at_least ≡ 0
  pub keys : job.keys.items ≡ q.keys
