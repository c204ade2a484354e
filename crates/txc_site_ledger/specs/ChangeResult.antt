-- The result of a change, with its tries.
use Rattle.std.specs.Prelude.{◌≡◌, ◌⊎◌, ℕ, ◌+◌, ◌<◌, List, All, vec_len}
use Rattle.txc_stream.specs.Names.{Name}
use Rattle.txc_app.specs.Eval.{Next}
use Rattle.txc_db.specs.declared.answered.Answered.{Answered}
use Rattle.txc_db.specs.declared.answered.CommitError.{CommitError}
use Rattle.txc_db.specs.declared.answered.CommitError.TheVariants as commits
use Rattle.txc_db.specs.Calls.{IsHoldRefused}
use Rattle.txc_db.specs.History.{state_at}
use Rattle.txc_db.specs.DatabaseReply.{IsEventIn, IsQuietIn, IsSharedCommitRefused, MayRefuse}
use Rattle.txc_site_ledger.specs.CommitCounter.{counted_on}
use Rattle.txc_site_ledger.specs.declared.run_error.RunError.{RunError}
use Rattle.txc_txn_rw.specs.declared.rw_txn.Committed.{Committed}
use Rattle.txc_txn_rw.specs.Answers.{AreRightIn}
use Rattle.txc_txn_rw.specs.RwCore.{RwValue, tags_read}
use Rattle.txc_txn_rw.specs.Outcomes.{IsCommitted}
use Rattle.txc_site_ledger.specs.declared.error.WriteError.{WriteError}
use Rattle.txc_site_ledger.specs.declared.error.WriteError.TheVariants as writes

-- The change left a transaction with this output, and that transaction was committed. Its answers are right at
-- its base and at the state to which it was committed, and none of the events in between matches what it read.
pub record IsWritten {T : Type 0} (next : Next) (row : Name) (makes : RwValue → T → Type 0) (output : T)
    (committed : Committed) : Type 0 where
  pub core : RwValue
  pub made : makes core output
  pub named : committed.front.events ≡ row
  pub answers : committed.answers.items ≡ core.answers
  pub answer : IsCommitted next committed.front.history core committed.stamp
  pub at_base : AreRightIn next (state_at committed.front.history core.base) core.answers
  pub apart : IsQuietIn committed.front.history core.base (tags_read core) core.changes committed.stamp
      ⊎ IsEventIn committed.front.history core.base (tags_read core) core.changes committed.stamp

-- the change left a transaction, and a database of the row failed to commit it with this error
pub record IsRefusedCommit {T : Type 0} (row : Name) (makes : RwValue → T → Type 0) (error : CommitError) : Type 0 where
  pub core : RwValue
  pub output : T
  pub made : makes core output
  pub refused : MayRefuse row (λ d. IsSharedCommitRefused d core.base (tags_read core) core.changes) error

-- each of these conflicts is that of a transaction that the change left
abbrev pub AreConflicts : {T : Type 0} → Name → (RwValue → T → Type 0) → List (Answered ℕ) → Type 0
AreConflicts row makes conflicts = All (λ conflict. IsRefusedCommit row makes (commits.Conflict conflict)) conflicts

-- every try conflicted; or a transaction could not begin, the change failed, or its commit failed for a reason
-- other than a conflict
abbrev pub IsSiteWriteRefused : {T : Type 0} → Name → (RwValue → T → Type 0) → (RunError → Type 0) → ℕ → WriteError → Type 0
IsSiteWriteRefused row makes refuses tries (writes.Conflicts conflicts) =
    (vec_len conflicts ≡ tries) × AreConflicts row makes conflicts.items
IsSiteWriteRefused row makes refuses tries (writes.Begin cause) = MayRefuse row IsHoldRefused cause
IsSiteWriteRefused row makes refuses tries (writes.Change cause) = refuses cause
IsSiteWriteRefused row makes refuses tries (writes.Commit cause) = IsRefusedCommit row makes (commits.Database cause)
IsSiteWriteRefused row makes refuses tries writes.Memory = Unit {0}

-- The number of runs of a change that failed so. It did not run if there was no memory for its conflicts. If
-- each try conflicted, it ran as often as there were tries; otherwise at least once, and at most that often.
abbrev pub IsRunSoOften : ℕ → WriteError → ℕ → ℕ → Type 0
IsRunSoOften tries writes.Memory old new = new ≡ old
IsRunSoOften tries (writes.Conflicts conflicts) old new = new ≡ counted_on tries old
IsRunSoOften tries error old new = (before : ℕ) × (before < tries) × (new ≡ counted_on (before + 1) old)
