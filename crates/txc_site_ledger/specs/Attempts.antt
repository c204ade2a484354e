-- Only private functions need this file: the result of one run of a change.
use Rattle.std.specs.Prelude.{◌≡◌, ℕ}
use Rattle.txc_stream.specs.Names.{Name}
use Rattle.txc_app.specs.Eval.{Next}
use Rattle.txc_db.specs.declared.answered.CommitError.TheVariants as commits
use Rattle.txc_site_ledger.specs.declared.run_error.RunError.{RunError}
use Rattle.txc_txn_rw.specs.RwCore.{RwValue}
use Rattle.txc_site_ledger.specs.declared.error.WriteError.{WriteError}
use Rattle.txc_site_ledger.specs.declared.error.WriteError.TheVariants as writes
use Rattle.txc_site_ledger.specs.declared.writing.Attempt.{Attempt}
use Rattle.txc_site_ledger.specs.declared.writing.Attempt.TheVariants as attempts
use Rattle.txc_site_ledger.specs.CommitCounter.{CommitterValue, counted_again}
use Rattle.txc_site_ledger.specs.ChangeResult.{IsRefusedCommit, IsSiteWriteRefused, IsWritten}

-- it is no list of conflicts, and no lack of memory for one
abbrev pub IsOfRun : WriteError → Type 0
IsOfRun (writes.Conflicts conflicts) = ⊥
IsOfRun writes.Memory = ⊥
IsOfRun error = Unit {0}

-- the change was committed, or conflicted, or failed for another reason
abbrev pub IsAttempted : {T : Type 0} → Next → Name → (RwValue → T → Type 0) → (RunError → Type 0) → Attempt T → Type 0
IsAttempted next row makes refuses (attempts.Done output committed) = IsWritten next row makes output committed
IsAttempted next row makes refuses (attempts.Conflict conflict) = IsRefusedCommit row makes (commits.Conflict conflict)
IsAttempted next row makes refuses (attempts.Refused error) =
    IsOfRun error × ((tries : ℕ) → IsSiteWriteRefused row makes refuses tries error)

-- the committer counts one update more, and one commit more if the change was committed
abbrev pub CountsAttempt : {T : Type 0} → Attempt T → CommitterValue → CommitterValue → Type 0
CountsAttempt (attempts.Done output committed) old new =
    new ≡ record { updates = counted_again old.updates; commits = counted_again old.commits }
CountsAttempt attempt old new = new ≡ record old { updates = counted_again old.updates }
