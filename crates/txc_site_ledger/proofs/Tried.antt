-- What one run of a change gave, by its kind.
use Rattle.std.proofs.Common.{◌≡◌, ℕ, ◌+◌, ◌<◌, ap, sym, subst, ◌∙◌, add-one}
use Rattle.txc_stream.specs.Names.{Name}
use Rattle.txc_app.specs.Eval.{Next}
use Rattle.txc_db.specs.declared.answered.Answered.{Answered}
use Rattle.txc_db.specs.declared.answered.CommitError.TheVariants as commits
use Rattle.txc_site_ledger.specs.declared.run_error.RunError.{RunError}
use Rattle.txc_txn_rw.specs.RwCore.{RwValue}
use Rattle.txc_site_ledger.specs.declared.error.WriteError.{WriteError}
use Rattle.txc_site_ledger.specs.declared.error.WriteError.TheVariants as writes
use Rattle.txc_site_ledger.specs.declared.writing.Attempt.{Attempt}
use Rattle.txc_site_ledger.specs.declared.writing.Attempt.TheVariants as attempts
use Rattle.txc_site_ledger.specs.Attempts.{CountsAttempt, IsAttempted, IsOfRun}
use Rattle.txc_site_ledger.specs.CommitCounter.{CommitterValue, counted_again, counted_on}
use Rattle.txc_site_ledger.specs.ChangeResult.{IsRefusedCommit, IsRunSoOften, IsSiteWriteRefused}

module _ {T : Type 0} (next : Next) (row : Name) (makes : RwValue → T → Type 0) (refuses : RunError → Type 0) (attempt : Attempt T) where
  pub conflict_so : (conflict : Answered ℕ) → IsAttempted next row makes refuses attempt → attempt ≡ attempts.Conflict conflict
      → IsRefusedCommit row makes (commits.Conflict conflict)
  conflict_so conflict did is = subst (IsAttempted next row makes refuses) is did

  pub refused_so : (error : WriteError) → IsAttempted next row makes refuses attempt → attempt ≡ attempts.Refused error
      → (tries : ℕ) → IsSiteWriteRefused row makes refuses tries error
  refused_so error did is tries =
      let so = subst (IsAttempted next row makes refuses) is did in
      so.1 tries

  pub of_run : (error : WriteError) → IsAttempted next row makes refuses attempt → attempt ≡ attempts.Refused error → IsOfRun error
  of_run error did is =
      let so = subst (IsAttempted next row makes refuses) is did in
      so.0

-- ---- what the committer counted

module _ {T : Type 0} (attempt : Attempt T) (old new : CommitterValue) (counted : CountsAttempt attempt old new) where
  -- a conflict was run, and not committed
  pub conflict_run : (conflict : Answered ℕ) → attempt ≡ attempts.Conflict conflict → new ≡ record old { updates = counted_again old.updates }
  conflict_run conflict is = subst (λ (a : Attempt T). CountsAttempt a old new) is counted

  pub refused_run : (error : WriteError) → attempt ≡ attempts.Refused error → new ≡ record old { updates = counted_again old.updates }
  refused_run error is = subst (λ (a : Attempt T). CountsAttempt a old new) is counted

-- one run more
pub run_on : (times old before new : ℕ) → before ≡ counted_on times old → new ≡ counted_again before → new ≡ counted_on (times + 1) old
run_on times old before new so again = again ∙ (ap counted_again so ∙ ap (λ (n : ℕ). counted_on n old) (sym (add-one times)))

-- a run that was refused was one of the tries
pub run_so_often : (tries times : ℕ) (error : WriteError) (old new : ℕ) → IsOfRun error → times < tries → new ≡ counted_on (times + 1) old
    → IsRunSoOften tries error old new
run_so_often tries times (writes.Conflicts conflicts) old new of within so = absurd of
run_so_often tries times writes.Memory old new of within so = absurd of
run_so_often tries times error old new of within so = (times, within, so)
