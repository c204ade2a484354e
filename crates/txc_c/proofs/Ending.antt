-- What a site is told of a transaction whose changes are committed.
use Rattle.std.proofs.Common.{◌≡◌, ◌∙◌, ℕ, Option, Some, inl, refl, ap, sym, subst}
use Rattle.txc_c_types.specs.declared.numbers.TheConstants.{DONE}
use Rattle.txc_caller.specs.Ports.{HasGrownDatabase}
use Rattle.txc_caller.specs.CallerTxn.{CallerValue, KeepsCaller}
use Rattle.txc_caller.specs.CallerWrite.{CallerWriting}
use Rattle.txc_c.specs.Opened.{OpenStays}
use Rattle.txc_c.specs.Sites.{open_at, ForOpen, HasTakenOut, IsSite, SiteValue}
use Rattle.txc_c.specs.BeginAndEnd.{SiteCommitWriteTransition, CommitsWriteAt, HasCommittedWrites}
use Rattle.txc_c.specs.declared.opened.Open.{Open}
use Rattle.txc_c.specs.declared.opened.Open.TheVariants.{Writing}
use Rattle.txc_c.specs.declared.opened.Opened.{Opened}
use Rattle.txc_c.proofs.Going.{has_ended, taken_open}

module _ (stay : OpenStays) (s0 s : SiteValue) (n : ℕ) (o : Opened) (taken : HasTakenOut n o s0 s) (site : IsSite s) (c' : CallerValue) (keeps : KeepsCaller s.caller c')
    (grown : HasGrownDatabase s.caller.ports.database c'.ports.database) where
  same_caller : s.caller ≡ s0.caller
  same_caller = ap (λ (v : SiteValue). v.caller) taken.same

  was_open : (x : Open) → o.txn ≡ x → open_at s0 n ≡ Some x
  was_open x is = taken_open s0 s n o taken ∙ ap (λ (y : Open). Some y) is

  abbrev at_end : SiteValue
  at_end = record { caller = c'; opened = s.opened; begun = s.begun }

  pub committed_write : (w : CallerWriting) → o.txn ≡ Writing w → (was stamp : ℕ) → HasCommittedWrites w stamp s.caller c' → SiteCommitWriteTransition was stamp n s0 DONE at_end
  committed_write w is was stamp done =
      subst (λ (x : Option Open). ForOpen (CommitsWriteAt was stamp n) (stamp ≡ was) x s0 DONE at_end) (sym (was_open (Writing w) is))
      (inl (refl, has_ended stay s0 s n o taken site c' keeps grown (HasCommittedWrites w stamp) (subst (λ (c : CallerValue). HasCommittedWrites w stamp c c') same_caller done)))
