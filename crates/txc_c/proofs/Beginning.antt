-- What a site is told of a transaction that begins in it, or does not.
use Rattle.std.proofs.Common.{◌≡◌, ◌∙◌, ℕ, Bool, true, false, inl, inr, refl, ap, subst}
use Rattle.slab.specs.Slab.{Slab}
use Rattle.txc_c_types.specs.declared.numbers.TheConstants.{DONE, NO_MEMORY}
use Rattle.txc_db.specs.declared.error.DbError.{DbError}
use Rattle.txc_txn_ports.specs.declared.bounds.Bounds.{Bounds}
use Rattle.txc_txn.specs.RunningTxn.{TxnValue}
use Rattle.txc_caller.specs.Ports.{GoesOnByEvents, HasGrownDatabase, HasNoEventFor, StaysBehind}
use Rattle.txc_caller.specs.CallerTxn.{CallerValue, IsBegunReading, KeepsCaller}
use Rattle.txc_caller.proofs.Taken.{said_so}
use Rattle.txc_c.specs.Opaque.{opaque_next}
use Rattle.txc_c.specs.Opened.{IsOpenOf, OpenStays}
use Rattle.txc_c.specs.Sites.{HasPutAtPlace, HasMadeRoom, IsSite, SiteValue}
use Rattle.txc_c.specs.BeginAndEnd.{database_number, BeginPlaced, BeginWritePlaced, BeginsReading, MayHaveCaughtUp}
use Rattle.txc_c.specs.declared.opened.Open.{Open}
use Rattle.txc_c.specs.declared.opened.Open.TheVariants.{Reading}
use Rattle.txc_c.specs.declared.opened.Opened.{Opened}
use Rattle.txc_c.proofs.Going.{has_begun}

pub caught_up : (old new : CallerValue) (has_all : Bool) → GoesOnByEvents old.ports.node new.ports.node → (has_all ≡ true → HasNoEventFor new.ports.database new.ports.node)
    → (has_all ≡ false → StaysBehind old.ports.database old.ports.node new.ports.node) → new ≡ record old { ports = record old.ports { node = new.ports.node } } → MayHaveCaughtUp old new
caught_up old new has_all goes all left same = record {
  taken = said_so old.ports.database old.ports.node new.ports.node has_all goes (λ has. subst (λ (v : CallerValue). HasNoEventFor v.ports.database new.ports.node) same (all has)) left;
  same = same;
}

module _ (stay : OpenStays) (s0 s : SiteValue) (room : HasMadeRoom s0 s) (site : IsSite s) where
  same_caller : s.caller ≡ s0.caller
  same_caller = ap (λ (v : SiteValue). v.caller) room.same

  -- all else is as it was, but for more room
  same_so : (c' : CallerValue) → record { caller = c'; opened = s.opened; begun = s.begun } ≡ record s0 { caller = c'; opened = record s0.opened { capacity = s.opened.capacity } }
  same_so c' = ap (λ (v : SiteValue). record v { caller = c' }) room.same

  pub reading_not_begun : (bounds : Bounds) (first c' : CallerValue) → MayHaveCaughtUp s.caller first → c' ≡ first → (was : ℕ)
      → BeginPlaced bounds was was s0 NO_MEMORY (record { caller = c'; opened = s.opened; begun = s.begun })
  reading_not_begun bounds first c' caught same was = inl (
    room.may,
    inr (
      record {
        number_is = refl;
        first = first;
        caught_up = subst (λ (c : CallerValue). MayHaveCaughtUp c first) same_caller caught;
        caller = same;
        same = same_so c';
      },
      refl,
    ),
  )

  -- a transaction that writes did not begin, for this reason
  pub writing_not_begun : (begins : CallerValue → CallerValue → Open → Type 0) (reason : CallerValue → DbError → Type 0) (error : DbError) (number : ℕ) → number ≡ database_number error
      → reason s.caller error → (c' : CallerValue) → c' ≡ s.caller → (was : ℕ)
      → BeginWritePlaced begins (reason s0.caller) was was s0 number (record { caller = c'; opened = s.opened; begun = s.begun })
  writing_not_begun begins reason error number is refused c' same was = inl (
    room.may,
    inr (
      record {
        error = error;
        number_is = is;
        refused = subst (λ (c : CallerValue). reason c error) same_caller refused;
        caller = same ∙ same_caller;
        same = same_so c';
      },
      refl,
    ),
  )

  module _ (c' : CallerValue) (keeps : KeepsCaller s.caller c') (grown : HasGrownDatabase s.caller.ports.database c'.ports.database) (x : Open) (is_of : IsOpenOf c' x) (opened' : Slab Opened)
      (begun' n : ℕ) (added : HasPutAtPlace x s.opened s.begun opened' begun' n) (was : ℕ) where
    pub reading_begun : (bounds : Bounds) (first : CallerValue) (t : TxnValue) → x ≡ Reading t → MayHaveCaughtUp s.caller first → IsBegunReading opaque_next bounds first c' t
        → BeginPlaced bounds was n s0 DONE (record { caller = c'; opened = opened'; begun = begun' })
    reading_begun bounds first t is caught begun = inl (
      room.may,
      inl (
        refl,
        has_begun stay s0 s room site c' keeps grown x is_of opened' begun' n added (BeginsReading bounds) (record {
          first = first;
          caught_up = subst (λ (c : CallerValue). MayHaveCaughtUp c first) same_caller caught;
          txn = t;
          is = is;
          begun = begun;
        }),
      ),
    )

    pub writing_begun : (begins : CallerValue → CallerValue → Open → Type 0) (reason : DbError → Type 0) → begins s.caller c' x
        → BeginWritePlaced begins reason was n s0 DONE (record { caller = c'; opened = opened'; begun = begun' })
    writing_begun begins reason so =
        inl (room.may, inl (refl, has_begun stay s0 s room site c' keeps grown x is_of opened' begun' n added begins (subst (λ (c : CallerValue). begins c c' x) same_caller so)))
