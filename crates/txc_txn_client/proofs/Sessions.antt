-- What a caller reads in a session.
use Rattle.std.proofs.Common.{◌≡◌, inl, inr, ℕ, zero, suc, ◌≤◌, List, [], ◌∷◌, length, take, Option, Some, None, refl, ap, subst, arith}
use Rattle.std.specs.Prelude.{option_map, IfSome}
use Rattle.std.specs.List.{AllByRecursion}
use mathlib.Core.List.{IsPrefix}
use Rattle.txc_stream.proofs.Offered.{prefix_take}
use Rattle.txc_db.specs.History.{History}
use Rattle.txc_db.proofs.Histories.{pin_within}
use Rattle.txc_cushion.specs.declared.pin.Pin.{Pin}
use Rattle.txc_app.specs.Eval.{Next}
use Rattle.txc_tags.proofs.All.{all_front}
use Rattle.txc_txn_ports.specs.declared.bounds.Bounds.{Bounds}
use Rattle.txc_txn_ports.specs.declared.recorded.Recorded.{Recorded}
use Rattle.txc_txn.specs.TxnCore.{Explains}
use Rattle.txc_txn.specs.Sessions.{began, noted_commit, noted_receipt, stamp_of, SessionEvent, HasNoted}
use Rattle.txc_txn.proofs.Sessions.{floor_stays}
use Rattle.txc_txn_client.specs.Sessions.{read_by, BeginningNotesNothing, IsNoNewer, IsOfDatabase, SessionsAreMonotonic}

-- ---- beginnings of one history

-- the shorter of two beginnings is a beginning of the longer one
take_longer : {A : Type 0} (xs : List A) (m n : ℕ) → m ≤ n → IsPrefix (take m xs) (take n xs)
take_longer xs zero n below = (take n xs, refl)
take_longer [] (suc m) n below = (take n [], refl)
take_longer (x ∷ xs) (suc m) zero below = absurd (omega (arith, below))
take_longer (x ∷ xs) (suc m) (suc n) below =
    let rest = take_longer xs m n (omega (arith, below)) in (rest.0, ap (λ (l : List _). x ∷ l) rest.1)

-- what two have seen of one history
one_history : {A : Type 0} (L K M : List A) (m n : ℕ) → IsPrefix K L → IsPrefix M L → m ≤ length K → n ≤ length M → m ≤ n → IsPrefix (take m K) (take n M)
one_history L K M m n one other within within' below =
    subst (λ (xs : List _). IsPrefix xs (take n M)) (prefix_take K L m one within)
    (subst (λ (xs : List _). IsPrefix (take m L) xs) (prefix_take M L n other within') (take_longer L m n below))

explained_within : (next : Next) (K : History) (bounds : Bounds) (pin : Pin) (answers : List Recorded) → Explains next K bounds (Some pin) answers → pin.stamp ≤ length K
explained_within next K bounds pin answers h = pin_within K pin.stamp pin.moment h.1.shown

-- ---- what a caller reads

module _ (next : Next) (L M : History) (n : ℕ) (on : IsPrefix M L) (within : n ≤ length M) where
  -- what was noted with a stamp that is not above
  no_newer : (deed : SessionEvent) → IsOfDatabase next L deed → ((stamp : ℕ) → stamp_of deed ≡ Some stamp → stamp ≤ n) → IsNoNewer (take n M) deed
  no_newer (began bounds) of low = tt
  no_newer (noted_commit stamp seen) of low = one_history L seen.history M stamp n of.0 on of.1 within (low stamp refl)
  no_newer (noted_receipt receipt) of low = go receipt.pin refl
    where
      go : (pin : Option Pin) → receipt.pin ≡ pin → IsNoNewer (take n M) (noted_receipt receipt)
      go None none = rw none tt
      go (Some pin) some = rw some (
          one_history L receipt.seen.history M pin.stamp n of.1.seen on
          (explained_within next receipt.seen.history of.0 pin receipt.answers.items (subst (λ (p : Option Pin). Explains next receipt.seen.history of.0 p receipt.answers.items) some of.1.explained))
          within (low pin.stamp (ap (λ (p : Option Pin). option_map (λ (q : Pin). q.stamp) p) some)))

  none_newer : (deeds : List SessionEvent) → AllByRecursion (IsOfDatabase next L) deeds → ((stamp : ℕ) → HasNoted deeds stamp → stamp ≤ n)
      → AllByRecursion (IsNoNewer (take n M)) deeds
  none_newer [] of low = tt
  none_newer (deed ∷ deeds) of low = (
    no_newer deed of.0 (λ stamp is. low stamp (inl is)),
    none_newer deeds of.1 (λ stamp among. low stamp (inr among)),
  )

pub sessions_are_monotonic : SessionsAreMonotonic
sessions_are_monotonic next L deeds of session before after bounds receipt is own = go receipt.pin refl
  where
    among : AllByRecursion (IsOfDatabase next L) before
    among = all_front (IsOfDatabase next L) before (began bounds ∷ after) (subst (AllByRecursion (IsOfDatabase next L)) is of)

    go : (pin : Option Pin) → receipt.pin ≡ pin → IfSome (read_by receipt) (λ read. AllByRecursion (IsNoNewer read) before)
    go None none = rw none tt
    go (Some pin) some =
        let explained = subst (λ (p : Option Pin). Explains next receipt.seen.history bounds p receipt.answers.items) some own.explained in
        let late = explained.1.allowed.late in
        rw some (none_newer next L receipt.seen.history pin.stamp own.seen (explained_within next receipt.seen.history bounds pin receipt.answers.items explained)
        before among (λ stamp noted. let low = (session before after bounds is).greatest stamp noted in omega (arith, low, late)))

pub beginning_notes_nothing : BeginningNotesNothing
beginning_notes_nothing deeds bounds floor h = floor_stays deeds (began bounds) floor h refl
