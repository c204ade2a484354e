-- Databases that went on in place.
use Rattle.std.proofs.Common.{◌≡◌, ℕ, true, false, Option, None, refl, sym, ap, subst}
use Rattle.std.specs.Prelude.{Result, Ok, Err, OnOk, OnErr, is_ok}
use Rattle.txc_stream.specs.Names.{unstored, HasRow}
use Rattle.txc_db.specs.declared.error.DbError.{DbError}
use Rattle.txc_db.specs.declared.error.DbError.TheVariants.{Broken}
use Rattle.txc_db.specs.DatabaseValue.{DatabaseValue, newest, newest_state, begun_anew}
use Rattle.txc_db_carry.specs.Renewal.{IsRenewed}
use Rattle.txc_db_carry.specs.Rooms.{IsHistoryFor}
use Rattle.txc_db_carry.proofs.Refusing.{not_broken}

module _ (old new : DatabaseValue) (number : ℕ) (room : Option ℕ) (asked : room ≡ None) where
  is_renewed : new ≡ begun_anew old (unstored number) → newest_state new ≡ newest_state old → old.broken ≡ false → IsRenewed room old new
  is_renewed is state was = record {
    asked = asked;
    was = was;
    whole = ap (λ (d : DatabaseValue). d.broken) is;
    unstored = subst (λ (d : DatabaseValue). ¬ (HasRow d.events)) (sym is) (λ h. h);
    state = state;
    one = ap newest is;
    horizon = ap (λ (d : DatabaseValue). d.horizon) is;
    limit = ap (λ (d : DatabaseValue). d.most) is;
    holds = ap (λ (d : DatabaseValue). d.holds) is;
  }

  pub begun_so : {T : Type 0} (r : Result T DbError) → OnOk r (new ≡ begun_anew old (unstored number)) → OnOk r (newest_state new ≡ newest_state old) → (old.broken ≡ true → r ≡ Err Broken) → is_ok r ≡ true → IsRenewed room old new
  begun_so (Ok x) is state refused did = is_renewed is state (not_broken old (Ok x) x refused refl)
  begun_so (Err e) is state refused did = absurd (let f = did in cc)

pub left_so : {T : Type 0} (old new : DatabaseValue) (r : Result T DbError) → OnErr r (new ≡ old) → is_ok r ≡ false → new ≡ old
left_so old new (Ok x) same did = absurd (let f = did in cc)
left_so old new (Err e) same did = same

pub renewed_room : (room : Option ℕ) (old new : DatabaseValue) → IsRenewed room old new → IsHistoryFor room new.events
renewed_room room old new h = rw h.asked h.unstored
