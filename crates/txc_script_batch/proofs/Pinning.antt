-- Pins of the present that are added to a pincushion, or whose hold is taken away.
use Rattle.std.proofs.Common.{◌≡◌, ℕ, Bool, true, false, List, [], ◌∷◌, ◌++◌, Result, Ok, Err, OnOk, IfErr, eq-eqb, refl, sym, ap, ◌∙◌, ◌+◌, arith, length-append}
use Rattle.std.specs.Prelude.{◌||◌, ◌==◌}
use Rattle.std.proofs.lemmas.Bool.{false≢true, or_right}
use Rattle.txc_db.specs.declared.error.DbError.{DbError}
use Rattle.txc_db.specs.declared.error.DbError.TheVariants as refusals
use Rattle.txc_db.specs.declared.pinned.Pinned.{Pinned}
use Rattle.txc_db.specs.History.{pin_event}
use Rattle.txc_db.specs.Calls.{IsPinnable, IsUnpinRefused}
use Rattle.txc_db.specs.DatabaseValue.{after_pin, after_unpin, front_of, is_held, newest, DatabaseValue}
use Rattle.txc_cushion.specs.declared.error.AddError.{AddError}
use Rattle.txc_cushion.specs.Cushion.{after_add, after_give_back}
use Rattle.txc_cushion.specs.Refusals.{IsAddable, IsAddRefused}
use Rattle.txc_script_batch.specs.PlainDatabase.{HasPinnedPresent, HasUnpinnedPresent, IsPinOfPresent, SourceValue}

-- the pin that was made
made_of : (now : ℕ) (d e : DatabaseValue) (pinned : Pinned) → e ≡ after_pin d now → pinned.stamp ≡ newest e → pinned.moment ≡ now → pinned.front ≡ front_of e → IsPinnable d 0 → IsPinOfPresent now d pinned
made_of now d e pinned is stamp moment front can = record { stamp = stamp ∙ ap newest is; moment = moment; front = front ∙ ap front_of is; only_if = can }

pub pinned_present : (now : ℕ) (s new : SourceValue) (e : DatabaseValue) (pinned : Pinned) → e ≡ after_pin s.database now → pinned.stamp ≡ newest e → pinned.moment ≡ now → pinned.front ≡ front_of e
    → IsPinnable s.database 0 → new ≡ record { database = e; cushion = after_give_back (after_add s.cushion pinned) (pinned.stamp ∷ []) } → IsAddable s.cushion pinned.stamp
    → HasPinnedPresent now s pinned.stamp new
pinned_present now s new e pinned is stamp moment front can added addable = record {
  pinned = pinned;
  made = made_of now s.database e pinned is stamp moment front can;
  stamp_is = refl;
  only_if = addable;
  database = ap (λ (x : SourceValue). x.database) added ∙ is;
  cushion = ap (λ (x : SourceValue). x.cushion) added;
}

-- ---- the hold of a pin can be taken away

held_last : (stamp : ℕ) (holds : List ℕ) → is_held stamp (holds ++ stamp ∷ []) ≡ true
held_last stamp [] = ap (λ (b : Bool). b || false) (eq-eqb stamp stamp refl)
held_last stamp (s ∷ holds) = or_right (s == stamp) (is_held stamp (holds ++ stamp ∷ [])) (held_last stamp holds)

held_pin : (now stamp : ℕ) (d : DatabaseValue) → stamp ≡ newest (after_pin d now) → is_held stamp (after_pin d now).holds ≡ true
held_pin now stamp d is =
    let last : stamp ≡ newest d + 1 = is ∙ omega (arith, length-append d.history (pin_event now ∷ [])) in
    ap (λ (n : ℕ). is_held stamp (d.holds ++ n ∷ [])) (sym last) ∙ held_last stamp d.holds

unpinned : {T : Type 0} (now stamp : ℕ) (d e after : DatabaseValue) (r : Result T DbError) → e ≡ after_pin d now → d.broken ≡ false → stamp ≡ newest e → OnOk r (after ≡ after_unpin e stamp)
    → IfErr r (IsUnpinRefused e stamp) → after ≡ after_unpin (after_pin d now) stamp
unpinned now stamp d e after (Ok x) is whole last done refused = done ∙ ap (λ (x : DatabaseValue). after_unpin x stamp) is
unpinned now stamp d e after (Err refusals.Broken) is whole last done refused = absurd (false≢true (sym whole ∙ sym (ap (λ (x : DatabaseValue). x.broken) is) ∙ refused))
unpinned now stamp d e after (Err (refusals.NotPinned named)) is whole last done refused =
    absurd (false≢true (sym refused.1 ∙ ap (λ (x : DatabaseValue). is_held stamp x.holds) is ∙ held_pin now stamp d (last ∙ ap newest is)))
unpinned now stamp d e after (Err error) is whole last done refused = absurd refused

pub unpinned_present : {T : Type 0} (now : ℕ) (s new : SourceValue) (e after : DatabaseValue) (pinned : Pinned) (error : AddError) (r : Result T DbError) → e ≡ after_pin s.database now → pinned.stamp ≡ newest e
    → pinned.moment ≡ now → pinned.front ≡ front_of e → IsPinnable s.database 0 → new ≡ record { database = e; cushion = s.cushion } → IsAddRefused s.cushion pinned.stamp error
    → OnOk r (after ≡ after_unpin new.database pinned.stamp) → IfErr r (IsUnpinRefused new.database pinned.stamp)
    → HasUnpinnedPresent now s error (record { database = after; cushion = new.cushion })
unpinned_present now s new e after pinned error r is stamp moment front can same refused done not_done =
    let database : new.database ≡ e = ap (λ (x : SourceValue). x.database) same in
    record {
      pinned = pinned;
      made = made_of now s.database e pinned is stamp moment front can;
      refused = refused;
      database = unpinned now pinned.stamp s.database new.database after r (database ∙ is) can.whole (stamp ∙ ap newest (sym database)) done not_done;
      cushion = ap (λ (x : SourceValue). x.cushion) same;
    }
