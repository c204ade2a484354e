-- A commit that read nothing, and results of calls.
use Rattle.std.proofs.Common.{◌≡◌, ℕ, [], Bool, true, false, refl, arith}
use Rattle.std.specs.Prelude.{Result, Ok, Err, OnOk}
use Rattle.txc_tags.proofs.Merging.{match_nothing}
use Rattle.txc_db.specs.declared.error.DbError.{DbError}
use Rattle.txc_db.specs.declared.error.DbError.TheVariants.{Broken}
use Rattle.txc_db.specs.History.{tags_at}
use Rattle.txc_stream.specs.Names.{Name, stored, unstored}
use Rattle.txc_db.specs.DatabaseValue.{DatabaseValue}
use Rattle.txc_db.specs.Room.{AreTagsKept}
use Rattle.txc_db.specs.Calls.{IsUnread}
use Rattle.txc_db_carry.specs.declared.error.CarryError.{CarryError}
use Rattle.txc_db_carry.specs.declared.error.CarryError.TheVariants.{Old}
use Rattle.txc_db_carry.specs.Carry.{IsCarryRefused, IsCarryStepRefused}

-- where the horizon is 0, the tags of each event are kept
all_kept : (name : Name) (horizon : ℕ) → horizon ≡ 0 → AreTagsKept name horizon 0
all_kept (stored cells) horizon none = tt
all_kept (unstored number) horizon none = omega (arith, none)

pub nothing_read : (d : DatabaseValue) → d.broken ≡ false → d.horizon ≡ 0 → IsUnread d 0 []
nothing_read d whole none = record { whole = whole; known = omega arith; kept = all_kept d.events d.horizon none; apart = λ e after within. match_nothing (tags_at d.history e) }

-- ---- results

pub then_ok : {T E P Q : Type 0} (r : Result T E) → OnOk r P → (P → Q) → OnOk r Q
then_ok (Ok x) p to = to p
then_ok (Err e) p to = tt

-- what is refused where it is broken, and was not refused, is not broken
pub not_broken : {T : Type 0} (d : DatabaseValue) (r : Result T DbError) (x : T) → (d.broken ≡ true → r ≡ Err Broken) → r ≡ Ok x → d.broken ≡ false
not_broken d r x refused is = go d.broken refl
  where
    go : (b : Bool) → d.broken ≡ b → d.broken ≡ false
    go true e = let f = refused e in absurd (cc (f, is))
    go false e = e

-- what a step is refused for, the carry is, where the old database is whole
pub refused_by : (d : DatabaseValue) (room : ℕ) (e : CarryError) → d.broken ≡ false → IsCarryStepRefused d room e → IsCarryRefused d room e
refused_by d room (Old Broken) whole r = absurd r
refused_by d room e whole r = (whole, r)
