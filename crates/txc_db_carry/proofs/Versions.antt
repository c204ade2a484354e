-- Where the horizon is the newest stamp, each row has one version.
use Rattle.std.proofs.Common.{◌≡◌, inl, inr, ℕ, ◌≤◌, List, [], ◌∷◌, filter, length, Bool, true, false, cond, not, nat_le, ◌&&◌, ◌==◌, Some, refl, sym, ap, subst, ◌∙◌, arith}
use Rattle.std.proofs.lemmas.Bool.Decides.{nat_tests}
use Rattle.std.specs.List.{AllByRecursion}
use Rattle.txc_tags.proofs.Lists.{bool_cases, IsIn, from_filter}
use Rattle.txc_tags.proofs.All.{all_in}
use Rattle.txc_rows.specs.declared.query.Query.TheVariants.{ById}
use Rattle.txc_rows.specs.declared.version.Versioned.{Versioned}
use Rattle.txc_rows.specs.Versions.{suits, died_by, has_died_by, purged, Follows, Pairwise}
use Rattle.txc_db.specs.DatabaseValue.{DatabaseValue, IsSound, newest, least, after_vacuum}
use Rattle.txc_db.specs.Calls.{matching_of}
use Rattle.txc_db_carry.specs.declared.error.CarryError.{CarryError}
use Rattle.txc_db_carry.specs.declared.error.CarryError.TheVariants.{Old, TooManyVersions, New}
use Rattle.txc_db_carry.specs.Carry.{IsCarryStepRefused, IsNotTooMany}
use Rattle.txc_db_carry.proofs.Places.{filter_none}

off_test : (n h : ℕ) → n ≤ h → not (nat_le n h) ≡ true → ⊥
off_test n h le e = grind (arith, nat_tests)

same_table : (a b c d t i : ℕ) → (a == t) && (b == i) ≡ true → (c == t) && (d == i) ≡ true → a ≡ c
same_table a b c d t i h k = grind (arith, nat_tests)

same_id : (a b c d t i : ℕ) → (a == t) && (b == i) ≡ true → (c == t) && (d == i) ≡ true → b ≡ d
same_id a b c d t i h k = grind (arith, nat_tests)

never_died : (d : DatabaseValue) → IsSound d → d.horizon ≡ newest d → (v : Versioned) → IsIn v d.versions → (n : ℕ) → v.died ≡ Some n → ⊥
never_died d sound at v k n e =
    let upto = all_in (λ w. (w.born ≤ newest d) × ((m : ℕ) → w.died ≡ Some m → m ≤ newest d)) d.versions v sound.kept.says.upto k in
    let late : n ≤ newest d = upto.1 n e in
    let stands : IsIn v (purged d.horizon d.versions) = subst (λ vs. IsIn v vs) (sym sound.kept.clean) k in
    let lives : not (has_died_by d.horizon v) ≡ true = (from_filter (λ w. not (has_died_by d.horizon w)) v d.versions stands).1 in
    off_test n d.horizon (omega (arith, late, at)) (ap (λ o. not (died_by d.horizon o)) (sym e) ∙ lives)

others : (t i : ℕ) (v : Versioned) (ws : List Versioned) → suits (ById t i) v ≡ true → ((n : ℕ) → v.died ≡ Some n → ⊥) → AllByRecursion (Follows v) ws → AllByRecursion (λ w. suits (ById t i) w ≡ false) ws
others t i v [] suit lives a = tt
others t i v (w ∷ ws) suit lives a = (
  elim (bool_cases (suits (ById t i) w)) [
    | inl both ↦
        let it = a.0.died (same_table v.row.table v.row.id w.row.table w.row.id t i suit both) (same_id v.row.table v.row.id w.row.table w.row.id t i suit both) in
        absurd (lives it.0 it.1)
    | inr other ↦ other
  ],
  others t i v ws suit lives a.1,
)

at_most_one : (t i : ℕ) (vs : List Versioned) → Pairwise Follows vs → ((v : Versioned) → IsIn v vs → (n : ℕ) → v.died ≡ Some n → ⊥) → length (filter (suits (ById t i)) vs) ≤ 1
at_most_one t i [] apart lives = omega arith
at_most_one t i (v ∷ vs) apart lives = go (suits (ById t i) v) refl (at_most_one t i vs apart.1 (λ w k. lives w (inr k)))
  where
    go : (b : Bool) → suits (ById t i) v ≡ b → length (filter (suits (ById t i)) vs) ≤ 1 → length (cond b (v ∷ filter (suits (ById t i)) vs) (filter (suits (ById t i)) vs)) ≤ 1
    go true e rest =
        let none : filter (suits (ById t i)) vs ≡ [] = filter_none (suits (ById t i)) vs (others t i v vs e (lives v (inl refl)) apart.0) in
        let count : length (filter (suits (ById t i)) vs) ≡ 0 = ap (λ ws. length ws) none in
        omega (arith, count)
    go false e rest = rest

not_too_many : (d : DatabaseValue) (capacity : ℕ) → IsSound d → d.horizon ≡ newest d → (e : CarryError) → IsCarryStepRefused d capacity e → IsNotTooMany e
not_too_many d capacity sound at (TooManyVersions table id) many =
    let one : matching_of d (ById table id) ≤ 1 = at_most_one table id d.versions sound.kept.versions.apart (never_died d sound at) in
    let least = sound.limit.0 in
    absurd (omega (arith, many, one, least))
not_too_many d capacity sound at (Old e) r = tt
not_too_many d capacity sound at (New e) r = tt

-- after a vacuum where nothing is held
pub vacuumed_few : (old d : DatabaseValue) (capacity : ℕ) → old.holds ≡ [] → d ≡ after_vacuum old → IsSound d → (e : CarryError) → IsCarryStepRefused d capacity e → IsNotTooMany e
vacuumed_few old d capacity none is sound e r =
    let low : d.horizon ≡ newest old = ap (λ (v : DatabaseValue). v.horizon) is ∙ ap (λ holds. least (newest old) holds) none in
    let last : newest d ≡ newest old = ap newest is in
    not_too_many d capacity sound (low ∙ sym last) e r
