-- Net changes may be written one after another.
use Rattle.std.proofs.Common.{◌≡◌, inl, inr, ℕ, suc, ◌≤◌, List, [], ◌∷◌, ◌++◌, true, false, true≢false, nat_lt, ◌&&◌, ◌||◌, ◌==◌, None, refl, sym, subst, ◌∙◌, arith}
use Rattle.std.proofs.lemmas.Bool.Decides.{nat_tests}
use borrow.Author.Tests.{eqb-true, le-leb}
use Rattle.std.specs.List.{AllByRecursion, list_all}
use Rattle.sqlite_trees.proofs.ListLemmas.{all_both}
use Rattle.txc_rows.specs.declared.version.Versioned.{Versioned}
use Rattle.txc_rows.specs.declared.query.Change.{Change}
use Rattle.txc_rows.specs.declared.query.Change.TheVariants.{Put, Remove}
use Rattle.txc_rows.specs.States.{RowValue, State, is_at}
use Rattle.txc_rows.specs.RowTags.{has_row}
use Rattle.txc_rows.specs.Net.{change_table, change_id, key_before, changes_state, KeysAscend}
use Rattle.txc_rows.specs.Versions.{is_visible, closed, removed, IsPutOver, IsChange, AreChanges, after_write}
use Rattle.txc_rows.specs.VersionsAndStates.{VersionsSay, AreUpTo}
use Rattle.txc_rows.specs.Laws.{NetIsWritable}
use Rattle.txc_rows.proofs.Members.{IsIn, bool_cases, both_true, not_true_is}
use Rattle.txc_rows.proofs.RowTests.{has_there}
use Rattle.txc_rows.proofs.SaysLemmas.{said_only, in_front, left}

-- ---- a change leaves what may be written at other keys

abbrev AreApart : Change → Change → Type 0
AreApart c d = change_table d ≡ change_table c → change_id d ≡ change_id c → ⊥

apart_left : (t i s : ℕ) (v : Versioned) → (v.row.table ≡ t → v.row.id ≡ i → ⊥) → closed t i s v ≡ v
apart_left t i s v other = elim (bool_cases (is_at t i v.row)) [
  | inl hit ↦ let it = both_true (v.row.table == t) (v.row.id == i) hit in absurd (other (eqb-true _ _ it.0) (eqb-true _ _ it.1))
  | inr off ↦ left s t i v off
]

over_removed : (t i s : ℕ) (row : RowValue) → (row.table ≡ t → row.id ≡ i → ⊥) → (vs : List Versioned) → IsChange s (Put row) vs → IsChange s (Put row) (removed t i s vs)
over_removed t i s row other [] h = tt
over_removed t i s row other (v ∷ vs) h =
    (λ a b. subst (IsPutOver s row) (sym (apart_left t i s v (λ x y. other (sym a ∙ x) (sym b ∙ y)))) (h.0 a b), over_removed t i s row other vs h.1)

gone_removed : (t i s table id : ℕ) (vs : List Versioned) → IsChange s (Remove table id) vs → IsChange s (Remove table id) (removed t i s vs)
gone_removed t i s table id [] h = tt
gone_removed t i s table id (v ∷ vs) h = (λ a b. h.0 a b, gone_removed t i s table id vs h.1)

over_pushed : (s : ℕ) (row new : RowValue) → (row.table ≡ new.table → row.id ≡ new.id → ⊥) → (vs : List Versioned) → IsChange s (Put row) vs → IsChange s (Put row) (vs ++ record { row = new; born = s; died = None } ∷ [])
over_pushed s row new other [] h = (λ a b. absurd (other (sym a) (sym b)), tt)
over_pushed s row new other (v ∷ vs) h = (h.0, over_pushed s row new other vs h.1)

gone_pushed : (s table id : ℕ) (new : RowValue) → (table ≡ new.table → id ≡ new.id → ⊥) → (vs : List Versioned) → IsChange s (Remove table id) vs → IsChange s (Remove table id) (vs ++ record { row = new; born = s; died = None } ∷ [])
gone_pushed s table id new other [] h = (λ a b. absurd (other (sym a) (sym b)), tt)
gone_pushed s table id new other (v ∷ vs) h = (h.0, gone_pushed s table id new other vs h.1)

still : (s : ℕ) (c d : Change) (vs : List Versioned) → AreApart c d → IsChange s d vs → IsChange s d (after_write s c vs)
still s (Put r) (Put row) vs apart h = over_pushed s row r apart (removed r.table r.id s vs) (over_removed r.table r.id s row apart vs h)
still s (Put r) (Remove t i) vs apart h = gone_pushed s t i r apart (removed r.table r.id s vs) (gone_removed r.table r.id s t i vs h)
still s (Remove t i) (Put row) vs apart h = over_removed t i s row apart vs h
still s (Remove t i) (Remove table id) vs apart h = gone_removed t i s table id vs h

key_apart : (c d : Change) → key_before c d ≡ true → AreApart c d
key_apart c d before = off (change_table c) (change_id c) (change_table d) (change_id d) before
  where
    off : (t i u j : ℕ) → nat_lt t u || ((t == u) && nat_lt i j) ≡ true → u ≡ t → j ≡ i → ⊥
    off t i u j h a b = grind (arith, nat_tests)

all_still : (s : ℕ) (c : Change) (vs : List Versioned) (cs : List Change) → AllByRecursion (λ d. key_before c d ≡ true) cs → AllByRecursion (λ d. IsChange s d vs) cs → AllByRecursion (λ d. IsChange s d (after_write s c vs)) cs
all_still s c vs cs a h = all_both (λ d. key_before c d ≡ true) (λ d. IsChange s d vs) _ (λ d before is. still s c d vs (key_apart c d before) is) cs a h

each_then : (s : ℕ) (net : List Change) (vs : List Versioned) → KeysAscend net → AllByRecursion (λ c. IsChange s c vs) net → AreChanges s net vs
each_then s [] vs rise h = tt
each_then s (c ∷ cs) vs rise h = (h.0, each_then s cs (after_write s c vs) rise.1 (all_still s c vs cs rise.0 h.1))

-- ---- each net change may be written over the versions that say the state

-- a current version that nothing has happened after is visible
current_row : (n : ℕ) (v : Versioned) (vs : List Versioned) (s : State) → VersionsSay n vs s → IsIn v vs → v.born ≤ n → v.died ≡ None → IsIn v.row s
current_row n v vs s says stands low alive = said_only n vs s v.row says (in_front (is_visible n) vs v.row (record { version = v; stands = stands; passes = seen; is = refl }))
  where
    seen : is_visible n v ≡ true
    seen = rw (alive, le-leb v.born n low) refl

over_each : (n : ℕ) (row : RowValue) (vs ws : List Versioned) (s : State) → VersionsSay n vs s → ((v : Versioned) → IsIn v ws → IsIn v vs) → AreUpTo n ws
    → has_row s row ≡ false → IsChange (suc n) (Put row) ws
over_each n row vs [] s says within upto fresh = tt
over_each n row vs (v ∷ ws) s says within upto fresh = (
  λ a b. record {
    born = let low = upto.0.0 in omega arith;
    differs = λ alive same. true≢false (sym (has_there s row (subst (λ (x : RowValue). IsIn x s) same (current_row n v vs s says (within v (inl refl)) upto.0.0 alive))) ∙ fresh);
    died = λ d e. let low = upto.0.1 d e in (omega arith, λ now. absurd (late d low now));
  },
  over_each n row vs ws s says (λ w k. within w (inr k)) upto.1 fresh,
)
  where
    late : (d : ℕ) → d ≤ n → d ≡ suc n → ⊥
    late d low now = grind arith

gone_each : (n t i : ℕ) (vs : List Versioned) → AreUpTo n vs → IsChange (suc n) (Remove t i) vs
gone_each n t i [] upto = tt
gone_each n t i (v ∷ vs) upto = (λ a b. let low = upto.0.0 in omega arith, gone_each n t i vs upto.1)

one_writable : (n : ℕ) (c : Change) (vs : List Versioned) (s : State) → VersionsSay n vs s → AreUpTo n vs → changes_state s c ≡ true → IsChange (suc n) c vs
one_writable n (Put row) vs s says upto changes = over_each n row vs vs s says (λ v k. k) upto (not_true_is _ changes)
one_writable n (Remove t i) vs s says upto changes = gone_each n t i vs upto

all_writable : (n : ℕ) (net : List Change) (vs : List Versioned) (s : State) → VersionsSay n vs s → AreUpTo n vs → list_all (changes_state s) net ≡ true → AllByRecursion (λ c. IsChange (suc n) c vs) net
all_writable n [] vs s says upto e = tt
all_writable n (c ∷ cs) vs s says upto e = let two = both_true (changes_state s c) (list_all (changes_state s) cs) e in (one_writable n c vs s says upto two.0, all_writable n cs vs s says upto two.1)

pub net_is_writable : NetIsWritable
net_is_writable states horizon newest net vs new kept says is =
    each_then (suc newest) net vs is.rising (all_writable newest net vs (states newest) (says.kept newest kept (omega arith)) says.upto is.each)
