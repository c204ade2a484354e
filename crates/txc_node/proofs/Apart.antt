-- Entries that stand at places of their own.
use Rattle.std.proofs.Common.{◌≡◌, ℕ, ◌-◌, ◌<◌, Bool, true, false, not, eqb, cond, List, [], ◌∷◌, length, get_or, take, map, refl, sym, ap, ◌∙◌, arith, suc, zero}
use Rattle.std.specs.List.{AllByRecursion, filter, remove}
use Rattle.std.proofs.lemmas.Bool.Decides.{same_from_decides, Decides-like, Decides-eqb}
use Rattle.txc_tags.specs.Keys.{Call, same_call}
use Rattle.txc_tags.proofs.Offered.{same_call_itself, same_call_iff}
use Rattle.txc_tags.specs.declared.tag.Tag.{Tag}
use Rattle.txc_tags.proofs.All.{all-filter, all-take}
use Rattle.txc_stamp.specs.Interval.{closed_at}
use Rattle.txc_node.specs.declared.entry.Entry.{Entry}
use Rattle.txc_node.specs.Entries.{same_place, others, AreApart}
use Rattle.txc_node.specs.Cache.{is_invalidated, entry_after}

pub eqb_sym : (m n : ℕ) → eqb m n ≡ eqb n m
eqb_sym m n = same_from_decides (eqb m n) (eqb n m) (Decides-eqb m n) (Decides-like (eqb n m) (λ (e : n ≡ m). sym e) (λ (e : m ≡ n). sym e) (Decides-eqb n m))

same_call_sym : (a b : Call) → same_call a b ≡ same_call b a
same_call_sym a b = same_from_decides (same_call a b) (same_call b a) (same_call_iff a b) (Decides-like (same_call b a) (λ (e : b ≡ a). sym e) (λ (e : a ≡ b). sym e) (same_call_iff b a))

pub same_place_self : (a : Entry) → same_place a a ≡ true
same_place_self a = rw (same_call_itself a.key, (Decides-eqb a.reach.lo a.reach.lo).1 refl)

pub same_place_sym : (a b : Entry) → same_place a b ≡ same_place b a
same_place_sym a b = rw (same_call_sym a.key b.key, eqb_sym a.reach.lo b.reach.lo)

-- ---- a filter by a test that all, or some, pass

filter_all : (test : Entry → Bool) (es : List Entry) → AllByRecursion (λ o. test o ≡ false) es → filter (λ o. not (test o)) es ≡ es
filter_all test [] h = refl
filter_all test (e ∷ es) h = ap (λ b. cond (not b) (e ∷ filter (λ o. not (test o)) es) (filter (λ o. not (test o)) es)) h.0 ∙ ap (λ xs. e ∷ xs) (filter_all test es h.1)

others_all : (e : Entry) (es : List Entry) → AllByRecursion (λ o. same_place o e ≡ false) es → others e es ≡ es
others_all e es h = filter_all (λ o. same_place o e) es h

others_first : (e x : Entry) (es : List Entry) (b : Bool) → same_place x e ≡ b → others e (x ∷ es) ≡ cond (not b) (x ∷ others e es) (others e es)
others_first e x es b h = ap (λ t. cond (not t) (x ∷ others e es) (others e es)) h

pub recursion_at : (P : Entry → Type 0) (es : List Entry) (i : ℕ) (d : Entry) → i < length es → AllByRecursion P es → P (get_or es i d)
recursion_at P [] i d l h = absurd (omega arith)
recursion_at P (e ∷ es) zero d l h = h.0
recursion_at P (e ∷ es) (suc i) d l h = recursion_at P es i d (omega arith) h.1

-- without the entry at i is without its place
pub remove_is_others : (es : List Entry) (i : ℕ) (d : Entry) → i < length es → AreApart es → remove es i ≡ others (get_or es i d) es
remove_is_others [] i d l h = absurd (omega arith)
remove_is_others (e ∷ es) zero d l h = sym (others_first e e es true (same_place_self e) ∙ others_all e es h.0)
remove_is_others (e ∷ es) (suc i) d l h =
    let x = get_or es i d in
    ap (λ xs. e ∷ xs) (remove_is_others es i d (omega arith) h.1) ∙ sym (others_first x e es false (same_place_sym e x ∙ recursion_at (λ o. same_place o e ≡ false) es i d (omega arith) h.0))

-- ---- what stays apart

pub filter_apart : (test : Entry → Bool) (es : List Entry) → AreApart es → AreApart (filter test es)
filter_apart test [] h = tt
filter_apart test (e ∷ es) h =
    let go : (b : Bool) → AreApart (cond b (e ∷ filter test es) (filter test es)) = λ b. elim b as (λ v. AreApart (cond v (e ∷ filter test es) (filter test es))) [ true ↦ (all-filter (λ o. same_place o e ≡ false) test es h.0, filter_apart test es h.1) | false ↦ filter_apart test es h.1 ] in
    go (test e)

pub others_elsewhere : (e : Entry) (es : List Entry) → AllByRecursion (λ o. same_place o e ≡ false) (others e es)
others_elsewhere e [] = tt
others_elsewhere e (x ∷ es) =
    let P : Entry → Type 0 = λ o. same_place o e ≡ false in
    let go : (b : Bool) → same_place x e ≡ b → AllByRecursion P (cond (not b) (x ∷ others e es) (others e es)) = λ b. elim b as (λ v. same_place x e ≡ v → AllByRecursion P (cond (not v) (x ∷ others e es) (others e es))) [ true ↦ (λ _. others_elsewhere e es) | false ↦ (λ h. (h, others_elsewhere e es)) ] in
    go (same_place x e) refl

pub first_apart : (e : Entry) (es : List Entry) → AreApart es → AreApart (e ∷ others e es)
first_apart e es h = (others_elsewhere e es, filter_apart (λ o. not (same_place o e)) es h)

pub take_apart : (n : ℕ) (es : List Entry) → AreApart es → AreApart (take n es)
take_apart zero es h = tt
take_apart (suc n) [] h = tt
take_apart (suc n) (e ∷ es) h = (all-take (λ o. same_place o e ≡ false) n es h.0, take_apart n es h.1)

pub after_left : (stamp : ℕ) (tags : List Tag) (e o : Entry) → same_place (entry_after stamp tags e) o ≡ same_place e o
after_left stamp tags e o =
    let go : (b : Bool) → same_place (cond b (record e { reach = closed_at (stamp - 1) e.reach }) e) o ≡ same_place e o = λ b. elim b as (λ v. same_place (cond v (record e { reach = closed_at (stamp - 1) e.reach }) e) o ≡ same_place e o) [ true ↦ refl | false ↦ refl ] in
    go (is_invalidated stamp tags e)

pub after_both : (stamp : ℕ) (tags : List Tag) (e o : Entry) → same_place (entry_after stamp tags e) (entry_after stamp tags o) ≡ same_place e o
after_both stamp tags e o = after_left stamp tags e (entry_after stamp tags o) ∙ same_place_sym e (entry_after stamp tags o) ∙ after_left stamp tags o e ∙ same_place_sym o e

after_elsewhere : (stamp : ℕ) (tags : List Tag) (e : Entry) (es : List Entry) → AllByRecursion (λ o. same_place o e ≡ false) es → AllByRecursion (λ o. same_place o (entry_after stamp tags e) ≡ false) (map (entry_after stamp tags) es)
after_elsewhere stamp tags e [] h = tt
after_elsewhere stamp tags e (x ∷ es) h = (after_both stamp tags x e ∙ h.0, after_elsewhere stamp tags e es h.1)

pub after_apart : (stamp : ℕ) (tags : List Tag) (es : List Entry) → AreApart es → AreApart (map (entry_after stamp tags) es)
after_apart stamp tags [] h = tt
after_apart stamp tags (e ∷ es) h = (after_elsewhere stamp tags e es h.0, after_apart stamp tags es h.1)
