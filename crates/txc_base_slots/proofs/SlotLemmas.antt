-- What changes of slots make of what they hold.
use Rattle.std.proofs.Common.{◌≡◌, ◌≢◌, ℕ, List, [], ◌∷◌, ◌++◌, Bool, true, false, cond, Option, Some, None, refl, sym, ap, subst, ◌∙◌, append_assoc, arith}
use Rattle.std.proofs.lemmas.Bool.Decides.{nat_tests}
use Rattle.std.specs.declared.cmp.Ordering.{Ordering}
use Rattle.std.specs.declared.cmp.Ordering.TheVariants.{Less, Equal, Greater}
use Rattle.std.specs.Ordering.{nat_cmp, ordering_then, is_eq, match_ordering}
use Rattle.std.specs.List.{AllByRecursion}
use Rattle.std.specs.List.Sorted.{IsPermutation, IsStrictlySortedBy}
use Rattle.std.proofs.lemmas.Map.Keys.{sorted_head, sorted_tail}
use Rattle.std.specs.Map.{keys_of, lookup, set_value, remove_entry}
use Rattle.std.specs.BTreeMap.{insert_entry}
use Rattle.std.proofs.lemmas.List.Sorted.{IsPermutation-refl, IsPermutation-trans, IsPermutation-append_left, IsPermutation-append_right, IsPermutation-append_comm}
use Rattle.std.proofs.lemmas.Map.Lookups.{exact_unsigned}
use Rattle.std.proofs.lemmas.Option.{same_Some}
use Rattle.txc_base_slots.specs.declared.slots.SlotKey.{SlotKey}
use Rattle.txc_base_slots.specs.Slots.{key_cmp, is_key, held_at, held, undone, Changes}

-- ---- keys

then_equal : (o p : Ordering) → is_eq (ordering_then o p) ≡ true → (o ≡ Equal) × (is_eq p ≡ true)
then_equal Less p e = absurd (let f = e in cc)
then_equal Equal p e = (refl, e)
then_equal Greater p e = absurd (let f = e in cc)

equal : (o : Ordering) → is_eq o ≡ true → o ≡ Equal
equal Less e = absurd (let f = e in cc)
equal Equal e = refl
equal Greater e = absurd (let f = e in cc)

abbrev key_of : ℕ → ℕ → ℕ → SlotKey
key_of t n i = record { table = t; number = n; id = i }

-- the slot of a key has that key
pub key_exact : (k l : SlotKey) → is_key k l ≡ true → k ≡ l
key_exact k l same =
    let tables = then_equal (nat_cmp k.table l.table) _ same in
    let numbers = then_equal (nat_cmp k.number l.number) _ tables.1 in
    let t = exact_unsigned k.table l.table tables.0 in
    let n = exact_unsigned k.number l.number numbers.0 in
    let i = exact_unsigned k.id l.id (equal _ numbers.1) in
    let it : key_of k.table k.number k.id ≡ key_of l.table l.number l.id = rw (t, n, i) refl in
    it

less_apart : (k l m : SlotKey) → k ≡ l → key_cmp l m ≡ Less → is_key k m ≡ false
less_apart k l m same less = rw (same, less) refl

-- ---- permutations

pub aside : {X : Type 0} (a b c : List X) → IsPermutation (a ++ (b ++ c)) (b ++ (a ++ c))
aside a b c =
    let turned : IsPermutation ((a ++ b) ++ c) ((b ++ a) ++ c) = IsPermutation-append_left c _ _ (IsPermutation-append_comm a b) in
    subst (λ l. IsPermutation l (b ++ (a ++ c))) (append_assoc a b c) (subst (IsPermutation ((a ++ b) ++ c)) (append_assoc b a c) turned)

all-append : {X : Type 0} (P : X → Type 0) (xs ys : List X) → AllByRecursion P xs → AllByRecursion P ys → AllByRecursion P (xs ++ ys)
all-append P [] ys one two = two
all-append P (x ∷ xs) ys one two = (one.0, all-append P xs ys one.1 two)

-- ---- one slot

module _ {V : Type 0} (test : SlotKey → Bool) where
  pub set_absent : (es : List (SlotKey × Option V)) (w : Option V) → lookup test es ≡ None → set_value test es w ≡ es
  set_absent [] w none = refl
  set_absent (e ∷ es) w none = go (test e.0) none (set_absent es w)
    where
      go : (b : Bool) → cond b (Some e.1) (lookup test es) ≡ None → (lookup test es ≡ None → set_value test es w ≡ es) → cond b ((e.0, w) ∷ es) (e ∷ set_value test es w) ≡ e ∷ es
      go true none more = absurd (let f = none in cc)
      go false none more = ap (λ xs. e ∷ xs) (more none)

  pub set_back : (es : List (SlotKey × Option V)) (was w : Option V) → lookup test es ≡ Some was → set_value test (set_value test es w) was ≡ es
  set_back [] was w found = absurd (let f = found in cc)
  set_back (e ∷ es) was w found = go (test e.0) refl found (set_back es was w)
    where
      go : (b : Bool) → test e.0 ≡ b → cond b (Some e.1) (lookup test es) ≡ Some was → (lookup test es ≡ Some was → set_value test (set_value test es w) was ≡ es)
          → set_value test (set_value test (e ∷ es) w) was ≡ e ∷ es
      go true at found more = rw (at, at) (ap (λ v. (e.0, v) ∷ es) (sym (same_Some e.1 was found)))
      go false at found more = rw (at, at) (ap (λ xs. e ∷ xs) (more found))

  pub held_removed : (es : List (SlotKey × Option V)) → lookup test es ≡ Some None → held (remove_entry test es) ≡ held es
  held_removed [] found = absurd (let f = found in cc)
  held_removed (e ∷ es) found = go (test e.0) found (held_removed es)
    where
      go : (b : Bool) → cond b (Some e.1) (lookup test es) ≡ Some None → (lookup test es ≡ Some None → held (remove_entry test es) ≡ held es) → held (cond b es (e ∷ remove_entry test es)) ≡ held_at e.0 e.1 ++ held es
      go true found more = rw (same_Some e.1 None found) refl
      go false found more = ap (λ xs. held_at e.0 e.1 ++ xs) (more found)

module _ {V : Type 0} (k : SlotKey) where
  pub held_made : (es : List (SlotKey × Option V)) → lookup (is_key k) es ≡ None → held (insert_entry key_cmp es k None) ≡ held es
  held_made [] none = refl
  held_made (e ∷ es) none = go (key_cmp k e.0) none (held_made es)
    where
      go : (o : Ordering) → cond (is_eq o) (Some e.1) (lookup (is_key k) es) ≡ None → (lookup (is_key k) es ≡ None → held (insert_entry key_cmp es k None) ≡ held es)
          → held (match_ordering o ((k, None) ∷ e ∷ es) ((e.0, None) ∷ es) (e ∷ insert_entry key_cmp es k None)) ≡ held_at e.0 e.1 ++ held es
      go Less none more = refl
      go Equal none more = absurd (let f = none in cc)
      go Greater none more = ap (λ xs. held_at e.0 e.1 ++ xs) (more none)

  others_at : (l : SlotKey) (o : Option V) → is_key k l ≡ false → AllByRecursion (λ p. is_key k p.0 ≡ false) (held_at l o)
  others_at l None off = tt
  others_at l (Some v) off = (off, tt)

  -- the keys after the first are others
  others_after : (l : SlotKey) → k ≡ l → (es : List (SlotKey × Option V)) → AllByRecursion (λ m. key_cmp l m ≡ Less) (keys_of es) → AllByRecursion (λ p. is_key k p.0 ≡ false) (held es)
  others_after l same [] above = tt
  others_after l same (e ∷ es) above = all-append _ (held_at e.0 e.1) (held es) (others_at e.0 e.1 (less_apart k l e.0 same above.0)) (others_after l same es above.1)

  pub changed : (es : List (SlotKey × Option V)) (was value : Option V) → IsStrictlySortedBy key_cmp (keys_of es) → lookup (is_key k) es ≡ Some was → Changes k value es (set_value (is_key k) es value)
  changed [] was value sorted found = absurd (let f = found in cc)
  changed (e ∷ es) was value sorted found = go (is_key k e.0) refl found (changed es was value (sorted_tail key_cmp e.0 (keys_of es) sorted))
    where
      go : (b : Bool) → is_key k e.0 ≡ b → cond b (Some e.1) (lookup (is_key k) es) ≡ Some was → (lookup (is_key k) es ≡ Some was → Changes k value es (set_value (is_key k) es value))
          → Changes k value (e ∷ es) (set_value (is_key k) (e ∷ es) value)
      go true at found more =
          let same = sym (key_exact k e.0 at) in
          record {
            was = e.1;
            found = rw at refl;
            rest = held es;
            others = others_after e.0 (key_exact k e.0 at) es (sorted_head key_cmp e.0 (keys_of es) sorted);
            before = subst (λ l. IsPermutation (held_at e.0 e.1 ++ held es) (held_at l e.1 ++ held es)) same (IsPermutation-refl (held_at e.0 e.1 ++ held es));
            after = rw at (subst (λ l. IsPermutation (held_at e.0 value ++ held es) (held_at l value ++ held es)) same (IsPermutation-refl (held_at e.0 value ++ held es)));
          }
      go false at found more =
          let it = more found in
          let one = held_at e.0 e.1 in
          record {
            was = it.was;
            found = rw at it.found;
            rest = one ++ it.rest;
            others = all-append _ one it.rest (others_at e.0 e.1 at) it.others;
            before = IsPermutation-trans _ _ _ (IsPermutation-append_right one _ _ it.before) (aside one (held_at k it.was) it.rest);
            after = rw at (IsPermutation-trans _ _ _ (IsPermutation-append_right one _ _ it.after) (aside one (held_at k value) it.rest));
          }

-- ---- what is taken back

pub undone_last : {V : Type 0} (cs : List (SlotKey × Option V)) (c : SlotKey × Option V) (es : List (SlotKey × Option V)) → undone (cs ++ c ∷ []) es ≡ undone cs (set_value (is_key c.0) es c.1)
undone_last [] c es = refl
undone_last (x ∷ cs) c es = ap (λ xs. set_value (is_key x.0) xs x.1) (undone_last cs c es)

pub undone_pair : {V : Type 0} (cs : List (SlotKey × Option V)) (k : SlotKey) (was : Option V) (es : List (SlotKey × Option V)) → undone (cs ++ (k, was) ∷ []) es ≡ undone cs (set_value (is_key k) es was)
undone_pair cs k was es = undone_last cs (k, was) es

pub undone_noted : {V : Type 0} (cs : List (SlotKey × Option V)) (k : SlotKey) (was value : Option V) (old new : List (SlotKey × Option V)) → lookup (is_key k) old ≡ Some was → new ≡ set_value (is_key k) old value
    → undone (cs ++ (k, was) ∷ []) new ≡ undone cs old
undone_noted cs k was value old new found are = undone_last cs (k, was) new ∙ ap (undone cs) (ap (λ xs. set_value (is_key k) xs was) are ∙ set_back (is_key k) old was value found)

-- ---- what is held is found

pub number_itself : (a : ℕ) → nat_cmp a a ≡ Equal
number_itself a = grind (arith, nat_tests)

pub key_itself : (k : SlotKey) → is_key k k ≡ true
key_itself k = rw (number_itself k.table, number_itself k.number, number_itself k.id) refl

flipped : (k l : SlotKey) → key_cmp k l ≡ Less → is_key l k ≡ false
flipped k l less = go (is_key l k) refl
  where
    go : (b : Bool) → is_key l k ≡ b → b ≡ false
    go false e = refl
    go true e = absurd (let it : key_cmp k k ≡ Less = subst (λ m. key_cmp k m ≡ Less) (key_exact l k e) less in let self : is_eq (key_cmp k k) ≡ true = key_itself k in let no : is_eq Less ≡ true = subst (λ o. is_eq o ≡ true) it self in cc)

both : {X : Type 0} (P Q R : X → Type 0) → ((x : X) → P x → Q x → R x) → (xs : List X) → AllByRecursion P xs → AllByRecursion Q xs → AllByRecursion R xs
both P Q R f [] p q = tt
both P Q R f (x ∷ xs) p q = (f x p.0 q.0, both P Q R f xs p.1 q.1)

module _ {V : Type 0} where
  apart_at : (k l : SlotKey) (o : Option V) → is_key l k ≡ false → AllByRecursion (λ p. is_key p.0 k ≡ false) (held_at l o)
  apart_at k l None off = tt
  apart_at k l (Some v) off = (off, tt)

  apart_after : (k : SlotKey) (es : List (SlotKey × Option V)) → AllByRecursion (λ m. key_cmp k m ≡ Less) (keys_of es) → AllByRecursion (λ p. is_key p.0 k ≡ false) (held es)
  apart_after k [] above = tt
  apart_after k (e ∷ es) above = all-append _ (held_at e.0 e.1) (held es) (apart_at k e.0 e.1 (flipped k e.0 above.0)) (apart_after k es above.1)

  first_found : (k : SlotKey) (o : Option V) (es : List (SlotKey × Option V)) → AllByRecursion (λ p. lookup (is_key p.0) ((k, o) ∷ es) ≡ Some (Some p.1)) (held_at k o)
  first_found k None es = tt
  first_found k (Some v) es = (rw (key_itself k) refl, tt)

  pub held_found : (es : List (SlotKey × Option V)) → IsStrictlySortedBy key_cmp (keys_of es) → AllByRecursion (λ p. lookup (is_key p.0) es ≡ Some (Some p.1)) (held es)
  held_found [] sorted = tt
  held_found (e ∷ es) sorted =
      all-append _ (held_at e.0 e.1) (held es) (first_found e.0 e.1 es)
      (both (λ p. is_key p.0 e.0 ≡ false) (λ p. lookup (is_key p.0) es ≡ Some (Some p.1)) (λ p. lookup (is_key p.0) (e ∷ es) ≡ Some (Some p.1)) (λ p off found. rw off found) (held es)
      (apart_after e.0 es (sorted_head key_cmp e.0 (keys_of es) sorted)) (held_found es (sorted_tail key_cmp e.0 (keys_of es) sorted)))

-- ---- vacant slots

-- what is vacant after a removal was so before
pub still_vacant : {V : Type 0} (b : Bool) (old new : Option (Option V)) → new ≡ cond b None old → new ≡ Some None → old ≡ Some None
still_vacant true old new is vacant = absurd (let e : None ≡ Some None = sym is ∙ vacant in let f = e in cc)
still_vacant false old new is vacant = sym is ∙ vacant

-- none of these keys is vacant
abbrev pub NoneVacant : {V : Type 0} → List (SlotKey × Option V) → List (SlotKey × Option V) → Type 0
NoneVacant cs es = AllByRecursion (λ c. lookup (is_key c.0) es ≢ Some None) cs

pub still_none : {V : Type 0} (cs old new : List (SlotKey × Option V)) → ((k : SlotKey) → lookup (is_key k) new ≡ Some None → lookup (is_key k) old ≡ Some None) → NoneVacant cs old → NoneVacant cs new
still_none [] old new more all = tt
still_none (c ∷ cs) old new more all = ((λ e. all.0 (more c.0 e)), still_none cs old new more all.1)
