-- The longest prefix of the entries whose values have at most so many bytes in all.
use Rattle.std.proofs.Common.{◌≡◌, ℕ, ◌+◌, ◌-◌, ◌<◌, ◌≤◌, Bool, true, false, cond, List, [], ◌∷◌, ◌++◌, length, take, drop, get_or, refl, sym, ap, subst, ◌∙◌, arith, suc, zero}
use Rattle.std.specs.Prelude.{nat_le}
use Rattle.std.specs.List.{prefix_len, range_with_len}
use Rattle.std.proofs.lemmas.Bool.Decides.{nat_tests}
use Rattle.std.proofs.lemmas.List.Sums.{prefix_len_is}
use Rattle.std.proofs.lemmas.List.FromFn.{length-range_with_len, get_or-range_with_len}
use Rattle.std.proofs.lemmas.Bool.{le-leb, leb-true}
use Rattle.txc_node.specs.declared.entry.Entry.{Entry}
use Rattle.txc_node.specs.Cache.{Cache, IsCache, IsBounded, bytes_of, fits, staying_count, longest_within, after_trim}
use Rattle.txc_node.specs.Laws.{TrimKeepsTheFirst}
use Rattle.txc_node.proofs.Apart.{take_apart}
use Rattle.txc_node.proofs.Swept.{bounded_of, cache_of}
use Rattle.txc_node.proofs.Weights.{bytes_more}

-- a longer prefix has no fewer bytes
pub prefix_grows : (es : List Entry) (k m : ℕ) → k ≤ m → bytes_of (take k es) ≤ bytes_of (take m es)
prefix_grows [] zero m h = omega arith
prefix_grows [] (suc k) zero h = omega arith
prefix_grows [] (suc k) (suc m) h = omega arith
prefix_grows (e ∷ es) zero m h = omega arith
prefix_grows (e ∷ es) (suc k) zero h = absurd (omega arith)
prefix_grows (e ∷ es) (suc k) (suc m) h =
    let rest = prefix_grows es k m (omega arith) in
    let one = bytes_more e (take k es) in
    let other = bytes_more e (take m es) in
    omega (arith, rest, one, other)

beyond_test : (n most : ℕ) → most < n → nat_le n most ≡ false
beyond_test n most h = grind (arith, nat_tests)

is_beyond : (n most : ℕ) → nat_le n most ≡ false → most < n
is_beyond n most h = grind (arith, nat_tests)

-- the number of those that stay, by what is true of it
pub staying_is : (most : ℕ) (es : List Entry) (m : ℕ) → m ≤ length es → bytes_of (take m es) ≤ most → (m < length es → most < bytes_of (take (m + 1) es)) → staying_count most es ≡ m
staying_is most es m few within over =
    let n = length es in
    let len = length-range_with_len 1 n in
    prefix_len_is (fits most es) (range_with_len 1 n) m 0 (omega (arith, few, len))
    (λ k below.
    let at : get_or (range_with_len 1 n) k 0 ≡ 1 + k = get_or-range_with_len 1 n k 0 (omega arith) in
    let less = prefix_grows es (1 + k) m (omega arith) in
    ap (fits most es) at ∙ le-leb (bytes_of (take (1 + k) es)) most (omega (arith, less, within)))
    (λ more.
    let at : get_or (range_with_len 1 n) m 0 ≡ m + 1 = get_or-range_with_len 1 n m 0 (omega (arith, more, len)) ∙ omega arith in
    ap (fits most es) at ∙ beyond_test (bytes_of (take (m + 1) es)) most (over (omega (arith, more, len))))

-- ---- what a prefix of numbers that pass is

module _ (p : ℕ → Bool) where
  counted : (a n : ℕ) → ((i : ℕ) → a ≤ i → i < a + prefix_len p (range_with_len a n) → p i ≡ true)
      × (prefix_len p (range_with_len a n) < n → p (a + prefix_len p (range_with_len a n)) ≡ false) × (prefix_len p (range_with_len a n) ≤ n)
  counted a zero = (λ i l h. absurd (omega arith), λ h. absurd (omega arith), omega arith)
  counted a (suc n) =
      let rest = counted (a + 1) n in
      let k = prefix_len p (range_with_len (a + 1) n) in
      (elim (p a) as (λ b. p a ≡ b → ((i : ℕ) → a ≤ i → i < a + cond b (1 + k) 0 → p i ≡ true) × (cond b (1 + k) 0 < suc n → p (a + cond b (1 + k) 0) ≡ false) × (cond b (1 + k) 0 ≤ suc n)) [
        | true ↦ λ t.
            let bound = rest.2 in
            let next : a + 1 + k ≡ a + (1 + k) = omega arith in (
              λ i l h. (elim (nat_le i a) as (λ v. nat_le i a ≡ v → p i ≡ true) [
                | true ↦ λ s. let low = leb-true i a s in let same : a ≡ i = omega (arith, low, l) in subst (λ (j : ℕ). p j ≡ true) same t
                | false ↦ λ s. let high = is_beyond i a s in rest.0 i (omega (arith, high)) (omega (arith, h))
              ]) refl,
              λ h. subst (λ (j : ℕ). p j ≡ false) next (rest.1 (omega (arith, h))),
              omega (arith, bound),
            )
        | false ↦ λ t. (λ i l h. absurd (omega (arith, l, h)), λ h. subst (λ (j : ℕ). p j ≡ false) (omega arith) t, omega arith)
      ]) refl

take_length : (n : ℕ) (es : List Entry) → n ≤ length es → length (take n es) ≡ n
take_length zero es h = refl
take_length (suc n) [] h = absurd (omega arith)
take_length (suc n) (e ∷ es) h = let rest = take_length n es (omega arith) in omega (arith, rest)

drop_length : (n : ℕ) (es : List Entry) → n ≤ length es → length (drop n es) ≡ length es - n
drop_length zero es h = omega arith
drop_length (suc n) [] h = absurd (omega arith)
drop_length (suc n) (e ∷ es) h = let rest = drop_length n es (omega arith) in omega (arith, rest)

parted : (n : ℕ) (es : List Entry) → es ≡ take n es ++ drop n es
parted zero es = refl
parted (suc n) [] = refl
parted (suc n) (e ∷ es) = ap (λ xs. e ∷ xs) (parted n es)

pub staying_few : (most : ℕ) (es : List Entry) → staying_count most es ≤ length es
staying_few most es = (counted (fits most es) 1 (length es)).2

staying_fits : (most : ℕ) (es : List Entry) → bytes_of (longest_within most es) ≤ most
staying_fits most es =
    let it = counted (fits most es) 1 (length es) in
    let k = staying_count most es in
    (elim k as (λ n. k ≡ n → bytes_of (take n es) ≤ most) [
      | zero ↦ λ is. omega arith
      | suc n ↦ λ is. leb-true (bytes_of (take (suc n) es)) most (it.0 (suc n) (omega arith) (omega (arith, is)))
    ]) refl

pub trim_keeps_the_first : TrimKeepsTheFirst
trim_keeps_the_first c most =
    let es = c.entries in
    let k = staying_count most es in
    let it = counted (fits most es) 1 (length es) in
    let few = staying_few most es in
    let len = take_length k es few in
    record {
      dropped = drop k es;
      first = parted k es;
      within = staying_fits most es;
      longest = λ n more there.
          let next : bytes_of (take (1 + k) es) ≤ bytes_of (take n es) = prefix_grows es (1 + k) n (omega (arith, more, len)) in
          let over = is_beyond (bytes_of (take (1 + k) es)) most (it.1 (omega (arith, more, there, len))) in
          omega (arith, next, over);
      counted = sym (drop_length k es few);
    }

-- ---- a trim leaves a cache

take_few : (n : ℕ) (es : List Entry) → length (take n es) ≤ length es
take_few zero es = omega arith
take_few (suc n) [] = omega arith
take_few (suc n) (e ∷ es) = let rest = take_few n es in omega (arith, rest)

pub trim_bounded : (c : Cache) (most : ℕ) → IsBounded c → IsBounded (after_trim c most)
trim_bounded c most h =
    let few = take_few (staying_count most c.entries) c.entries in
    let within = h.within in
    record {
      apart = take_apart (staying_count most c.entries) c.entries h.apart;
      within = omega (arith, few, within);
      deep = h.deep;
      some = h.some;
      any = h.any;
    }

pub trim_keeps : (c : Cache) (most : ℕ) → IsCache c → IsCache (after_trim c most)
trim_keeps c most h = cache_of (after_trim c most) (trim_bounded c most (bounded_of c h)) h.kept
