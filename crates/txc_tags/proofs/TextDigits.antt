-- Digits: where a number's text ends, and which numbers begin so.
use Rattle.std.proofs.Common.{◌≡◌, ℕ, ◌+◌, ◌-◌, ◌*◌, ◌/◌, ◌%◌, ◌^◌, ◌<◌, ◌≤◌, Option, None, Some, List, [], ◌∷◌, ◌++◌, length, take, get_or, refl, sym, ap, subst, ◌∙◌, arith, suc, zero, append_assoc, length-append}
use Rattle.std.specs.Fmt.{decimal}
use Rattle.std.specs.Str.Parse.{AllDigits, digits_value}
use Rattle.std.proofs.lemmas.List.{take_at, append_cancel_left}
use Rattle.std.proofs.lemmas.Fmt.{decimal_is_IsNumeral, decimal_step, decimal_digit, first_decimal, decimal_injective, decimal_nonempty}
use Rattle.std.proofs.lemmas.Str.{digit_value_digit}
use Rattle.std.proofs.lemmas.Str.Parse.{digits_value-take-le, digit_from_value}
use Rattle.std.proofs.lemmas.Int.Digits.{digits_value_push}
use Rattle.txc_tags.specs.TextNumber.{IsDigit, digits_read}
use Rattle.txc_tags.specs.TextReader.{IsWord, IsNumber, IsNumbered, NoneGoesOn, GoesWrong}
use Rattle.txc_tags.proofs.TextReading.{Solid, split, solid_apart, then_solid, word_apart, word_solid}

-- what stands in a text of digits is a digit
pub digit_within : (xs ys : List ℕ) (b : ℕ) → AllDigits 10 (xs ++ b ∷ ys) → IsDigit b
digit_within [] ys b h = digit_from_value b h.0
digit_within (x ∷ xs) ys b h = digit_within xs ys b h.1

-- one digit more
pub one_more : (n d : ℕ) → 0 < n → d < 10 → n * 10 + d < 2 ^ 64 → decimal (n * 10 + d) ≡ decimal n ++ (48 + d) ∷ []
one_more n d p l s =
    let q : (n * 10 + d) / 10 ≡ n = omega arith in
    let r : (n * 10 + d) % 10 ≡ d = omega arith in
    decimal_step (n * 10 + d) (omega arith) s ∙ ap (λ m. decimal m ++ (48 + (n * 10 + d) % 10) ∷ []) q ∙ ap (λ m. decimal n ++ (48 + m) ∷ []) r

-- the value of what a text of digits begins with is no greater
pub front_le : (xs : List ℕ) (n : ℕ) (rest : List ℕ) → n < 2 ^ 64 → xs ++ rest ≡ decimal n → digits_value 10 xs ≤ n
front_le xs n rest hn e =
    let b = decimal_is_IsNumeral n hn in
    let front : take (length xs) (decimal n) ≡ xs = ap (take (length xs)) (sym e) ∙ take_at xs rest (length xs) refl in
    let l = digits_value-take-le 10 (decimal n) (length xs) (omega arith) in
    omega (arith, b.1, ap (digits_value 10) front, l)

-- nothing stands after a zero
pub zero_alone : (b n : ℕ) (rest : List ℕ) → n < 2 ^ 64 → decimal 0 ++ b ∷ rest ≡ decimal n → ⊥
zero_alone b zero rest l e = let n : length (decimal 0 ++ b ∷ rest) ≡ length (decimal 0) = ap length e in omega (arith, n, length-append (decimal 0) (b ∷ rest))
zero_alone b (suc n) rest l e =
    let z : decimal 0 ≡ 48 ∷ [] = decimal_digit 0 (omega arith) in
    let first : get_or (decimal (suc n)) 0 0 ≡ 48 = ap (λ xs. get_or xs 0 0) (sym e) ∙ ap (λ xs. get_or (xs ++ b ∷ rest) 0 0) z in
    omega (arith, first_decimal (suc n) (omega arith) l, first)

-- a number that is too large with its last digit begins none that isn't
pub too_large : (m n b : ℕ) (rest : List ℕ) → IsDigit b → m < 2 ^ 64 → n < 2 ^ 64 → n < m * 10 + (b - 48) → decimal m ++ b ∷ rest ≡ decimal n → ⊥
too_large m n b rest d hm hn big e =
    let all : (decimal m ++ b ∷ []) ++ rest ≡ decimal n = append_assoc (decimal m) (b ∷ []) rest ∙ e in
    omega (arith, front_le (decimal m ++ b ∷ []) n rest hn all, digits_value_push 10 (decimal m) b, (decimal_is_IsNumeral m hm).1, digit_value_digit b d)

pub too_large_first : (n b : ℕ) (rest : List ℕ) → IsDigit b → n < 2 ^ 64 → n < b - 48 → b ∷ rest ≡ decimal n → ⊥
too_large_first n b rest d hn big e =
    omega (arith, front_le (b ∷ []) n rest hn e, digits_value_push 10 [] b, digit_value_digit b d)

-- a byte that is no digit stands in no number
pub no_digit : (xs more : List ℕ) (byte n : ℕ) → n < 2 ^ 64 → (IsDigit byte → ⊥) → xs ++ byte ∷ more ≡ decimal n → ⊥
no_digit xs more byte n l other e = other (digit_within xs more byte (subst (AllDigits 10) (sym e) (decimal_is_IsNumeral n l).0.1))

pub step_none : (b : ℕ) → IsDigit b → decimal (b - 48) ≡ b ∷ []
step_none b h = let e : 48 + (b - 48) ≡ b = omega arith in decimal_digit (b - 48) (omega arith) ∙ ap (λ x. x ∷ []) e

pub step_some : (m b : ℕ) → IsDigit b → 0 < m → m * 10 + (b - 48) < 2 ^ 64 → decimal (m * 10 + (b - 48)) ≡ decimal m ++ b ∷ []
step_some m b h p l = let e : 48 + (b - 48) ≡ b = omega arith in one_more m (b - 48) p (omega arith) l ∙ ap (λ x. decimal m ++ x ∷ []) e

-- ---- the reader

-- a number goes on to another one with a digit alone
pub number_solid : (most : ℕ) → most < 2 ^ 64 → Solid (IsNumber most)
number_solid most l x y b h (n, (k, e)) = digit_within x y b (subst (AllDigits 10) (sym e) (decimal_is_IsNumeral n (omega (arith, k, l))).0.1)

module _ (most : ℕ) (text rest : List ℕ) (l : most < 2 ^ 64) where
  pub no_digits : (number : Option ℕ) → text ≡ digits_read number ++ rest → NoneGoesOn (IsNumber most) (digits_read number) rest
      → (r : List ℕ) → (number ≡ None) × (r ≡ rest) → GoesWrong (IsNumber most) text r
  no_digits None parts none r e = rw e.1 (record {
    stops = record { read = []; parts = parts; begins = (decimal 0, (0, (omega arith, refl))); no_more = none };
    open_end = λ k. (let z : length (decimal k.0) ≡ 0 = ap length (sym k.1.1) in omega (arith, decimal_nonempty k.0 (omega (arith, k.1.0, l)), z));
  })
  no_digits (Some m) parts none r e = absurd (let q = e.0 in cc)

-- what begins with a number begins with a digit
pub digit_first : (n : ℕ) → n < 2 ^ 64 → (b : ℕ) (r s : List ℕ) → decimal n ++ r ≡ b ∷ s → IsDigit b
digit_first n l b r s e = go (decimal n) refl e
  where
    go : (xs : List ℕ) → decimal n ≡ xs → xs ++ r ≡ b ∷ s → IsDigit b
    go [] is f = let z : length (decimal n) ≡ 0 = ap length is in absurd (omega (arith, decimal_nonempty n l, z))
    go (x ∷ xs) is f = let same : x ≡ b = cc in subst IsDigit same (digit_within [] xs x (subst (AllDigits 10) is (decimal_is_IsNumeral n l).0.1))

-- ---- a word and a number

pub numbered_solid : (word : List ℕ) (most : ℕ) → most < 2 ^ 64 → Solid (IsNumbered word most)
numbered_solid word most l = then_solid (IsWord word) (IsNumber most) (word_apart word (IsNumber most)) (word_solid word) (number_solid most l)

-- they are known by their text, whatever stands after them that begins with no digit
pub numbered_known : (word : List ℕ) (most : ℕ) → most < 2 ^ 64 → (Second : List ℕ → Type 0) → ((b : ℕ) (z : List ℕ) → Second (b ∷ z) → IsDigit b → ⊥) → (n m : ℕ) (r s : List ℕ)
    → n ≤ most → m ≤ most → Second r → Second s → word ++ (decimal n ++ r) ≡ word ++ (decimal m ++ s) → (n ≡ m) × (r ≡ s)
numbered_known word most l Second other n m r s h k rs ss e =
    let t = append_cancel_left word (decimal n ++ r) (decimal m ++ s) e in
    let p = split (IsNumber most) Second (solid_apart (IsNumber most) Second (number_solid most l) other) (decimal n) r (decimal m) s (n, (h, refl)) none (m, (k, refl)) ss t in
    (decimal_injective n m (omega (arith, h, l)) (omega (arith, k, l)) p.0, p.1)
  where
    none : NoneGoesOn (IsNumber most) (decimal n) r
    none b others more is q = other b others (subst Second is rs) (number_solid most l (decimal n) more b (n, (h, refl)) q)
