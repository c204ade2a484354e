-- The digits of numbers and of bytes, one after the other.
use Rattle.std.proofs.Common.{◌≡◌, ℕ, ◌+◌, ◌/◌, ◌%◌, ◌<◌, ◌≤◌, ◌^◌, lit<, List, [], ◌∷◌, ◌++◌, length, map, sym, ap, ◌∙◌, arith, append_assoc}
use Rattle.std.specs.Fmt.{decimal}
use Rattle.std.specs.List.{flat_map, join_with_byte}
use Rattle.std.proofs.lemmas.Fmt.{decimal_step, decimal_digit, length-decimal-le}
use Rattle.std.proofs.lemmas.List.{length-append}
use Rattle.txc_tags.proofs.TextJoined.{join_others}

-- the digits but the last, and the last
pub more_digits : (n : ℕ) → 10 ≤ n → n < 2 ^ 64 → length (decimal n) ≡ length (decimal (n / 10)) + 1
more_digits n l h = omega (arith, ap length (decimal_step n l h), length-append (decimal (n / 10)) ((48 + n % 10) ∷ []))

pub one_digit : (n : ℕ) → n < 10 → length (decimal n) ≡ 1
one_digit n l = ap length (decimal_digit n l)

pub few_digits : (n : ℕ) → n < 2 ^ 64 → length (decimal n) ≤ 20
few_digits n h = length-decimal-le 20 n (lit< tt) (omega (arith, h)) h

pub last_digit : (n : ℕ) (old mid new : List ℕ) → 10 ≤ n → n < 2 ^ 64 → mid ≡ old ++ decimal (n / 10) → new ≡ mid ++ (48 + n % 10) ∷ [] → new ≡ old ++ decimal n
last_digit n old mid new l h e f =
    f ∙ ap (λ (xs : List ℕ). xs ++ (48 + n % 10) ∷ []) e ∙ append_assoc old (decimal (n / 10)) ((48 + n % 10) ∷ []) ∙ ap (λ (xs : List ℕ). old ++ xs) (sym (decimal_step n l h))

pub first_digit : (n : ℕ) (old new : List ℕ) → n < 10 → new ≡ old ++ (48 + n) ∷ [] → new ≡ old ++ decimal n
first_digit n old new l e = e ∙ ap (λ (xs : List ℕ). old ++ xs) (sym (decimal_digit n l))

-- the first number, and after it each other with a comma before it
pub all_joined : (ns others old mid new : List ℕ) (n : ℕ) → ns ≡ n ∷ others → mid ≡ old ++ decimal n → new ≡ mid ++ flat_map (λ m. 44 ∷ decimal m) others → new ≡ old ++ join_with_byte 44 (map decimal ns)
all_joined ns others old mid new n parts e f =
    f ∙ ap (λ (xs : List ℕ). xs ++ flat_map (λ m. 44 ∷ decimal m) others) e ∙ append_assoc old (decimal n) (flat_map (λ m. 44 ∷ decimal m) others)
    ∙ ap (λ (xs : List ℕ). old ++ xs) (sym (join_others decimal n others) ∙ ap (λ (xs : List ℕ). join_with_byte 44 (map decimal xs)) (sym parts))
