-- Texts that are bodies of rows.
use Rattle.std.proofs.Common.{◌≡◌, ◌∙◌, ℕ, ◌+◌, ◌<◌, ◌≤◌, ◌^◌, List, [], ◌∷◌, ◌++◌, length, sym, ap, subst, arith}
use Rattle.std.specs.List.{AllByRecursion}
use Rattle.std.specs.Fmt.{decimal}
use Rattle.std.proofs.lemmas.List.{length-append}
use Rattle.std.proofs.lemmas.Fmt.{decimal_by_steps, decimal_nonempty, length-decimal-le}
use Rattle.txc_site.specs.RowLimits.{FIRST_BODY_BYTE, LAST_BODY_BYTE}
use Rattle.txc_site.specs.Values.{IsBody}

-- the byte prints, and is no blank
abbrev pub Prints : ℕ → Type 0
Prints byte = (FIRST_BODY_BYTE ≤ byte) × (byte ≤ LAST_BODY_BYTE)

pub both_print : (xs ys : List ℕ) → AllByRecursion Prints xs → AllByRecursion Prints ys → AllByRecursion Prints (xs ++ ys)
both_print [] ys first then = then
both_print (x ∷ xs) ys first then = (first.0, both_print xs ys first.1 then)

digits_print : (n : ℕ) → n < 2 ^ 64 → AllByRecursion Prints (decimal n)
digits_print n small =
    decimal_by_steps (λ m ds. AllByRecursion Prints ds) (λ m low. ((omega arith, omega arith), tt))
    (λ m ds high before. both_print ds _ before ((omega arith, omega arith), tt)) n small

-- a word and a number
pub numbered : (word text : List ℕ) (n : ℕ) → n < 2 ^ 32 → 1 ≤ length word → length word ≤ 100 → AllByRecursion Prints word
    → text ≡ word ++ decimal n → IsBody text
numbered word text n small some few prints is =
    let long = ap length is ∙ length-append word (decimal n) in
    let short = length-decimal-le 10 n (omega arith) (omega arith) (omega arith) in
    record {
      some = omega (arith, long);
      most = omega (arith, long, short);
      each = subst (AllByRecursion Prints) (sym is) (both_print word (decimal n) prints (digits_print n (omega arith)));
    }

-- a number, a word and a number
pub between_numbers : (word text : List ℕ) (m n : ℕ) → m < 2 ^ 32 → n < 2 ^ 32 → length word ≤ 100 → AllByRecursion Prints word
    → text ≡ decimal m ++ (word ++ decimal n) → IsBody text
between_numbers word text m n small_m small few prints is =
    let long = ap length is ∙ length-append (decimal m) (word ++ decimal n) in
    let rest = length-append word (decimal n) in
    let first = decimal_nonempty m (omega arith) in
    let short_m = length-decimal-le 10 m (omega arith) (omega arith) (omega arith) in
    let short = length-decimal-le 10 n (omega arith) (omega arith) (omega arith) in
    record {
      some = omega (arith, long, first);
      most = omega (arith, long, rest, short_m, short);
      each =
          subst (AllByRecursion Prints) (sym is)
          (both_print (decimal m) (word ++ decimal n) (digits_print m (omega arith))
          (both_print word (decimal n) prints (digits_print n (omega arith))));
    }
