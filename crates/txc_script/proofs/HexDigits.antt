-- Hexadecimal digits.
use Rattle.std.proofs.Common.{◌≡◌, ℕ, ◌*◌, ◌<◌, ◌≤◌, List, [], ◌∷◌, ◌++◌, None, Result, Ok, Err, IfErr, length, get_or, refl, sym, ap, ◌∙◌, arith}
use Rattle.std.specs.Prelude.{codes}
use Rattle.std.specs.Global.{Vec}
use Rattle.std.specs.List.{AllByRecursion, flat_map}
use Rattle.std.proofs.lemmas.List.{length-append}
use Rattle.std.proofs.lemmas.List.Elements.{recursion_from_All}
use Rattle.txc_node.specs.Texts.{digits_of}
use Rattle.txc_script.specs.Hex.{IsBytes, IsHexWord}
use Rattle.txc_script.specs.LineFaults.{IsUnsaid, SaysNone}
use Rattle.txc_script.specs.declared.line_fault.WordKind.TheVariants.{Bytes}
use Rattle.txc_script.specs.declared.unread.WordError.{WordError}
use Rattle.txc_script.specs.declared.unread.WordError.TheVariants as unsaid

length_of_digits : (bytes : List ℕ) → length (flat_map digits_of bytes) ≡ 2 * length bytes
length_of_digits [] = refl
length_of_digits (b ∷ bytes) = let h = length_of_digits bytes in omega (arith, h)

-- digits come in pairs
pub odd_digits : (bytes done rest text : List ℕ) → text ≡ flat_map digits_of done ++ rest → length rest ≡ 1 → flat_map digits_of bytes ≡ text → ⊥
odd_digits bytes done rest text e one h =
    omega (arith, ap length h, ap length e, length-append (flat_map digits_of done) rest, length_of_digits bytes, length_of_digits done, one)

next_digits : (done bytes : List ℕ) (high low : ℕ) (after : List ℕ) → AllByRecursion (λ b. b < 256) bytes → flat_map digits_of bytes ≡ flat_map digits_of done ++ high ∷ low ∷ after
    → ((b : ℕ) → b < 256 → digits_of b ≡ high ∷ low ∷ [] → ⊥) → ⊥
next_digits [] [] high low after all e bad = cc
next_digits [] (b ∷ bytes) high low after all e bad = let same : digits_of b ≡ high ∷ low ∷ [] = cc in bad b all.0 same
next_digits (d ∷ done) [] high low after all e bad = cc
next_digits (d ∷ done) (b ∷ bytes) high low after all e bad =
    let same : flat_map digits_of bytes ≡ flat_map digits_of done ++ high ∷ low ∷ after = cc in next_digits done bytes high low after all.1 same bad

pub bad_digits : (bytes done rest text : List ℕ) (x y : ℕ) → text ≡ flat_map digits_of done ++ rest → 2 ≤ length rest → IsBytes bytes → flat_map digits_of bytes ≡ text
    → ((b : ℕ) → b < 256 → digits_of b ≡ get_or rest 0 x ∷ get_or rest 1 y ∷ [] → ⊥) → ⊥
bad_digits bytes done [] text x y e two all h bad = absurd (omega arith)
bad_digits bytes done (a ∷ []) text x y e two all h bad = absurd (omega arith)
bad_digits bytes done (a ∷ b ∷ rest) text x y e two all h bad = next_digits done bytes a b rest (recursion_from_All (λ b. b < 256) bytes all) (h ∙ e) bad

-- the bytes have these digits
abbrev pub HasDigits : List ℕ → List ℕ → Type 0
HasDigits text bytes = IsBytes bytes × (flat_map digits_of bytes ≡ text)

hex_digits : (text bytes : List ℕ) → (text ≡ codes "-" → ⊥) → IsHexWord text bytes → HasDigits text bytes
hex_digits text [] bare word = absurd (bare word.1)
hex_digits text (b ∷ bytes) bare word = (word.0, sym word.1)

pub hex_unread : (text : List ℕ) (r : Result (Vec ℕ) WordError) → (text ≡ codes "-" → ⊥) → IfErr r (SaysNone (HasDigits text) (λ at. at ≡ None)) → IfErr r (IsUnsaid Bytes text)
hex_unread text (Ok v) bare h = tt
hex_unread text (Err (unsaid.Bad at)) bare h = ((λ w. h.0 (w.0, hex_digits text w.0 bare w.1)), h.1)
hex_unread text (Err unsaid.Memory) bare h = tt
