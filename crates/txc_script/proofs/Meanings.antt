-- Words have one meaning each.
use Rattle.std.proofs.Common.{◌≡◌, ◌<◌, ◌≤◌, ◌/◌, ◌%◌, ◌^◌, ℕ, Bool, true, false, List, [], ◌∷◌, Some, refl, sym, ap, ◌∙◌, arith}
use Rattle.std.specs.Fmt.{decimal}
use Rattle.std.specs.List.{AllByRecursion, flat_map}
use Rattle.std.proofs.lemmas.Bool.Decides.{nat_tests}
use Rattle.std.proofs.lemmas.Fmt.{decimal_injective}
use Rattle.std.proofs.lemmas.List.Elements.{recursion_from_All}
use Rattle.txc_stamp.specs.declared.stamp.TheConstants.{LAST_STAMP}
use Rattle.txc_tags.specs.declared.key.TheConstants.{LAST_FUNCTION}
use Rattle.txc_tags.specs.declared.tag.TheConstants.{LAST_TABLE}
use Rattle.txc_tags.specs.declared.text.number.TheConstants.{LAST_NUMBER}
use Rattle.txc_tags.specs.Tags.{set_of}
use Rattle.txc_tags.specs.TextSet.{tags_spelt}
use Rattle.txc_tags.specs.TextTag.{SpeltTag}
use Rattle.txc_tags.proofs.Offered.{same_key_text, same_spelt_text}
use Rattle.txc_node.specs.Texts.{digit_of, digits_of, hex_text}
use Rattle.txc_script.specs.Hex.{IsBytes}
use Rattle.txc_script.specs.Lines.{still_text}
use Rattle.txc_script.specs.ParsedWords.{AllSaidOf, Mean, Means, SaidOf}
use Rattle.txc_script.specs.declared.line_fault.WordKind.{WordKind}
use Rattle.txc_script.specs.declared.line_fault.WordKind.TheVariants.{Key, Stamp, Reach, Tags, Bytes, Table, Id, Function, Number, Text, QueryName, ChangeName}

decimal_known : (most a b : ℕ) → most < 2 ^ 64 → a ≤ most → b ≤ most → decimal a ≡ decimal b → a ≡ b
decimal_known most a b small h k e = decimal_injective a b (omega arith) (omega arith) e

still_known : (a b : Bool) → still_text a ≡ still_text b → a ≡ b
still_known true true e = refl
still_known false false e = refl
still_known true false e = cc
still_known false true e = cc

digit_known : (m n : ℕ) → m < 16 → n < 16 → digit_of m ≡ digit_of n → m ≡ n
digit_known m n h k e = grind (arith, nat_tests)

byte_known : (m n : ℕ) → m < 256 → n < 256 → digit_of (m / 16) ≡ digit_of (n / 16) → digit_of (m % 16) ≡ digit_of (n % 16) → m ≡ n
byte_known m n h k e f =
    let high : m / 16 ≡ n / 16 = digit_known (m / 16) (n / 16) (omega arith) (omega arith) e in
    let low : m % 16 ≡ n % 16 = digit_known (m % 16) (n % 16) (omega arith) (omega arith) f in
    omega (arith, high, low)

bytes_known : (xs ys : List ℕ) → AllByRecursion (λ b. b < 256) xs → AllByRecursion (λ b. b < 256) ys → flat_map digits_of xs ≡ flat_map digits_of ys → xs ≡ ys
bytes_known [] [] h k e = refl
bytes_known [] (b ∷ ys) h k e = cc
bytes_known (a ∷ xs) [] h k e = cc
bytes_known (a ∷ xs) (b ∷ ys) h k e =
    let high : digit_of (a / 16) ≡ digit_of (b / 16) = cc in
    let low : digit_of (a % 16) ≡ digit_of (b % 16) = cc in
    let rest : flat_map digits_of xs ≡ flat_map digits_of ys = cc in
    ap (λ (x : ℕ). x ∷ xs) (byte_known a b h.0 k.0 high low) ∙ ap (λ (zs : List ℕ). b ∷ zs) (bytes_known xs ys h.1 k.1 rest)

hex_known : (xs ys : List ℕ) → IsBytes xs → IsBytes ys → hex_text xs ≡ hex_text ys → xs ≡ ys
hex_known [] [] h k e = refl
hex_known [] (b ∷ ys) h k e = let same : 45 ∷ [] ≡ flat_map digits_of (b ∷ ys) = e in cc
hex_known (a ∷ xs) [] h k e = let same : flat_map digits_of (a ∷ xs) ≡ 45 ∷ [] = e in cc
hex_known (a ∷ xs) (b ∷ ys) h k e =
    bytes_known (a ∷ xs) (b ∷ ys) (recursion_from_All (λ x. x < 256) (a ∷ xs) h) (recursion_from_All (λ x. x < 256) (b ∷ ys) k) e

-- numbers of these kinds are those of a machine
abbrev pub IsSmall : WordKind → Type 0
IsSmall (Number most) = most < 2 ^ 64
IsSmall kind = Unit {0}

abbrev pub AreSmall : List WordKind → Type 0
AreSmall [] = Unit {0}
AreSmall (kind ∷ kinds) = IsSmall kind × AreSmall kinds

-- a word says one thing
one_meaning : (kind : WordKind) (word : List ℕ) (a b : SaidOf kind) → IsSmall kind → Means kind word a → Means kind word b → a ≡ b
one_meaning Key word a b small h k = same_key_text a b h.0 k.0 (sym h.1 ∙ k.1)
one_meaning Stamp word a b small h k = decimal_known LAST_STAMP a b (omega arith) h.0 k.0 (sym h.1 ∙ k.1)
one_meaning Reach word a b small h k = still_known a b (sym h ∙ k)
one_meaning Tags word a b small h k = h.2 ∙ ap (λ (ts : List SpeltTag). set_of (tags_spelt ts)) (same_spelt_text h.0 k.0 h.1.0 k.1.0 (sym h.1.1 ∙ k.1.1)) ∙ sym k.2
one_meaning Bytes word a b small h k = hex_known a b h.0 k.0 (sym h.1 ∙ k.1)
one_meaning Table word a b small h k = decimal_known LAST_TABLE a b (omega arith) h.0 k.0 (sym h.1 ∙ k.1)
one_meaning Id word a b small h k = decimal_known LAST_NUMBER a b (omega arith) h.0 k.0 (sym h.1 ∙ k.1)
one_meaning Function word a b small h k = decimal_known LAST_FUNCTION a b (omega arith) h.0 k.0 (sym h.1 ∙ k.1)
one_meaning (Number most) word a b small h k = decimal_known most a b small h.0 k.0 (sym h.1 ∙ k.1)
one_meaning (Text most) word a b small h k = sym h.1 ∙ k.1
one_meaning QueryName word a b small h k = let same : Some a ≡ Some b = sym h ∙ k in cc
one_meaning ChangeName word a b small h k = let same : Some a ≡ Some b = sym h ∙ k in cc

pub values_known : (kinds : List WordKind) (words : List (List ℕ)) (v w : AllSaidOf kinds) → AreSmall kinds → Mean kinds words v → Mean kinds words w → v ≡ w
values_known [] [] v w small h k = refl
values_known [] (word ∷ words) v w small h k = absurd h
values_known (kind ∷ kinds) [] v w small h k = absurd h
values_known (kind ∷ kinds) (word ∷ words) v w small h k =
    let first : v.0 ≡ w.0 = one_meaning kind word v.0 w.0 small.0 h.0 k.0 in
    let rest : v.1 ≡ w.1 = values_known kinds words v.1 w.1 small.1 h.1 k.1 in
    λ i. (first i, rest i)
