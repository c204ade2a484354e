-- The text of a key, piece by piece.
use Rattle.std.proofs.Common.{◌≡◌, ℕ, ◌+◌, ◌<◌, ◌≤◌, false, ◌==◌, inl, inr, All, List, [], ◌∷◌, ◌++◌, map, length, refl, sym, ap, subst, ◌∙◌, arith, append_assoc, length-append}
use Rattle.std.specs.List.{flat_map, join_with_byte}
use Rattle.std.specs.Fmt.{decimal}
use Rattle.std.proofs.lemmas.Fmt.{decimal_injective, decimal_is_IsNumeral, decimal_nonempty}
use Rattle.std.proofs.lemmas.List.Elements.{All-head, All-tail, All-nil, All-cons, All-push}
use Rattle.std.specs.Str.Parse.{AllDigits}
use Rattle.std.proofs.lemmas.Str.Parse.{digit_from_value}
use Rattle.std.proofs.lemmas.Bool.Decides.{nat_tests}
use Rattle.txc_tags.specs.Keys.{Call}
use Rattle.txc_tags.specs.TextGrammar.{IsText, IsTextOf}
use Rattle.txc_tags.specs.TextNumber.{IsDigit}
use Rattle.txc_tags.specs.TextKey.{key_text, IsKeyInRange}
use Rattle.txc_tags.specs.TextKeyReader.{closed_text, AreArguments, AreSome}
use Rattle.txc_tags.specs.TextReader.{IsWord, IsNumber, IsNumbered, Then, Either, Reads, GoesWrong, IsRefused, IsMore, HasRead}
use Rattle.txc_tags.proofs.TextReading.{Apart, Distinct, Solid, solid_apart, word_apart, alike_refused, first_wrong, first_reads, then_refused, wrong_refused, trailing_refused, other_refused, other_byte}
use Rattle.txc_tags.proofs.TextDigits.{number_solid, numbered_solid, numbered_known}
use Rattle.txc_tags.proofs.TextJoined as joined
use Rattle.txc_tags.proofs.TextJoined.{join_others}

-- an argument
abbrev pub IsArg : ℕ → Type 0
IsArg arg = arg ≤ 4294967295

abbrev pub Few : ℕ → Type 0
Few n = n ≤ 4

arg_solid : Solid (IsNumber 4294967295)
arg_solid = number_solid 4294967295 (omega arith)

no_digit : IsDigit 41 → ⊥
no_digit d = omega (arith, d.0)

no_comma : (rest : List ℕ) → 41 ∷ [] ≡ 44 ∷ rest → ⊥
no_comma rest e = let w : ◌≡◌ {A = ℕ} 41 44 = cc in omega (arith, w)

number_first : (n : ℕ) (r s : List ℕ) → IsArg n → decimal n ++ r ≡ 41 ∷ s → ⊥
number_first n r s h e = by_digits (decimal n) (decimal_is_IsNumeral n (omega (arith, h))).0.1 (decimal_nonempty n (omega (arith, h))) e
  where
    by_digits : (digits : List ℕ) → AllDigits 10 digits → 0 < length digits → digits ++ r ≡ 41 ∷ s → ⊥
    by_digits [] all some is = omega (arith, some)
    by_digits (d ∷ digits) all some is = no_digit (subst IsDigit (let f : d ≡ 41 = cc in f) (digit_from_value d all.0))

-- ---- the arguments

abbrev pub HasArgs : List ℕ → List ℕ → List ℕ → Type 0
HasArgs = HasRead IsArg decimal (41 ∷ []) Few

abbrev pub More : ℕ → List ℕ → Type 0
More = IsMore IsArg decimal (41 ∷ []) Few

module _ (text rest : List ℕ) (args : List ℕ) (read : HasArgs text rest args) where
  pub number_wrong : (last : List ℕ) → length args < 4 → GoesWrong (IsNumber 4294967295) rest last → IsRefused AreSome text last
  number_wrong last few g = read.refused last (joined.item_refused IsArg decimal (41 ∷ []) Few arg_solid no_digit no_comma (length args) rest last (omega (arith, few)) g)

  module _ (n : ℕ) (after : List ℕ) (small : IsArg n) (number : Reads (IsNumber 4294967295) rest (decimal n) after) where
    pub after_wrong : (last : List ℕ) → IsRefused (More (length args + 1)) after last → IsRefused AreSome text last
    after_wrong last g = read.refused last (joined.after_refused IsArg decimal (41 ∷ []) Few arg_solid no_digit no_comma (length args) rest (decimal n) after last number g)

    pub one_more : (next : List ℕ) → after ≡ 44 ∷ next → HasArgs text next (args ++ n ∷ [])
    one_more next e = joined.read_more IsArg decimal (41 ∷ []) Few arg_solid no_digit no_comma text rest after next args n read small number e

    pub all_args : after ≡ 41 ∷ [] → length args < 4 → IsTextOf AreArguments closed_text text (args ++ n ∷ [])
    all_args e few = (
      (omega (arith, few, length-append args (n ∷ [])), All-push IsArg args n read.all small),
      joined.read_all IsArg decimal (41 ∷ []) Few arg_solid no_digit no_comma text rest after args n read number e,
    )

-- `)` and something after it
pub over : (k : ℕ) (after more : List ℕ) → k ≤ 4 → after ≡ 41 ∷ more → 0 < length more → IsRefused (More k) after more
over k after more few e some = record {
  stops = record {
    read = 41 ∷ [];
    parts = e;
    begins = ([], ([], All-nil IsArg, omega (arith, few), refl));
    no_more = λ byte others m is h. only_end h.0 (byte ∷ m) (omega arith) h.3;
  };
  none = λ h. only_end h.0 more some (sym e ∙ h.3);
}
  where
    only_end : (items m : List ℕ) → 0 < length m → 41 ∷ m ≡ flat_map (λ item. 44 ∷ decimal item) items ++ 41 ∷ [] → ⊥
    only_end [] m l is = let q : m ≡ [] = cc in let n : length m ≡ 0 = ap length q in omega (arith, n, l)
    only_end (item ∷ items) m l is = let w : ◌≡◌ {A = ℕ} 41 44 = cc in omega (arith, w)

-- neither `)` nor a comma with room for more
pub neither : (k : ℕ) (after : List ℕ) → k ≤ 4 → ((others : List ℕ) → after ≡ 41 ∷ others → ⊥) → ((others : List ℕ) (n : ℕ) → after ≡ 44 ∷ others → Few (k + (1 + n)) → ⊥) → IsRefused (More k) after after
neither k after few no_end no_more = joined.neither_refused IsArg decimal (41 ∷ []) Few arg_solid no_digit no_comma k after few
    (λ e. no_end [] e) (λ byte others more e is. no_end others (e ∙ ap (λ (b : ℕ). b ∷ others) (let b : byte ≡ 41 = cc in b))) no_more

-- arguments are none, or some
abbrev pub IsArguments : List ℕ → Type 0
IsArguments = IsText AreArguments closed_text

to_some : (text : List ℕ) → IsArguments text → Either (IsWord (41 ∷ [])) AreSome text
to_some text ([], h) = inl h.1
to_some text (x ∷ xs, ((few, all), e)) = inr (
  decimal x,
  flat_map (λ y. 44 ∷ decimal y) xs ++ 41 ∷ [],
  (x, (All-head IsArg x xs all, refl)),
  (xs, All-tail IsArg x xs all, omega (arith, few), refl),
  e ∙ ap (λ t. t ++ 41 ∷ []) (join_others decimal x xs) ∙ append_assoc (decimal x) (flat_map (λ y. 44 ∷ decimal y) xs) (41 ∷ []),
)

from_some : (text : List ℕ) → Either (IsWord (41 ∷ [])) AreSome text → IsArguments text
from_some text (inl e) = ([], ((omega arith, All-nil IsArg), e))
from_some text (inr (x, y, (n, (l, d)), (xs, all, few, f), e)) = (
  n ∷ xs,
  (
    (omega (arith, few), All-cons IsArg n xs l all),
    e ∙ ap (λ t. t ++ y) d ∙ ap (λ t. decimal n ++ t) f ∙ sym (append_assoc (decimal n) (flat_map (λ z. 44 ∷ decimal z) xs) (41 ∷ [])) ∙ ap (λ t. t ++ 41 ∷ []) (sym (join_others decimal n xs)),
  ),
)

some_apart : Distinct (IsWord (41 ∷ [])) AreSome
some_apart x y h (u, v, (n, (l, d)), k, e) = number_first n v y l (ap (λ t. t ++ v) (sym d) ∙ sym e ∙ ap (λ t. t ++ y) h)

pub some_refused : (text last rest : List ℕ) → GoesWrong (IsWord (41 ∷ [])) text last → IsRefused AreSome text rest → IsRefused IsArguments text rest
some_refused text last rest g h = alike_refused (Either (IsWord (41 ∷ [])) AreSome) IsArguments from_some to_some text rest
    (other_refused 41 AreSome text rest (other_byte 41 text last g).1 h)

pub closed_refused : (text rest : List ℕ) → 0 < length rest → Reads (IsWord (41 ∷ [])) text (41 ∷ []) rest → IsRefused IsArguments text rest
closed_refused text rest l r = alike_refused (Either (IsWord (41 ∷ [])) AreSome) IsArguments from_some to_some text rest
    (trailing_refused (Either (IsWord (41 ∷ [])) AreSome) text (41 ∷ []) rest left (first_reads (IsWord (41 ∷ [])) AreSome some_apart text (41 ∷ []) rest r))
  where
    left : false ≡ (length rest == 0)
    left = grind (arith, nat_tests)

-- ---- the key

abbrev Args : List ℕ → Type 0
Args = Then (IsWord (40 ∷ [])) IsArguments

abbrev IsKey : List ℕ → Type 0
IsKey = IsText IsKeyInRange key_text

abbrev Opened : List ℕ → Type 0
Opened = IsNumbered (102 ∷ []) 63

abbrev KeyPieces : List ℕ → Type 0
KeyPieces = Then Opened Args

to_pieces : (text : List ℕ) → IsKey text → KeyPieces text
to_pieces text (key, (h, e)) = (102 ∷ decimal key.function, 40 ∷ closed_text key.args, (102 ∷ [], decimal key.function, refl, (key.function, (h.function, refl)), refl), (40 ∷ [], closed_text key.args, refl, (key.args, ((h.few, h.args), refl)), refl), e)

from_pieces : (text : List ℕ) → KeyPieces text → IsKey text
from_pieces text (x, y, (u, v, w, (n, (l, d)), i), (p, q, o, (args, ((few, all), f)), g), e) = (
  record { function = n; args = args },
  (record { function = l; few = few; args = all }, e ∙ ap (λ t. t ++ y) (i ∙ ap (λ t. t ++ v) w ∙ ap (λ t. 102 ∷ t) d) ∙ ap (λ t. 102 ∷ (decimal n ++ t)) (g ∙ ap (λ t. t ++ q) o ∙ ap (λ t. 40 ∷ t) f)),
)

paren_first : (b : ℕ) (z : List ℕ) → Args (b ∷ z) → IsDigit b → ⊥
paren_first b z (x, y, w, h, e) d = let f : b ∷ z ≡ 40 ∷ y = e ∙ ap (λ t. t ++ y) w in let g : b ≡ 40 = cc in omega (arith, d.0, g)

opened_apart : Apart Opened Args
opened_apart = solid_apart Opened Args (numbered_solid (102 ∷ []) 63 (omega arith)) paren_first

open_apart : Apart (IsWord (40 ∷ [])) IsArguments
open_apart = word_apart (40 ∷ []) IsArguments

no_arguments : IsArguments (41 ∷ [])
no_arguments = ([], ((omega arith, All-nil IsArg), refl))

key_refused : (text rest : List ℕ) → IsRefused KeyPieces text rest → IsRefused IsKey text rest
key_refused text rest g = alike_refused KeyPieces IsKey from_pieces to_pieces text rest g

pub function_wrong : (text rest : List ℕ) → GoesWrong Opened text rest → IsRefused IsKey text rest
function_wrong text rest g = key_refused text rest (wrong_refused KeyPieces text rest (first_wrong Opened Args opened_apart text rest (40 ∷ 41 ∷ []) (40 ∷ [], 41 ∷ [], refl, no_arguments, refl) g))

module _ (text after : List ℕ) (function : ℕ) (read : Reads Opened text (102 ∷ decimal function) after) where
  inside : (rest : List ℕ) → IsRefused Args after rest → IsRefused IsKey text rest
  inside rest g = key_refused text rest (then_refused Opened Args opened_apart text (102 ∷ decimal function) after read rest g)

  pub open_wrong : (rest : List ℕ) → GoesWrong (IsWord (40 ∷ [])) after rest → IsRefused IsKey text rest
  open_wrong rest g = inside rest (wrong_refused Args after rest (first_wrong (IsWord (40 ∷ [])) IsArguments open_apart after rest (41 ∷ []) no_arguments g))

  pub arguments_refused : (last rest : List ℕ) → Reads (IsWord (40 ∷ [])) after (40 ∷ []) last → IsRefused IsArguments last rest → IsRefused IsKey text rest
  arguments_refused last rest paren g = inside rest (then_refused (IsWord (40 ∷ [])) IsArguments open_apart after (40 ∷ []) last paren rest g)

-- ---- a key is known by its text

args_parts : (x : ℕ) (xs : List ℕ) → closed_text (x ∷ xs) ≡ decimal x ++ (flat_map (λ y. 44 ∷ decimal y) xs ++ 41 ∷ [])
args_parts x xs = ap (λ t. t ++ 41 ∷ []) (join_others decimal x xs) ∙ append_assoc (decimal x) (flat_map (λ y. 44 ∷ decimal y) xs) (41 ∷ [])

args_known : (xs ys : List ℕ) → All IsArg xs → All IsArg ys → closed_text xs ≡ closed_text ys → xs ≡ ys
args_known [] [] h k e = refl
args_known [] (y ∷ ys) h k e = absurd (number_first y (flat_map (λ z. 44 ∷ decimal z) ys ++ 41 ∷ []) [] (All-head IsArg y ys k) (sym (args_parts y ys) ∙ sym e))
args_known (x ∷ xs) [] h k e = absurd (number_first x (flat_map (λ z. 44 ∷ decimal z) xs ++ 41 ∷ []) [] (All-head IsArg x xs h) (sym (args_parts x xs) ∙ e))
args_known (x ∷ xs) (y ∷ ys) h k e =
    joined.joined_known IsArg decimal (41 ∷ []) Few arg_solid no_digit no_comma (λ a b l m. decimal_injective a b (omega (arith, l)) (omega (arith, m)))
    x y xs ys (All-head IsArg x xs h) (All-head IsArg y ys k) (All-tail IsArg x xs h) (All-tail IsArg y ys k) (sym (args_parts x xs) ∙ e ∙ args_parts y ys)

pub same_key_text : (a b : Call) → IsKeyInRange a → IsKeyInRange b → key_text a ≡ key_text b → a ≡ b
same_key_text a b h k e =
    let p = numbered_known (102 ∷ []) 63 (omega arith) Args paren_first a.function b.function (40 ∷ closed_text a.args) (40 ∷ closed_text b.args) h.function k.function
    (40 ∷ [], closed_text a.args, refl, (a.args, ((h.few, h.args), refl)), refl) (40 ∷ [], closed_text b.args, refl, (b.args, ((k.few, k.args), refl)), refl) e in
    let q : 40 ∷ closed_text a.args ≡ 40 ∷ closed_text b.args = p.1 in
    let r : closed_text a.args ≡ closed_text b.args = cc in
    ap (λ (f : ℕ). call f a.args) p.0 ∙ ap (λ (xs : List ℕ). call b.function xs) (args_known a.args b.args h.args k.args r)
  where
    call : ℕ → List ℕ → Call
    call f xs = record { function = f; args = xs }

-- ---- the text of a key, as it is written

pub written_key : (key : Call) (first : ℕ) (others : List ℕ) → key.args ≡ first ∷ others → ((102 ∷ (decimal key.function ++ 40 ∷ decimal first)) ++ flat_map (λ arg. 44 ∷ decimal arg) others) ++ 41 ∷ [] ≡ key_text key
written_key key first others e =
    ap (λ xs. 102 ∷ (xs ++ 41 ∷ [])) (append_assoc (decimal key.function) (40 ∷ decimal first) (flat_map (λ arg. 44 ∷ decimal arg) others))
    ∙ ap (λ xs. 102 ∷ xs) (append_assoc (decimal key.function) (40 ∷ (decimal first ++ flat_map (λ arg. 44 ∷ decimal arg) others)) (41 ∷ []))
    ∙ ap (λ xs. 102 ∷ (decimal key.function ++ 40 ∷ (xs ++ 41 ∷ []))) (sym (join_others decimal first others) ∙ ap (λ (xs : List ℕ). join_with_byte 44 (map decimal xs)) (sym e))
