-- The words of a text, as its parts between blanks.
use Rattle.std.proofs.Common.{◌≡◌, ◌≢◌, ℕ, ◌-◌, ◌<◌, ◌≤◌, Bool, true, false, zero, suc, List, [], ◌∷◌, ◌++◌, length, take, refl, sym, ap, ◌∙◌, arith}
use Rattle.std.specs.List.{All, AllByRecursion, onto_first}
use Rattle.std.proofs.lemmas.Bool.Decides.{nat_tests}
use Rattle.std.proofs.lemmas.List.Elements.{All-cons, All-nil, All-from_recursion}
use Rattle.std.proofs.lemmas.List.Splits.{slice_split_at, slice_split_none, join_with_byte-slice_split, length-slice_split}
use Rattle.txc_script.specs.Words.{HasNoBlank, HasWords, is_blank, words_of}

is_other : (b : ℕ) → b ≢ 32 → is_blank b ≡ false
is_other b other = grind (arith, nat_tests)

not_blanks : (xs : List ℕ) → HasNoBlank xs → All (λ b. is_blank b ≡ false) xs
not_blanks xs h = λ k d l. is_other _ (h k d l)

-- a text whose first blank stands after w
pub words_cut : (text w rest : List ℕ) → text ≡ w ++ 32 ∷ rest → HasNoBlank w → words_of text ≡ w ∷ words_of rest
words_cut text w rest e bare = ap words_of e ∙ slice_split_at is_blank w 32 rest (not_blanks w bare) refl

-- a text without a blank is one word
pub words_alone : (text : List ℕ) → HasNoBlank text → words_of text ≡ text ∷ []
words_alone text bare = slice_split_none is_blank text (not_blanks text bare)

-- ---- the definition of the words of a text

bare_more : (x : ℕ) (parts : List (List ℕ)) → x ≢ 32 → AllByRecursion HasNoBlank parts → AllByRecursion HasNoBlank (onto_first x parts)
bare_more x [] other h = (All-cons (λ b. b ≢ 32) x [] other (All-nil (λ b. b ≢ 32)), tt)
bare_more x (part ∷ parts) other h = (All-cons (λ b. b ≢ 32) x part other h.0, h.1)

bare_parts : (text : List ℕ) → AllByRecursion HasNoBlank (words_of text)
bare_parts [] = (All-nil (λ b. b ≢ 32), tt)
bare_parts (x ∷ text) =
    let go : (b : Bool) → is_blank x ≡ b → AllByRecursion HasNoBlank (words_of (x ∷ text)) = λ b. elim b as (λ v. is_blank x ≡ v → AllByRecursion HasNoBlank (words_of (x ∷ text))) [
      | true ↦ (λ e. rw e (All-nil (λ b. b ≢ 32), bare_parts text))
      | false ↦ (λ e. let other : x ≢ 32 = grind (arith, nat_tests) in rw e (bare_more x (words_of text) other (bare_parts text)))
    ] in
    go (is_blank x) refl

pub has_words : (text : List ℕ) → HasWords text (words_of text)
has_words text = record { joined = sym (join_with_byte-slice_split 32 text); each_is_one = All-from_recursion HasNoBlank (words_of text) (bare_parts text) }

pub some_word : (text : List ℕ) → 1 ≤ length (words_of text)
some_word text = omega (arith, length-slice_split is_blank text)

-- ---- words that are taken one after the other

pub some_left : (n : ℕ) (words : List (List ℕ)) → 0 < length (take n words) → 0 < n
some_left zero words h = h
some_left (suc n) words h = omega arith

-- some are taken where some are asked for
pub some_taken : (n : ℕ) (words : List (List ℕ)) → 0 < n → 1 ≤ length words → 0 < length (take n words)
some_taken zero words h some = absurd (omega arith)
some_taken (suc n) [] h some = absurd (omega arith)
some_taken (suc n) (w ∷ words) h some = omega arith

-- no more words are taken than are asked for
pub taken_few : (n : ℕ) (words : List (List ℕ)) → length (take n words) ≤ n
taken_few zero words = omega arith
taken_few (suc n) [] = omega arith
taken_few (suc n) (w ∷ words) = omega (arith, taken_few n words)

pub take_first : (n : ℕ) (w : List ℕ) (words : List (List ℕ)) → 0 < n → take n (w ∷ words) ≡ w ∷ take (n - 1) words
take_first zero w words h = absurd (omega arith)
take_first (suc n) w words h = let same : suc n - 1 ≡ n = omega arith in ap (λ (k : ℕ). w ∷ take k words) (sym same)

pub take_one : (n : ℕ) (w : List ℕ) → 0 < n → take n (w ∷ []) ≡ w ∷ []
take_one zero w h = absurd (omega arith)
take_one (suc zero) w h = refl
take_one (suc (suc n)) w h = refl
