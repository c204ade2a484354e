-- The kinds of words, and lines that are tested.
use Rattle.std.proofs.Common.{◌≡◌, ◌≤◌, ℕ, Bool, false, suc, Option, None, List, [], ◌∷◌, length, refl, sym, ap, ◌∙◌, arith}
use Rattle.std.specs.List.{list_any, position}
use Rattle.txc_script.specs.LineFaults.{kinds_for, HasWholeWords, is_empty, is_foreign}
use Rattle.txc_script.specs.Lines.{IsPlain}
use Rattle.txc_script.specs.Words.{words_of}
use Rattle.txc_script.specs.declared.line.TheConstants.{MAX_LINE_LEN}
use Rattle.txc_script.specs.declared.line_fault.WordKind.{WordKind}
use Rattle.txc_script.proofs.Cuts.{none_found}
use Rattle.txc_script.proofs.Scans.{none_foreign}

-- ---- the kinds of so many words

pub none_left : {X : Type 0} (xs : List X) → length xs ≡ 0 → xs ≡ []
none_left [] e = refl
none_left (x ∷ xs) e = absurd (omega (arith, e))

pub kinds_count : (kinds : List WordKind) (other : WordKind) (words : List (List ℕ)) → length (kinds_for kinds other words) ≡ length words
kinds_count kinds other [] = refl
kinds_count [] other (word ∷ words) = ap suc (kinds_count [] other words)
kinds_count (kind ∷ kinds) other (word ∷ words) = ap suc (kinds_count kinds other words)

-- as many as there are
pub same_kinds : (kinds : List WordKind) (other : WordKind) (words : List (List ℕ)) → length words ≡ length kinds → kinds_for kinds other words ≡ kinds
same_kinds [] other [] e = refl
same_kinds [] other (word ∷ words) e = absurd (omega (arith, e))
same_kinds (kind ∷ kinds) other [] e = absurd (omega (arith, e))
same_kinds (kind ∷ kinds) other (word ∷ words) e = ap (λ (ks : List WordKind). kind ∷ ks) (same_kinds kinds other words (omega (arith, e)))

-- ---- lines

pub plain_line : (line : List ℕ) (at : Option ℕ) → length line ≤ MAX_LINE_LEN → at ≡ position is_foreign line → at ≡ None → IsPlain line
plain_line line at few e none = record { few = few; bytes = none_foreign line (none_found is_foreign line (sym e ∙ none)) }

pub whole_words : (line : List ℕ) (empty : Bool) → IsPlain line → empty ≡ list_any is_empty (words_of line) → empty ≡ false → HasWholeWords line
whole_words line empty plain e none = record { plain = plain; none_empty = sym e ∙ none }
