-- Lines of a table of forms.
use Rattle.std.proofs.Common.{◌≡◌, ◌<◌, ℕ, Bool, true, false, Some, None, List, [], ◌∷◌, get_or, sym, ap, subst, inl, inr, ◌∙◌, arith}
use Rattle.std.specs.Prelude.{if◌then◌else◌}
use Rattle.std.specs.List.{AllByRecursion, join_with_byte}
use Rattle.std.specs.Str.{bytes_eq}
use Rattle.std.proofs.lemmas.Option.{same_Some}
use Rattle.txc_script.specs.LineForms.{AsksBy, IsOfForm, LineForm, form_named}
use Rattle.txc_script.specs.LineFaults.{IsCommandFault}
use Rattle.txc_script.specs.Lines.{IsBlankOrComment, IsQuiet}
use Rattle.txc_script.specs.Words.{words_of}
use Rattle.txc_script.specs.declared.line_fault.CommandFault.{CommandFault}
use Rattle.txc_script.proofs.Blanks.{has_words}
use Rattle.txc_script.proofs.Meanings.{AreSmall, values_known}
use Rattle.txc_script.proofs.SaidKinds.{mean_kinds, not_wrong}

-- ---- forms by their names

none_some : {X : Type 0} (x : X) → None ≡ Some x → ⊥
none_some x e = cc

-- what holds of each form of a table holds of the one of a name
form_has : {A : Type 0} (Has : LineForm A → Type 0) (forms : List (LineForm A)) (name : List ℕ) (form : LineForm A) → AllByRecursion Has forms → form_named forms name ≡ Some form → Has form
form_has Has [] name form all e = absurd (none_some form e)
form_has Has (f ∷ forms) name form all e =
    let go : (b : Bool) → (if b then Some f else form_named forms name) ≡ Some form → Has form = λ b. elim b as (λ v. (if v then Some f else form_named forms name) ≡ Some form → Has form) [
      | true ↦ (λ same. subst Has (same_Some f form same) all.0)
      | false ↦ (λ same. form_has Has forms name form all.1 same)
    ] in
    go (bytes_eq name f.name) e

-- ---- what a line asks for

pub of_words : {A : Type 0} (form : LineForm A) (words others : List (List ℕ)) (asked : A) → words ≡ others → IsOfForm form words asked → IsOfForm form others asked
of_words form words others asked e h = subst (λ (ws : List (List ℕ)). IsOfForm form ws asked) e h

-- one that begins with the name of a form
pub says_in : {A : Type 0} (forms : List (LineForm A)) (form : LineForm A) (line : List ℕ) (words : List (List ℕ)) (asked : A) → form_named forms form.name ≡ Some form → words_of line ≡ form.name ∷ words
    → AsksBy forms line asked → IsOfForm form words asked
says_in {A} forms form line words asked known e h =
    let both : form.name ∷ words ≡ h.form.name ∷ h.words = sym e ∙ h.are in
    let names : form.name ≡ h.form.name = cc in
    let others : words ≡ h.words = cc in
    let same : form ≡ h.form = same_Some form h.form (sym known ∙ ap (form_named forms) names ∙ h.named) in
    subst (λ (f : LineForm A). IsOfForm f words asked) (sym same) (of_words h.form h.words words asked (sym others) h.is)

-- one that begins with another name
pub asks_none : {A : Type 0} (forms : List (LineForm A)) (line name : List ℕ) (words : List (List ℕ)) (asked : A) → form_named forms name ≡ None → words_of line ≡ name ∷ words → AsksBy forms line asked → ⊥
asks_none forms line name words asked none e h =
    let both : name ∷ words ≡ h.form.name ∷ h.words = sym e ∙ h.are in
    let names : name ≡ h.form.name = cc in
    none_some h.form (sym none ∙ ap (form_named forms) names ∙ h.named)

-- nothing is wrong with one that asks for something
pub fault_asks_none : {A F : Type 0} (forms : List (LineForm A)) (line : List ℕ) (fault : CommandFault F) (asked : A) → IsCommandFault forms (words_of line) fault → AsksBy forms line asked → ⊥
fault_asks_none forms line fault asked (inl (name, words, e, none, unknown)) h = asks_none forms line name words asked none e h
fault_asks_none forms line fault asked (inr (form, words, e, known, wrong)) h =
    let is = says_in forms form line words asked known e h in
    not_wrong form.kinds words fault wrong (mean_kinds form.kinds words is.values is.say)

-- no line asks for two things
pub asks_one : {A : Type 0} (forms : List (LineForm A)) (line : List ℕ) (a b : A) → AllByRecursion (λ (f : LineForm A). AreSmall f.kinds) forms → AsksBy forms line a → AsksBy forms line b → a ≡ b
asks_one {A} forms line a b small h k =
    let other = says_in forms h.form line h.words b h.named h.are k in
    let same = values_known h.form.kinds h.words h.is.values other.values (form_has (λ (f : LineForm A). AreSmall f.kinds) forms h.form.name h.form small h.named) h.is.say other.say in
    h.is.asks ∙ ap h.form.asks same ∙ sym other.asks

-- ---- lines without a reply

-- a line begins as its first word
begins_as : (name : List ℕ) (words : List (List ℕ)) (line : List ℕ) → line ≡ join_with_byte 32 (name ∷ words) → get_or line 0 32 ≡ get_or name 0 32
begins_as [] [] line e = ap (λ (bytes : List ℕ). get_or bytes 0 32) e
begins_as [] (word ∷ words) line e = ap (λ (bytes : List ℕ). get_or bytes 0 32) e
begins_as (b ∷ name) [] line e = ap (λ (bytes : List ℕ). get_or bytes 0 32) e
begins_as (b ∷ name) (word ∷ words) line e = ap (λ (bytes : List ℕ). get_or bytes 0 32) e

blank_or_comment : (line : List ℕ) → IsBlankOrComment line → 35 < get_or line 0 32 → ⊥
blank_or_comment [] h l = omega arith
blank_or_comment (b ∷ bytes) h l = omega (arith, h)

-- ask for nothing, where each form's name begins with a letter
pub not_quiet : {A : Type 0} (forms : List (LineForm A)) (line : List ℕ) (asked : A) → AllByRecursion (λ (f : LineForm A). 35 < get_or f.name 0 32) forms → IsQuiet line → AsksBy forms line asked → ⊥
not_quiet {A} forms line asked letters quiet h =
    let letter = form_has (λ (f : LineForm A). 35 < get_or f.name 0 32) forms h.form.name h.form letters h.named in
    let first = begins_as h.form.name h.words line ((has_words line).joined ∙ ap (join_with_byte 32) h.are) in
    blank_or_comment line quiet.1 (subst (λ (n : ℕ). 35 < n) (sym first) letter)
