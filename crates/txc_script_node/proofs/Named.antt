-- The steps that the words of a line name.
use Rattle.std.proofs.Common.{◌≡◌, ◌<◌, ◌≤◌, ℕ, Bool, List, ◌∷◌, Option, Some, None, length, subst, inr, refl}
use Rattle.txc_node.specs.declared.entry.Entry.{Entry}
use Rattle.txc_node.specs.declared.entry.EntryError.{EntryError}
use Rattle.txc_node.specs.declared.entry.EntryError.TheVariants as errors
use Rattle.txc_node.specs.declared.op.Op.{Op}
use Rattle.txc_node.specs.declared.value.TheConstants.{MAX_VALUE_LEN}
use Rattle.txc_node.specs.Cache.{Cache}
use Rattle.txc_node.specs.Steps.{entry_refusal, refusal_by}
use Rattle.txc_node.proofs.Offered.{entry_has_no_reach, entry_is_too_long}
use Rattle.txc_script.specs.LineForms.{LineForm, form_named}
use Rattle.txc_script.specs.Words.{words_of}
use Rattle.txc_script.specs.declared.unread.LineError.{LineError}
use Rattle.txc_script.specs.declared.unread.LineError.TheVariants.{Wrong, Memory}
use Rattle.txc_script_node.specs.Lines.{node_forms}
use Rattle.txc_script_node.specs.Steps.{MakesForm, MakesLine, Taking}

-- ---- insertions

pub entry_refused : (e : Entry) (error : EntryError) → ((error ≡ errors.BadReach) → e.reach.known < e.reach.lo) → ((error ≡ errors.ValueTooLong) → (e.reach.lo ≤ e.reach.known) × (MAX_VALUE_LEN < length e.value))
    → entry_refusal MAX_VALUE_LEN e ≡ Some (refusal_by error)
entry_refused e errors.BadReach reach long = entry_has_no_reach MAX_VALUE_LEN e (reach refl)
entry_refused e errors.ValueTooLong reach long = let l = long refl in entry_is_too_long MAX_VALUE_LEN e l.0 l.1

-- ---- the step of a line

-- what was made, or not, as the words after the name of a form say was made, or not, as the line says
pub makes_as : {T F : Type 0} (takes : Taking T) (form : LineForm Op) (line name : List ℕ) (words : List (List ℕ)) (r : Option Bool) (why : LineError F) (c next : Cache) (old new : T) → form_named node_forms form.name ≡ Some form
    → words_of line ≡ name ∷ words → name ≡ form.name → MakesForm takes form words c next old new r why → MakesLine takes line c next old new r why
makes_as takes form line name words (Some refused) why c next old new known cut named h =
    (h.0, record { form = form; words = words; named = known; are = subst (λ (n : List ℕ). words_of line ≡ n ∷ words) named cut; is = h.1 }, h.2, h.3, h.4, h.5)
makes_as takes form line name words None (Wrong fault) c next old new known cut named h =
    (inr (form, words, subst (λ (n : List ℕ). words_of line ≡ n ∷ words) named cut, known, h.0), h.1, h.2)
makes_as takes form line name words None Memory c next old new known cut named h = tt
