-- A line is one thing.
use Rattle.std.proofs.Common.{◌≡◌, ◌<◌, lit<, ℕ, List, Some, None, get_or, refl, sym, ap, subst, ◌∙◌}
use Rattle.std.specs.List.{AllByRecursion}
use Rattle.txc_node.specs.declared.value.TheConstants.{MAX_VALUE_LEN}
use Rattle.txc_node.specs.declared.entry.Entry.{Entry}
use Rattle.txc_node.specs.declared.entry.EntryError.{EntryError}
use Rattle.txc_node.specs.declared.entry.EntryError.TheVariants as errors
use Rattle.txc_node.specs.declared.op.Op.{Op}
use Rattle.txc_node.specs.declared.op.Op.TheVariants.{Insert}
use Rattle.txc_node.specs.Steps.{entry_refusal, refusal_by}
use Rattle.txc_script.specs.LineForms.{LineForm}
use Rattle.txc_script.specs.Lines.{IsQuiet}
use Rattle.txc_script.proofs.Offered.{AreSmall, asks_one, not_quiet}
use Rattle.txc_script_node.specs.Lines.{IsStepLine, node_forms}
use Rattle.txc_script_node.specs.LineMeaning.{Line, Quiet, Step, Unmade, Malformed, IsLine, CanBeMade, IsUnmade, NamesStep}

-- a name begins with a letter
letters : AllByRecursion (λ (form : LineForm Op). 35 < get_or form.name 0 32) node_forms
letters = (lit< tt, (lit< tt, (lit< tt, (lit< tt, tt))))

small : AllByRecursion (λ (form : LineForm Op). AreSmall form.kinds) node_forms
small = ((tt, (tt, (tt, (tt, (tt, (tt, tt)))))), ((tt, (tt, (tt, tt))), ((tt, (tt, tt)), ((tt, tt), tt))))

pub no_quiet_step : (line : List ℕ) (op : Op) → IsQuiet line → IsStepLine line op → ⊥
no_quiet_step line op quiet h = not_quiet node_forms line op letters quiet h.1

pub one_step : (line : List ℕ) (a b : Op) → IsStepLine line a → IsStepLine line b → a ≡ b
one_step line a b h k = asks_one node_forms line a b small h.1 k.1

same_error : (a b : EntryError) → refusal_by a ≡ refusal_by b → a ≡ b
same_error errors.BadReach errors.BadReach e = refl
same_error errors.ValueTooLong errors.ValueTooLong e = refl
same_error errors.BadReach errors.ValueTooLong e = cc
same_error errors.ValueTooLong errors.BadReach e = cc

-- an entry that can be made is not refused
made_unmade : (line : List ℕ) (op : Op) (e : Entry) (error : EntryError) → NamesStep (IsStepLine line) op → IsStepLine line (Insert e) → entry_refusal MAX_VALUE_LEN e ≡ Some (refusal_by error) → ⊥
made_unmade line op e error h is refused =
    let same : op ≡ Insert e = one_step line op (Insert e) h.0 is in
    let made : entry_refusal MAX_VALUE_LEN e ≡ None = subst CanBeMade same h.1 in
    let apart : None ≡ Some (refusal_by error) = sym made ∙ refused in
    cc

same_unmade : (line : List ℕ) (a b : EntryError) → IsUnmade (IsStepLine line) a → IsUnmade (IsStepLine line) b → a ≡ b
same_unmade line a b h k =
    let steps : Insert h.0 ≡ Insert k.0 = one_step line (Insert h.0) (Insert k.0) h.1 k.1 in
    let same : h.0 ≡ k.0 = cc in
    let refusals : Some (refusal_by a) ≡ Some (refusal_by b) = sym h.2 ∙ ap (entry_refusal MAX_VALUE_LEN) same ∙ k.2 in
    same_error a b (cc)

pub one_thing : (F : Type 0) (line : List ℕ) (a b : Line) → IsLine F line a → IsLine F line b → a ≡ b
one_thing F line Quiet Quiet h k = refl
one_thing F line (Step a) (Step b) h k = ap Step (one_step line a b h.0 k.0)
one_thing F line (Unmade a) (Unmade b) h k = ap Unmade (same_unmade line a b h k)
one_thing F line Malformed Malformed h k = refl
one_thing F line Quiet (Step b) h k = absurd (no_quiet_step line b h k.0)
one_thing F line Quiet (Unmade b) h k = absurd (no_quiet_step line (Insert k.0) h k.1)
one_thing F line Quiet Malformed h k = absurd (k.1.not_quiet h)
one_thing F line (Step a) Quiet h k = absurd (no_quiet_step line a k h.0)
one_thing F line (Step a) (Unmade b) h k = absurd (made_unmade line a k.0 b h k.1 k.2)
one_thing F line (Step a) Malformed h k = absurd (k.1.asks_nothing a h.0)
one_thing F line (Unmade a) Quiet h k = absurd (no_quiet_step line (Insert h.0) k h.1)
one_thing F line (Unmade a) (Step b) h k = absurd (made_unmade line b h.0 a k h.1 h.2)
one_thing F line (Unmade a) Malformed h k = absurd (k.1.asks_nothing (Insert h.0) h.1)
one_thing F line Malformed Quiet h k = absurd (h.1.not_quiet k)
one_thing F line Malformed (Step b) h k = absurd (h.1.asks_nothing b k.0)
one_thing F line Malformed (Unmade b) h k = absurd (h.1.asks_nothing (Insert k.0) k.1)
