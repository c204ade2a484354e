use Rattle.std.proofs.Common.{◌≡◌, ℕ, Bool, false, List, None, length, sym, ap, subst, refl, arith, inl, ◌∙◌}
use Rattle.std.specs.Prelude.{codes}
use Rattle.std.specs.Str.{bytes_eq}
use Rattle.txc_script.specs.LineForms.{form_named}
use Rattle.txc_script.specs.Words.{words_left}
use Rattle.txc_script.proofs.Offered.{same_text, some_word}
use Rattle.txc_script_node.specs.Lines.{event_form, insert_form, lookup_form, node_forms, sweep_form}
use Rattle.txc_script_node.specs.Steps.{MakesLine}
use Rattle.txc_script_node.proofs.Named.{makes_as}
use Rattle.txc_script_node.proofs.step.make_step.Goals as goal

pub next-name-requires : goal.next-name-requires
next-name-requires g c = omega (arith, ap length c.all_words-words.ensures, some_word c.args.line.now)

pub returns-then-eq-clause-made : goal.returns-then-eq-clause-made
returns-then-eq-clause-made g c =
    makes_as g.T.ReplySink.takes lookup_form c.args.line.now c.next-name.result.now (words_left c.next-name.new.self) c.make_lookup.result c.make_lookup.new.why c.args.node.now c.make_lookup.new.node c.args.taker.now c.make_lookup.new.taker refl (sym c.all_words-words.ensures ∙ c.next-name.ensures)
    (same_text c.next-name.result.now c.as_slice.result.now (codes "lookup") c.eq.result c.as_slice.ensures c.eq.ensures c.if-eq.true) c.make_lookup.ensures.made

pub returns-then-eq-2-clause-made : goal.returns-then-eq-2-clause-made
returns-then-eq-2-clause-made g c =
    makes_as g.T.ReplySink.takes insert_form c.args.line.now c.next-name.result.now (words_left c.next-name.new.self) c.make_insertion.result c.make_insertion.new.why c.args.node.now c.make_insertion.new.node c.args.taker.now c.make_insertion.new.taker refl (sym c.all_words-words.ensures ∙ c.next-name.ensures)
    (same_text c.next-name.result.now c.as_slice-2.result.now (codes "insert") c.eq-2.result c.as_slice-2.ensures c.eq-2.ensures c.if-eq-2.true) c.make_insertion.ensures.made

pub returns-then-eq-3-clause-made : goal.returns-then-eq-3-clause-made
returns-then-eq-3-clause-made g c =
    makes_as g.T.ReplySink.takes event_form c.args.line.now c.next-name.result.now (words_left c.next-name.new.self) c.make_event.result c.make_event.new.why c.args.node.now c.make_event.new.node c.args.taker.now c.make_event.new.taker refl (sym c.all_words-words.ensures ∙ c.next-name.ensures)
    (same_text c.next-name.result.now c.as_slice-3.result.now (codes "event") c.eq-3.result c.as_slice-3.ensures c.eq-3.ensures c.if-eq-3.true) c.make_event.ensures.made

pub returns-then-eq-4-clause-made : goal.returns-then-eq-4-clause-made
returns-then-eq-4-clause-made g c =
    makes_as g.T.ReplySink.takes sweep_form c.args.line.now c.next-name.result.now (words_left c.next-name.new.self) c.make_sweep.result c.make_sweep.new.why c.args.node.now c.make_sweep.new.node c.args.taker.now c.make_sweep.new.taker refl (sym c.all_words-words.ensures ∙ c.next-name.ensures)
    (same_text c.next-name.result.now c.as_slice-4.result.now (codes "sweep") c.eq-4.result c.as_slice-4.ensures c.eq-4.ensures c.if-eq-4.true) c.make_sweep.ensures.made

other : (text slice word : List ℕ) (r : Bool) → slice ≡ word → r ≡ bytes_eq text slice → r ≡ false → bytes_eq text word ≡ false
other text slice word r is e h = ap (bytes_eq text) (sym is) ∙ sym e ∙ h

no_form : (name : List ℕ) → bytes_eq name (codes "insert") ≡ false → bytes_eq name (codes "lookup") ≡ false → bytes_eq name (codes "event") ≡ false → bytes_eq name (codes "sweep") ≡ false → form_named node_forms name ≡ None
no_form name insert lookup event sweep = rw (insert, lookup, event, sweep) refl

pub returns-clause-made : goal.returns-clause-made
returns-clause-made g c =
    let name = c.next-name.result.now in
    let none = no_form name (other name c.as_slice-2.result.now _ c.eq-2.result c.as_slice-2.ensures c.eq-2.ensures c.if-eq-2.false) (other name c.as_slice.result.now _ c.eq.result c.as_slice.ensures c.eq.ensures c.if-eq.false)
    (other name c.as_slice-3.result.now _ c.eq-3.result c.as_slice-3.ensures c.eq-3.ensures c.if-eq-3.false) (other name c.as_slice-4.result.now _ c.eq-4.result c.as_slice-4.ensures c.eq-4.ensures c.if-eq-4.false) in
    subst (MakesLine g.T.ReplySink.takes c.args.line.now c.args.node.now c.args.node.now c.args.taker.now c.args.taker.now None) (sym c.leave_unknown.ensures)
    (inl (name, words_left c.next-name.new.self, sym c.all_words-words.ensures ∙ c.next-name.ensures, none, refl), refl, refl)
