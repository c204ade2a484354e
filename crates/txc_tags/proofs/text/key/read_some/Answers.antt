use Rattle.std.proofs.Common.{◌≡◌, ◌≢◌, ℕ, List, ◌+◌, ◌∷◌, [], length, length-append, sym, ap, ◌∙◌, subst, arith}
use Rattle.std.proofs.lemmas.Result.{IfOk-weaker, IfErr-weaker}
use Rattle.txc_tags.specs.TextGrammar.{IsTextOf}
use Rattle.txc_tags.specs.TextKeyReader.{closed_text, AreArguments, AreSome}
use Rattle.txc_tags.specs.TextReader.{IsRefused}
use Rattle.txc_tags.proofs.TextReading.{handed_on, other_byte}
use Rattle.txc_tags.proofs.TextKeys.{HasArgs, number_wrong, after_wrong, one_more, all_args, over, neither}
use Rattle.txc_tags.proofs.text.key.read_some.Goals as goal

pub returns-in_err-number-clause-refused : goal.returns-in_err-number-clause-refused
returns-in_err-number-clause-refused c = handed_on (λ rest. IsRefused AreSome c.args.text.now rest.now) c.from_residual.result c.in_err-number.field-0.0 c.from_residual.ensures.1
    (number_wrong c.args.text.now c.loop-number.rest.now c.loop-number.args c.loop-number.invariant.read c.in_err-number.field-0.0.now c.loop-number.invariant.few c.in_err-number.ensures.refused)

pub returns-in-Ok-clause-answer : goal.returns-in-Ok-clause-answer
returns-in-Ok-clause-answer c = IfOk-weaker c.close.result _ (IsTextOf AreArguments closed_text c.args.text.now)
    (λ a e. subst (λ (args : List ℕ). IsTextOf AreArguments closed_text c.args.text.now args) (sym c.with-args.ensures ∙ sym e.0)
    (all_args c.args.text.now c.loop-number.rest.now c.loop-number.args c.loop-number.invariant.read c.in_ok-number.number c.in_ok-number.after.now c.in_ok-number.ensures.answer.0 c.in_ok-number.ensures.answer.1
    (c.in-Ok.ensures.answer.parts ∙ ap (λ t. 41 ∷ t) e.1) c.loop-number.invariant.few)) c.close.ensures.answer

pub returns-in-Ok-clause-refused : goal.returns-in-Ok-clause-refused
returns-in-Ok-clause-refused c = IfErr-weaker c.close.result _ (λ rest. IsRefused AreSome c.args.text.now rest.now)
    (λ r e. after_wrong c.args.text.now c.loop-number.rest.now c.loop-number.args c.loop-number.invariant.read c.in_ok-number.number c.in_ok-number.after.now c.in_ok-number.ensures.answer.0 c.in_ok-number.ensures.answer.1 r.now
    (rw e.0 (over (length c.loop-number.args + 1) c.in_ok-number.after.now c.in-Ok.more.now (omega (arith, c.loop-number.invariant.few)) c.in-Ok.ensures.answer.parts e.1))) c.close.ensures.refused

pub returns-then-len-eq-MAX_ARGS-clause-refused : goal.returns-then-len-eq-MAX_ARGS-clause-refused
returns-then-len-eq-MAX_ARGS-clause-refused c =
    let full : length c.loop-number.args + 1 ≡ 4 = sym (length-append c.loop-number.args (c.in_ok-number.number ∷ [])) ∙ sym (ap length c.with-args.ensures) ∙ sym c.len.ensures.count ∙ c.if-len-eq-MAX_ARGS.true in
    after_wrong c.args.text.now c.loop-number.rest.now c.loop-number.args c.loop-number.invariant.read c.in_ok-number.number c.in_ok-number.after.now c.in_ok-number.ensures.answer.0 c.in_ok-number.ensures.answer.1 c.in_ok-number.after.now
    (neither (length c.loop-number.args + 1) c.in_ok-number.after.now (omega (arith, full)) (other_byte 41 c.in_ok-number.after.now c.in_default.field-0.now c.in_default.ensures.refused).1
    (λ others n e few. omega (arith, full, few)))

pub returns-in_err-rest-clause-refused : goal.returns-in_err-rest-clause-refused
returns-in_err-rest-clause-refused c =
    let last = other_byte 44 c.in_ok-number.after.now c.in_err-rest.field-0.0.now c.in_err-rest.ensures.refused in
    handed_on (λ rest. IsRefused AreSome c.args.text.now rest.now) c.from_residual-in_err-rest.result c.in_err-rest.field-0.0 c.from_residual-in_err-rest.ensures.1
    (subst (IsRefused AreSome c.args.text.now) last.0
    (after_wrong c.args.text.now c.loop-number.rest.now c.loop-number.args c.loop-number.invariant.read c.in_ok-number.number c.in_ok-number.after.now c.in_ok-number.ensures.answer.0 c.in_ok-number.ensures.answer.1 c.in_ok-number.after.now
    (neither (length c.loop-number.args + 1) c.in_ok-number.after.now (omega (arith, c.loop-number.invariant.few)) (other_byte 41 c.in_ok-number.after.now c.in_default.field-0.now c.in_default.ensures.refused).1
    (λ others n e few. last.1 others e))))

pub loop-number-preserved : goal.loop-number-preserved
loop-number-preserved c =
    let counted : length c.with-args.result ≡ length c.loop-number.args + 1 = ap length c.with-args.ensures ∙ length-append c.loop-number.args (c.in_ok-number.number ∷ []) in
    let left : length c.loop-number.args + 1 ≢ 4 = λ e. c.if-len-eq-MAX_ARGS.false (c.len.ensures.count ∙ counted ∙ e) in
    record {
      few = grind (arith, counted, left, c.loop-number.invariant.few);
      read = subst (λ (args : List ℕ). HasArgs c.args.text.now c.in_ok-rest.rest.now args) (sym c.with-args.ensures)
          (one_more c.args.text.now c.loop-number.rest.now c.loop-number.args c.loop-number.invariant.read c.in_ok-number.number c.in_ok-number.after.now c.in_ok-number.ensures.answer.0 c.in_ok-number.ensures.answer.1 c.in_ok-rest.rest.now c.in_ok-rest.ensures.answer.parts);
    }
