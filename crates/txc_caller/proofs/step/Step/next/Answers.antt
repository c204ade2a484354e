use Rattle.std.proofs.Common.{◌∙◌, Option, Some, ap, sym, subst}
use Rattle.txc_call.specs.CallSteps.{NeedsFunction}
use Rattle.txc_call.specs.declared.need.Need.{Need}
use Rattle.txc_caller.proofs.Served.{begins_next, continues_next}
use Rattle.txc_caller.proofs.step.Step.next.Goals as goal

pub returns-then-is_begin : goal.returns-then-is_begin
returns-then-is_begin c =
    let begins = begins_next c.in-Some.need.now (sym c.is_begin.ensures ∙ c.if-is_begin.true) in
    (begins.0, c.in-Some.ensures ∙ ap (λ (n : Need). Some n) begins.1)

pub returns-else-is_begin : goal.returns-else-is_begin
returns-else-is_begin c =
    let continues = continues_next c.in-Some.need.now (sym c.is_begin.ensures ∙ c.if-is_begin.false) (subst NeedsFunction c.in-Some.ensures c.requires) in
    (continues.0, c.in-Some.ensures ∙ ap (λ (n : Need). Some n) continues.1)
