use Rattle.std.proofs.Common.{◌≡◌, Some, sym, ap, subst, ◌∙◌}
use Rattle.txc_call.specs.declared.need.Need.{Need}
use Rattle.txc_call.specs.CallMachine.{Calling}
use Rattle.txc_call.specs.Needs.{NeedFits, ReplyFits}
use Rattle.txc_call.specs.CallSteps.{need_after}
use Rattle.txc_call.proofs.Keeping.{call_taken}
use Rattle.txc_call.proofs.machine.CallMachine.take.Goals as goal

pub returns-clause-fits : goal.returns-clause-fits
returns-clause-fits c = λ next objects calling.
    let is : c.args.self.now.need ≡ Some c.in-Some.need = ap (λ (v : Calling). v.need) (sym c.self.view_is) ∙ sym c.replace.ensures.value ∙ c.in-Some.is in
    let two : Some c.requires.reply.0 ≡ Some c.in-Some.need = sym c.requires.reply.1 ∙ is in
    let same : c.requires.reply.0 ≡ c.in-Some.need = cc in
    let kept = call_taken next c.args.self.now objects c.in-Some.need c.args.reply is calling
    (subst (λ (n : Need). ReplyFits n c.args.reply) same c.requires.reply.2) in
    rw c.need_after.ensures (subst (λ (v : Calling). NeedFits next objects v.top (Some (need_after v.frames c.in-Some.need c.args.reply)) v.frames) (sym c.self.view_is) kept.fits)
