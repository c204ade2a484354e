use Rattle.std.proofs.Common.{Some, refl, sym, subst}
use Rattle.txc_call.specs.declared.need.Need.{Need}
use Rattle.txc_call.specs.CallMachine.{Calling}
use Rattle.txc_call.specs.Needs.{InNeed, NeedFits}
use Rattle.txc_call.specs.CallSteps.{AfterNeed}
use Rattle.txc_call.specs.MachineTurn.{turn_of}
use Rattle.txc_call.proofs.Keeping.{call_taken}
use Rattle.txc_call.proofs.OneAsk.{replied_onward}
use Rattle.txc_call.proofs.machine.advance.Goals as goal

pub run-requires-clause-fits : goal.run-requires-clause-fits
run-requires-clause-fits g c =
    let old : Calling = record { top = c.args.frames.now.top; asked = c.args.frames.now.asked; frames = c.args.frames.now.stack; need = Some c.args.need } in
    subst (λ (n : Need). NeedFits g.A.App.next c.args.registry.now c.args.frames.now.top (Some n) c.args.frames.now.stack) (sym c.need_after-next.ensures)
    (call_taken g.A.App.next old c.args.registry.now c.args.need c.args.reply refl c.requires.fits c.requires.reply).fits

pub run-requires-clause-common : goal.run-requires-clause-common
run-requires-clause-common g c =
    let old : Calling = record { top = c.args.frames.now.top; asked = c.args.frames.now.asked; frames = c.args.frames.now.stack; need = Some c.args.need } in (
      c.requires.common.0,
      subst (λ (n : Need). InNeed c.requires.common.0 (Some n) c.args.frames.now.stack) (sym c.need_after-next.ensures)
          ((call_taken g.A.App.next old c.args.registry.now c.args.need c.args.reply refl c.requires.fits c.requires.reply).within c.requires.common.0 (c.requires.common.1, c.requires.common.2)),
    )

pub returns-clause-answer : goal.returns-clause-answer
returns-clause-answer g c =
    let next = g.A.App.next in
    let turn = turn_of c.run.result c.run.new.frames.stack c.run.new.frames.asked c.run.new.registry in
    replied_onward next c.args.frames.now.top c.args.frames.now.stack c.args.frames.now.asked c.args.registry.now c.args.need c.args.reply turn
    c.requires.fits c.requires.reply
    (subst (λ (n : Need). AfterNeed next c.args.frames.now.stack c.args.frames.now.asked c.args.registry.now n turn) c.need_after-next.ensures c.run.ensures.answer)
