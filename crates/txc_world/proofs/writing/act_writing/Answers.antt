use Rattle.std.proofs.Common.{sym, ◌∙◌}
use Rattle.txc_world.specs.declared.actor.Actor.TheVariants.{Writing}
use Rattle.txc_world.specs.declared.reply.Refusal.TheVariants.{MidCall}
use Rattle.txc_world.proofs.Acted.{refused_so, writing_mid_call}
use Rattle.txc_world.proofs.writing.act_writing.Goals as goal

pub returns-in-Start-clause-acted : goal.returns-in-Start-clause-acted
returns-in-Start-clause-acted g c =
    refused_so g.A.App.next c.args.act.now c.args.ports.now (Writing c.args.current) MidCall c.requires
    (writing_mid_call g.A.App.next c.args.ports.now c.args.current c.args.act.now (sym c.is_some.ensures ∙ c.if-is_some.true) c.in-Start.is).0 tt

pub returns-in-Start-clause-transition : goal.returns-in-Start-clause-transition
returns-in-Start-clause-transition g c =
    (writing_mid_call g.A.App.next c.args.ports.now c.args.current c.args.act.now (sym c.is_some.ensures ∙ c.if-is_some.true) c.in-Start.is).1
