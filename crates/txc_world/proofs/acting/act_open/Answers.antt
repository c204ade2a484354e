use Rattle.std.proofs.Common.{inr, sym, ◌∙◌}
use Rattle.txc_world.specs.declared.actor.Actor.TheVariants.{Reading}
use Rattle.txc_world.specs.declared.reply.Refusal.TheVariants.{MidCall}
use Rattle.txc_world.proofs.Acted.{reading_mid_call, refused_so}
use Rattle.txc_world.proofs.acting.act_open.Goals as goal

pub returns-in-Request-clause-acted : goal.returns-in-Request-clause-acted
returns-in-Request-clause-acted g c = rw c.in-Request.is c.request_call-reply.ensures.acted

pub returns-in-Request-clause-transition : goal.returns-in-Request-clause-transition
returns-in-Request-clause-transition g c = rw c.in-Request.is c.request_call-reply.ensures.transition

pub returns-in-Start-clause-acted : goal.returns-in-Start-clause-acted
returns-in-Start-clause-acted g c = rw c.in-Start.is c.start-reply.ensures.acted

pub returns-in-Start-clause-transition : goal.returns-in-Start-clause-transition
returns-in-Start-clause-transition g c = rw c.in-Start.is (c.start-reply.ensures.transition g.A.App.next c.args.pass)

pub returns-in-Commit-clause-acted : goal.returns-in-Commit-clause-acted
returns-in-Commit-clause-acted g c =
    refused_so g.A.App.next c.args.act.now c.args.ports.now (Reading c.args.current) MidCall c.requires.fits
    (reading_mid_call g.A.App.next c.args.pass c.args.ports.now c.args.current c.args.act.now (sym c.is_some.ensures ∙ c.if-is_some.true) (inr c.in-Commit.is)).0 tt

pub returns-in-Commit-clause-transition : goal.returns-in-Commit-clause-transition
returns-in-Commit-clause-transition g c =
    (reading_mid_call g.A.App.next c.args.pass c.args.ports.now c.args.current c.args.act.now (sym c.is_some.ensures ∙ c.if-is_some.true) (inr c.in-Commit.is)).1

pub returns-in-Commit-2-clause-acted : goal.returns-in-Commit-2-clause-acted
returns-in-Commit-2-clause-acted g c = rw c.in-Commit-2.is c.commit.ensures.acted

pub returns-in-Commit-2-clause-transition : goal.returns-in-Commit-2-clause-transition
returns-in-Commit-2-clause-transition g c = rw c.in-Commit-2.is (c.commit.ensures.transition g.A.App.next c.args.pass)

pub returns-in-Abort-clause-acted : goal.returns-in-Abort-clause-acted
returns-in-Abort-clause-acted g c = rw c.in-Abort.is c.abort.ensures.acted

pub returns-in-Abort-clause-transition : goal.returns-in-Abort-clause-transition
returns-in-Abort-clause-transition g c = rw c.in-Abort.is (c.abort.ensures.transition g.A.App.next c.args.pass)
