use Rattle.std.proofs.Common.{◌≡◌, ◌≢◌, ℕ, None, Some, sym, subst}
use Rattle.txc_tags.specs.Keys.{Call}
use Rattle.txc_call.specs.declared.need.Need.TheVariants as needs
use Rattle.txc_txn_ports.specs.declared.turn.Turn.TheVariants.{Ask, Ended}
use Rattle.txc_txn.specs.ByHand.{HandTurn, IsHandTurn}
use Rattle.txc_caller.specs.ActRequests.{pins_to_come, HasMadeRequest, IsGoing, TurnTransition, turn_error}
use Rattle.txc_caller.proofs.Making.{made_ended, made_heard, made_none, missed_heard}
use Rattle.txc_caller.proofs.Acting.{made_leads, still_leads}
use Rattle.txc_caller.proofs.serving.pass_last.Goals as goal

pub asked-reply-requires : goal.asked-reply-requires
asked-reply-requires g c =
    let is : c.args.turn ≡ Some (Ask c.in-Some-Ask.request) = cc in
    subst (IsGoing (g.P.CallPorts.ports c.args.ports.now).database.events c.args.txn.now.core) is c.requires.going

pub hear-requires : goal.hear-requires
hear-requires g c = record { reply = c.asked-reply.ensures.right.answers; row = c.asked-reply.ensures.right.row; right = c.asked-reply.ensures.right.right }

pub returns-in-Some-Ask-clause-made : goal.returns-in-Some-Ask-clause-made
returns-in-Some-Ask-clause-made g c =
    let is : c.args.turn ≡ Some (Ask c.in-Some-Ask.request) = cc in
    let going = subst (IsGoing (g.P.CallPorts.ports c.args.ports.now).database.events c.args.txn.now.core) is c.requires.going in
    let last = subst (λ (t : HandTurn). pins_to_come t ≡ 0) is c.requires.last in
    subst (λ (t : HandTurn). HasMadeRequest c.args.txn.now t c.hear.new.self c.hear.result) (sym is)
    (made_heard c.args.txn.now c.hear.new.self c.in-Some-Ask.request c.asked-reply.result c.hear.result c.hear.ensures.gone_on c.hear.ensures.objects c.hear.ensures.functions going.fits last
    c.asked-reply.ensures.right.answers)

pub returns-in-Some-Ask-clause-missed : goal.returns-in-Some-Ask-clause-missed
returns-in-Some-Ask-clause-missed g c = λ k none begins.
    let is : c.args.turn ≡ Some (Ask c.in-Some-Ask.request) = cc in
    let going = subst (IsGoing (g.P.CallPorts.ports c.args.ports.now).database.events c.args.txn.now.core) is c.requires.going in
    let last = subst (λ (t : HandTurn). pins_to_come t ≡ 0) is c.requires.last in
    missed_heard c.args.txn.now c.hear.new.self c.in-Some-Ask.request c.asked-reply.result c.hear.result c.hear.ensures.gone_on going.fits last c.asked-reply.ensures.right.answers
    (g.P.CallPorts.ports c.args.ports.now).node (g.P.CallPorts.ports c.asked-reply.new.ports).node c.asked-reply.ensures.looked_up k none begins

pub returns-in-Some-Ended-clause-made : goal.returns-in-Some-Ended-clause-made
returns-in-Some-Ended-clause-made g c =
    let is : c.args.turn ≡ Some (Ended c.in-Some-Ended.outcome) = cc in
    subst (λ (t : HandTurn). HasMadeRequest c.args.txn.now t c.args.txn.now (Some (Ended c.in-Some-Ended.outcome))) (sym is)
    (made_ended c.args.txn.now c.in-Some-Ended.outcome (subst (IsHandTurn c.args.txn.now.core) is c.requires.going.fits))

pub returns-in-None-clause-made : goal.returns-in-None-clause-made
returns-in-None-clause-made g c =
    subst (λ (t : HandTurn). HasMadeRequest c.args.txn.now t c.args.txn.now None) (sym c.in-None.is)
    (made_none c.args.txn.now (subst (IsHandTurn c.args.txn.now.core) c.in-None.is c.requires.going.fits) (λ k. c.requires.looked_up k c.in-None.is))

pub returns-in-None-clause-missed : goal.returns-in-None-clause-missed
returns-in-None-clause-missed g c = λ k none begins. absurd (c.requires.looked_up k c.in-None.is begins)

pub returns-in-Some-Ask-clause-transition : goal.returns-in-Some-Ask-clause-transition
returns-in-Some-Ask-clause-transition g c =
    let before = g.P.CallPorts.ports c.args.ports.now in
    let after = g.P.CallPorts.ports c.asked-reply.new.ports in
    let old = c.args.txn.now in
    let is : c.args.turn ≡ Some (Ask c.in-Some-Ask.request) = cc in
    let going = subst (IsGoing before.database.events old.core) is c.requires.going in
    let last = subst (λ (t : HandTurn). pins_to_come t ≡ 0) is c.requires.last in
    subst (λ (t : HandTurn). TurnTransition old.core before t after c.hear.new.self.core.taken (turn_error c.hear.result)) (sym is)
    (made_leads old.core c.hear.new.self.core c.hear.result old.core.seen before after g.A.App.next c.in-Some-Ask.request c.asked-reply.result c.asked-reply.ensures.asked going.fits last
    c.hear.ensures.gone_on)

pub returns-in-Some-Ended-clause-transition : goal.returns-in-Some-Ended-clause-transition
returns-in-Some-Ended-clause-transition g c =
    let ports = g.P.CallPorts.ports c.args.ports.now in
    let core = c.args.txn.now.core in
    let is : c.args.turn ≡ Some (Ended c.in-Some-Ended.outcome) = cc in
    subst (λ (t : HandTurn). TurnTransition core ports t ports core.taken (turn_error (Some (Ended c.in-Some-Ended.outcome)))) (sym is)
    (still_leads core ports (Some (Ended c.in-Some-Ended.outcome)))

pub returns-in-None-clause-transition : goal.returns-in-None-clause-transition
returns-in-None-clause-transition g c =
    let ports = g.P.CallPorts.ports c.args.ports.now in
    let core = c.args.txn.now.core in
    subst (λ (t : HandTurn). TurnTransition core ports t ports core.taken (turn_error None)) (sym c.in-None.is) (still_leads core ports None)
