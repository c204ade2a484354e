use Rattle.std.proofs.Common.{◌≡◌, ◌∙◌, Some, sym, subst, None}
use Rattle.txc_txn_ports.specs.declared.turn.Turn.TheVariants.{Ask, Ended}
use Rattle.txc_txn.specs.ByHand.{HandTurn}
use Rattle.txc_caller.specs.ActRequests.{HasPassed, IsGoing, TransitionBy}
use Rattle.txc_caller.proofs.Lent.{first_exists}
use Rattle.txc_caller.proofs.Requests.{no_pin_to_come, passed_heard, passed_self}
use Rattle.txc_caller.proofs.Acting.{passed_leads}
use Rattle.txc_caller.proofs.serving.pass_pin.Goals as goal

pub asked-reply-requires : goal.asked-reply-requires
asked-reply-requires g c =
    let is : c.args.turn ≡ Some (Ask c.in-Some-Ask.request) = cc in
    subst (IsGoing (g.P.CallPorts.ports c.args.ports.now).database.events c.args.txn.now.core) is c.requires

pub hear-requires : goal.hear-requires
hear-requires g c = record { reply = c.asked-reply.ensures.right.answers; row = c.asked-reply.ensures.right.row; right = c.asked-reply.ensures.right.right }

pub returns-else-not-is_of_pin-clause-passed : goal.returns-else-not-is_of_pin-clause-passed
returns-else-not-is_of_pin-clause-passed g c =
    let row = (g.P.CallPorts.ports c.args.ports.now).database.events in
    let is : c.args.turn ≡ Some (Ask c.in-Some-Ask.request) = cc in
    let going = subst (IsGoing row c.args.txn.now.core) is c.requires in
    let lent = c.asked-reply.ensures.lent in
    let old = c.args.txn.now in
    subst (λ (t : HandTurn). HasPassed row old t c.hear.new.self c.hear.result) (sym is)
    (passed_heard g.A.App.next row old c.hear.new.self c.in-Some-Ask.request c.asked-reply.result c.hear.result c.hear.ensures.gone_on c.hear.ensures.objects c.hear.ensures.functions
    lent.valid.fits (first_exists old.objects old.core lent.functions lent.top) going.fits (sym c.is_of_pin.ensures ∙ c.if-not-is_of_pin.false) c.asked-reply.ensures.right.answers
    (λ front at. c.asked-reply.ensures.right.row front at ∙ c.requires.events) c.requires.events c.requires.nodes)

pub returns-else-not-is_of_pin-clause-node : goal.returns-else-not-is_of_pin-clause-node
returns-else-not-is_of_pin-clause-node g c = c.asked-reply.ensures.node (sym c.is_of_pin.ensures ∙ c.if-not-is_of_pin.false)

pub returns-then-not-is_of_pin-clause-passed : goal.returns-then-not-is_of_pin-clause-passed
returns-then-not-is_of_pin-clause-passed g c =
    let row = (g.P.CallPorts.ports c.args.ports.now).database.events in
    let is : c.args.turn ≡ Some (Ask c.in-Some-Ask.request) = cc in
    subst (λ (t : HandTurn). HasPassed row c.args.txn.now t c.args.txn.now (Some (Ask c.in-Some-Ask.request))) (sym is)
    (passed_self row c.args.txn.now (Some (Ask c.in-Some-Ask.request)) (no_pin_to_come c.in-Some-Ask.request (sym c.is_of_pin.ensures ∙ c.if-not-is_of_pin.true))
    (subst (IsGoing row c.args.txn.now.core) is c.requires))

pub returns-else-not-is_of_pin-clause-transition : goal.returns-else-not-is_of_pin-clause-transition
returns-else-not-is_of_pin-clause-transition g c =
    let before = g.P.CallPorts.ports c.args.ports.now in
    let after = g.P.CallPorts.ports c.asked-reply.new.ports in
    let is : c.args.turn ≡ Some (Ask c.in-Some-Ask.request) = cc in
    let going = subst (IsGoing before.database.events c.args.txn.now.core) is c.requires in
    let lent = c.asked-reply.ensures.lent in
    let old = c.args.txn.now in
    subst (λ (t : HandTurn). TransitionBy old.core before t c.hear.new.self.core after c.hear.result) (sym is)
    (passed_leads g.A.App.next old.objects old.core c.hear.new.self.core c.hear.result old.core.seen before after (first_exists old.objects old.core lent.functions lent.top)
    c.in-Some-Ask.request c.asked-reply.result c.asked-reply.ensures.asked going.fits (sym c.is_of_pin.ensures ∙ c.if-not-is_of_pin.false) c.hear.ensures.gone_on)

pub returns-then-not-is_of_pin-clause-transition : goal.returns-then-not-is_of_pin-clause-transition
returns-then-not-is_of_pin-clause-transition g c =
    let ports = g.P.CallPorts.ports c.args.ports.now in
    let core = c.args.txn.now.core in
    let is : c.args.turn ≡ Some (Ask c.in-Some-Ask.request) = cc in
    subst (λ (t : HandTurn). TransitionBy core ports t core ports (Some (Ask c.in-Some-Ask.request))) (sym is) (λ new taken failed h. h)

pub returns-in-Some-Ended-clause-transition : goal.returns-in-Some-Ended-clause-transition
returns-in-Some-Ended-clause-transition g c =
    let ports = g.P.CallPorts.ports c.args.ports.now in
    let core = c.args.txn.now.core in
    let is : c.args.turn ≡ Some (Ended c.in-Some-Ended.outcome) = cc in
    subst (λ (t : HandTurn). TransitionBy core ports t core ports (Some (Ended c.in-Some-Ended.outcome))) (sym is) (λ new taken failed h. h)

pub returns-in-None-clause-transition : goal.returns-in-None-clause-transition
returns-in-None-clause-transition g c =
    let ports = g.P.CallPorts.ports c.args.ports.now in
    let core = c.args.txn.now.core in
    subst (λ (t : HandTurn). TransitionBy core ports t core ports None) (sym c.in-None.is) (λ new taken failed h. h)
