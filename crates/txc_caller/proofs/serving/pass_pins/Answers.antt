use Rattle.std.proofs.Common.{◌∙◌, arith, sym, subst}
use Rattle.txc_stream.specs.Names.{Name}
use Rattle.txc_caller.specs.ActRequests.{HasPassed, IsGoing}
use Rattle.txc_caller.proofs.Letting.{grown_then}
use Rattle.txc_caller.proofs.Requests.{passed_then, three_at_most}
use Rattle.txc_caller.proofs.serving.pass_pins.Goals as goal

pub pass_pin-second-requires : goal.pass_pin-second-requires
pass_pin-second-requires g c =
    subst (λ (row : Name). IsGoing row c.pass_pin-first.new.txn.core c.pass_pin-first.result) (sym c.pass_pin-first.ensures.grown.events) c.pass_pin-first.ensures.passed.going

pub pass_pin-requires : goal.pass_pin-requires
pass_pin-requires g c =
    subst (λ (row : Name). IsGoing row c.pass_pin-second.new.txn.core c.pass_pin-second.result) (sym c.pass_pin-second.ensures.grown.events) c.pass_pin-second.ensures.passed.going

pub returns-clause-passed : goal.returns-clause-passed
returns-clause-passed g c =
    let row = (g.P.CallPorts.ports c.args.ports.now).database.events in
    let one = c.pass_pin-first.ensures.passed in
    let two = subst (λ (r : Name). HasPassed r c.pass_pin-first.new.txn c.pass_pin-first.result c.pass_pin-second.new.txn c.pass_pin-second.result)
    c.pass_pin-first.ensures.grown.events c.pass_pin-second.ensures.passed in
    let three = subst (λ (r : Name). HasPassed r c.pass_pin-second.new.txn c.pass_pin-second.result c.pass_pin.new.txn c.pass_pin.result)
    (c.pass_pin-second.ensures.grown.events ∙ c.pass_pin-first.ensures.grown.events) c.pass_pin.ensures.passed in
    passed_then row c.args.txn.now c.pass_pin-first.new.txn c.pass_pin.new.txn c.args.turn c.pass_pin-first.result c.pass_pin.result one
    (passed_then row c.pass_pin-first.new.txn c.pass_pin-second.new.txn c.pass_pin.new.txn c.pass_pin-first.result c.pass_pin-second.result c.pass_pin.result two three)

pub returns-clause-last : goal.returns-clause-last
returns-clause-last g c =
    omega (arith, three_at_most c.args.turn, c.pass_pin-first.ensures.passed.fewer, c.pass_pin-second.ensures.passed.fewer, c.pass_pin.ensures.passed.fewer)

pub returns-clause-node : goal.returns-clause-node
returns-clause-node g c = c.pass_pin.ensures.node ∙ (c.pass_pin-second.ensures.node ∙ c.pass_pin-first.ensures.node)

pub returns-clause-grown : goal.returns-clause-grown
returns-clause-grown g c =
    let a = (g.P.CallPorts.ports c.args.ports.now).database in
    let b = (g.P.CallPorts.ports c.pass_pin-first.new.ports).database in
    let d = (g.P.CallPorts.ports c.pass_pin-second.new.ports).database in
    let e = (g.P.CallPorts.ports c.pass_pin.new.ports).database in
    grown_then a d e (grown_then a b d c.pass_pin-first.ensures.grown c.pass_pin-second.ensures.grown) c.pass_pin.ensures.grown

pub returns-clause-transition : goal.returns-clause-transition
returns-clause-transition g c = λ new taken failed h.
    c.pass_pin-first.ensures.transition new taken failed (c.pass_pin-second.ensures.transition new taken failed (c.pass_pin.ensures.transition new taken failed h))
