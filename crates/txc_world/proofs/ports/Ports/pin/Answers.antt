use Rattle.std.proofs.Common.{refl}
use Rattle.txc_world.specs.Ports.{PortsValue}
use Rattle.txc_world.proofs.PortsLemmas.{keeps_grown_from, pin_part, pinned_from, ports_grow}
use Rattle.txc_world.proofs.ports.Ports.pin.Goals as goal

pub invariant_of-self-2 : goal.invariant_of-self-2
invariant_of-self-2 g c =
    let p : PortsValue = record { database = c.self.inside.database; cushion = c.self.inside.cushion; nodes = c.self.inside.nodes.items; spare = c.self.inside.spare.items; actors = c.self.inside.actors } in
    (c.in_ok-pinned.ensures.answer, ports_grow p c.pin.new.self (pin_part c.self.inside.database c.pin.new.self c.args.now c.in_ok-pinned.ensures.after) c.self.invariant.1)

pub returns-clause-transition : goal.returns-clause-transition
returns-clause-transition g c =
    let p : PortsValue = record { database = c.self.inside.database; cushion = c.self.inside.cushion; nodes = c.self.inside.nodes.items; spare = c.self.inside.spare.items; actors = c.self.inside.actors } in
    let pinned = c.in_ok-pinned.pinned in
    pinned_from p c.args.self.now c.self.view_is c.pin.new.self c.args.now c.args.at_least pinned c.in_ok-pinned.ensures.after (c.in_ok-pinned.ensures.only_if refl)
    c.in_ok-pinned.ensures.answer c.in_ok-pinned.ensures.moment c.in_ok-pinned.ensures.front pinned.shows

pub returns-clause-keeps : goal.returns-clause-keeps
returns-clause-keeps g c =
    let p : PortsValue = record { database = c.self.inside.database; cushion = c.self.inside.cushion; nodes = c.self.inside.nodes.items; spare = c.self.inside.spare.items; actors = c.self.inside.actors } in
    keeps_grown_from p c.args.self.now c.self.view_is c.pin.new.self p.spare (pin_part c.self.inside.database c.pin.new.self c.args.now c.in_ok-pinned.ensures.after)
