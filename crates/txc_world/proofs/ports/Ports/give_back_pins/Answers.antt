use Rattle.std.proofs.Common.{◌≡◌, ◌∙◌, ◌<◌, length, get_or, ap, arith}
use Rattle.txc_world.specs.Ports.{PortsValue}
use Rattle.txc_world.proofs.Giving.{gives_all, gives_one, pins_then}
use Rattle.txc_cushion.proofs.Counts.{give_back_counts}
use Rattle.txc_world.proofs.ports.Ports.give_back_pins.Goals as goal

pub loop-pin-preserved : goal.loop-pin-preserved
loop-pin-preserved g c =
    let pins = c.args.pins.now.pins.items in
    let at = c.loop-pin.pin-index in
    let within : at < length pins = omega (arith, ap length c.deref-pin-items.ensures.value) in
    let is : c.pin-item.result ≡ get_or pins at c.pin-item.result = cc (c.pin-item.is, c.deref-pin-items.ensures.value) in
    record {
      same = c.give_back.ensures.same ∙ ap (λ (p : PortsValue). record p { cushion = c.give_back.new.self.cushion }) c.loop-pin.invariant.same;
      pins = pins_then c.args.self.now c.loop-pin.self c.give_back.new.self c.pin-item.result.stamp c.give_back.result c.loop-pin.invariant.pins c.give_back.ensures.transition;
      users = gives_one c.args.self.now c.loop-pin.self c.give_back.new.self pins at c.pin-item.result c.give_back.result give_back_counts
          c.give_back.ensures.transition within is c.loop-pin.invariant.users;
    }

pub returns-clause-users : goal.returns-clause-users
returns-clause-users g c =
    let pins = c.args.pins.now.pins.items in
    gives_all c.args.self.now c.loop-pin.self pins c.loop-pin.pin-index (omega (arith, ap length c.deref-pin-items.ensures.value)) c.loop-pin.invariant.users
