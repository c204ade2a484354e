use Rattle.std.proofs.Common.{◌≡◌, refl}
use Rattle.txc_cushion.specs.Cushion.{CushionValue, handed_out}
use Rattle.txc_cushion.proofs.HandedOut.{with_user_pin, map_is, handed_shown, handed_falls, handed_few, handed_allowed}
use Rattle.txc_cushion.proofs.cushion_core.CushionCore.fresh.Goals as goal

pub invariant_of-self-2 : goal.invariant_of-self-2
invariant_of-self-2 c = rw c.in_ok-pins.ensures.users (map_is _ (with_user_pin _) _ c.self.invariant)

pub invariant_of-result : goal.invariant_of-result
invariant_of-result c =
    let was : CushionValue = record { events = c.self.inside.front.events; history = c.self.inside.front.history; entries = c.self.inside.entries.items } in
    let pins : c.in_ok-pins.pins.items ≡ handed_out was c.args.now c.args.staleness c.args.at_least = c.in_ok-pins.ensures.pins in
    record {
      shows = rw (c.in_ok-front.ensures, pins) (handed_shown was c.args.now c.args.staleness c.args.at_least c.self.invariant);
      falls = rw pins (handed_falls was c.args.now c.args.staleness c.args.at_least c.self.invariant);
      few = rw pins (handed_few was c.args.now c.args.staleness c.args.at_least c.self.invariant);
    }

pub returns-clause-allowed : goal.returns-clause-allowed
returns-clause-allowed c =
    let was : CushionValue = record { events = c.self.inside.front.events; history = c.self.inside.front.history; entries = c.self.inside.entries.items } in
    let pins : c.in_ok-pins.pins.items ≡ handed_out was c.args.now c.args.staleness c.args.at_least = c.in_ok-pins.ensures.pins in
    rw (c.in_ok-front.ensures, pins) (handed_allowed was c.args.now c.args.staleness c.args.at_least c.self.invariant)

pub returns-clause-after : goal.returns-clause-after
returns-clause-after c = rw (← c.self.view_is, c.in_ok-pins.ensures.users) refl
