use Rattle.std.proofs.Common.{◌≡◌, drop}
use Rattle.txc_world.specs.Holdings.{KeepsPins}
use Rattle.txc_world.proofs.Giving.{GivesBackSome}
use Rattle.txc_world.proofs.ports.Ports.give_back_pins.Given as goal

abbrev pub invariant-loop-pin : goal.invariant-loop-pin
invariant-loop-pin g l = record {
  same : l.self ≡ record l.initial.self { cushion = l.self.cushion };
  pins : KeepsPins l.initial.self l.self;
  users : GivesBackSome l.initial.self l.self l.pins.pins.items (drop l.pin-index l.pins.pins.items);
}
