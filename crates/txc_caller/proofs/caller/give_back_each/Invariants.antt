use Rattle.std.proofs.Common.{◌≡◌, drop}
use Rattle.txc_cushion.specs.Cushion.{CushionValue}
use Rattle.txc_caller.proofs.GivingBack.{named, AreBackEach}
use Rattle.txc_caller.proofs.caller.give_back_each.Given as goal

-- the pins that are left are given back after those that are
abbrev pub invariant-loop-pin : goal.invariant-loop-pin
invariant-loop-pin l = record {
  back : (last : CushionValue) → AreBackEach (named (drop l.pin-index l.pins.pins.items)) l.cushion last → AreBackEach (named l.pins.pins.items) l.initial.cushion last;
  events : l.cushion.events ≡ l.initial.cushion.events;
}
