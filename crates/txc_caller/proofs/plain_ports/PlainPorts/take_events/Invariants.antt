use Rattle.std.proofs.Common.{◌≡◌}
use Rattle.txc_caller.specs.Ports.{GoesOnByEvents}
use Rattle.txc_caller.proofs.plain_ports.PlainPorts.take_events.Given as goal

abbrev pub invariant-loop-number : goal.invariant-loop-number
invariant-loop-number g l = record {
  node : GoesOnByEvents l.initial.self.node l.self.node;
  same : l.self ≡ record l.initial.self { node = l.self.node };
}
