use Rattle.std.proofs.Common.{◌≡◌, length}
use Rattle.txc_call_registry.specs.Objects.{numbers_of, AllIdle}
use Rattle.txc_call.specs.Frames.{released}
use Rattle.txc_call.proofs.frames.Frames.cancel.Given as goal

abbrev pub invariant-loop-frame : goal.invariant-loop-frame
invariant-loop-frame g l = record {
  idle : AllIdle (released l.self.stack l.registry);
  top : l.self.top ≡ l.fn.self.top;
  functions : numbers_of l.registry ≡ numbers_of l.fn.registry;
}

abbrev pub decreases-loop-frame : goal.decreases-loop-frame
decreases-loop-frame g l = length l.self.stack
