use Rattle.std.proofs.Common.{◌≡◌, ◌≤◌, ◌-◌, max}
use Rattle.txc_stream.proofs.window.Window.forget.Given as goal

abbrev pub invariant-loop-self : goal.invariant-loop-self
invariant-loop-self g l = record {
  same : l.self ≡ record l.fn.self { first = l.self.first; room = l.self.room };
  low : l.fn.self.first ≤ l.self.first;
  high : l.self.first ≤ max l.fn.self.first l.before;
}

abbrev pub decreases-loop-self : goal.decreases-loop-self
decreases-loop-self g l = l.before - l.self.first
