use Rattle.std.proofs.Common.{◌≡◌, ◌+◌, ◌*◌, ◌≤◌, take, sum}
use Rattle.txc_tags.proofs.key.Key.node_of.Given as goal

abbrev pub invariant-loop-arg : goal.invariant-loop-arg
invariant-loop-arg l = record {
  bound : l.sum ≤ 63 + l.arg-index * 4294967295;
  added : l.sum ≡ l.self.function + sum (take l.arg-index l.arg-items);
}
