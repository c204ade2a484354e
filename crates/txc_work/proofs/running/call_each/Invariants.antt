use Rattle.std.proofs.Common.{◌≡◌, take}
use Rattle.txc_work.specs.Batches.{keys_of}
use Rattle.txc_work.proofs.running.call_each.Given as goal

abbrev pub invariant-loop-key : goal.invariant-loop-key
invariant-loop-key g l = record {
  answered : keys_of l.txn.txn.core.recorded ≡ take l.key-index l.keys;
  functions : l.txn.txn.objects ≡ l.fn.txn.txn.objects;
  bounds : l.txn.txn.core.bounds ≡ l.fn.txn.txn.core.bounds;
}
