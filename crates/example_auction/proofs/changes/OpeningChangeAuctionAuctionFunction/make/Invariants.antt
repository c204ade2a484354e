use Rattle.std.proofs.Common.{◌≡◌}
use Rattle.example_auction.proofs.changes.OpeningChangeAuctionAuctionFunction.make.Given as goal

abbrev pub invariant-loop-user : goal.invariant-loop-user
invariant-loop-user g l = l.txn.objects ≡ l.fn.txn.objects

abbrev pub invariant-loop-item : goal.invariant-loop-item
invariant-loop-item g l = l.txn.objects ≡ l.fn.txn.objects
