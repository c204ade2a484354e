use Rattle.std.proofs.Common.{◌≡◌}
use Rattle.example_shop.specs.Trade.{first_pieces}
use Rattle.example_shop.proofs.TradeChangeShopTurn.make.Given as goal

abbrev pub invariant-loop-id : goal.invariant-loop-id
invariant-loop-id g l = record {
  functions : l.txn.objects ≡ l.fn.txn.objects;
  written : l.txn.core.changes ≡ first_pieces l.id;
}
