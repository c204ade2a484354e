use Rattle.std.proofs.Common.{◌≡◌, ◌++◌, drop}
use Rattle.example_shop.specs.Shop.{joined_bodies}
use Rattle.example_shop.proofs.ShopFixedAsks.give.Given as goal

abbrev pub invariant-loop-row : goal.invariant-loop-row
invariant-loop-row l = l.list.items ++ joined_bodies (drop l.row-index l.row-items) ≡ l.initial.list.items ++ joined_bodies l.row-items
