use Rattle.std.proofs.Common.{◌≡◌, ◌++◌, drop}
use Rattle.example_auction.specs.Auction.{titles_of}
use Rattle.example_auction.proofs.functions.titles.Given as goal

abbrev pub invariant-loop-row : goal.invariant-loop-row
invariant-loop-row l = l.bytes.items ++ titles_of (drop l.row-index l.rows) ≡ titles_of l.rows
