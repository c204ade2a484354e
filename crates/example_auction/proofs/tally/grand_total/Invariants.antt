use Rattle.std.proofs.Common.{◌≡◌, take}
use Rattle.std.specs.List.{sum_by}
use Rattle.example_auction.specs.Tallies.{pages_of}
use Rattle.example_auction.proofs.tally.grand_total.Given as goal

abbrev pub invariant-loop-tallies : goal.invariant-loop-tallies
invariant-loop-tallies l = record {
  pages : pages_of l.all ≡ sum_by (λ tallies. sum_by pages_of tallies.items) (take l.tallies-index l.generations);
  torn : l.all.torn ≡ sum_by (λ tallies. sum_by (λ t. t.torn) tallies.items) (take l.tallies-index l.generations);
}
