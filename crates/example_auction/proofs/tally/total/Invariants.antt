use Rattle.std.proofs.Common.{◌≡◌, take}
use Rattle.std.specs.List.{sum_by}
use Rattle.example_auction.specs.Tallies.{pages_of}
use Rattle.example_auction.proofs.tally.total.Given as goal

abbrev pub invariant-loop-tally : goal.invariant-loop-tally
invariant-loop-tally l = record {
  pages : pages_of l.all ≡ sum_by pages_of (take l.tally-index l.tallies);
  torn : l.all.torn ≡ sum_by (λ t. t.torn) (take l.tally-index l.tallies);
}
