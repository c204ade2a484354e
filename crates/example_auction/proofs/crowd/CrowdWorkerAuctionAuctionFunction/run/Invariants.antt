use Rattle.std.proofs.Common.{◌≡◌, false}
use Rattle.example_auction.specs.Tallies.{pages_of}
use Rattle.example_auction.proofs.crowd.CrowdWorkerAuctionAuctionFunction.run.Given as goal

abbrev pub invariant-loop-now : goal.invariant-loop-now
invariant-loop-now g l = record {
  pages : pages_of l.tally ≡ l.now;
  torn : l.self.arguments.is_plain ≡ false → l.tally.torn ≡ 0;
}
