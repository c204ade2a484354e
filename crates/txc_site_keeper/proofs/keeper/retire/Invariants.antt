use Rattle.std.proofs.Common.{◌≡◌, length}
use Rattle.txc_cushion.specs.Cushion.{retired}
use Rattle.txc_cushion.specs.Pincushion.{CushionMayAnswer}
use Rattle.txc_site_keeper.proofs.keeper.retire.Given as goal

-- as many were taken as rounds were made
abbrev pub invariant-loop : goal.invariant-loop
invariant-loop g l = record {
  taken : l.pins.taken ≡ l.counter;
  count : length l.pins.stamps ≡ l.count;
  stamps : CushionMayAnswer g.J.Naming.database_history (λ c stamps. stamps ≡ retired c l.now l.age) l.pins.stamps;
}
