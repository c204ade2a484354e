use Rattle.std.proofs.Common.{◌≡◌, ◌*◌, ℕ, List, length}
use Rattle.txc_shared.specs.Passes.{HasTakenEach}
use Rattle.txc_site_keeper.specs.KeeperNodes.{HasNotRefused, IsSamePass}
use Rattle.txc_site_keeper.proofs.keeper.advance.Given as goal

-- the stamps of the events that were taken, the latest first: as many in each round as a node takes together
abbrev pub invariant-loop : goal.invariant-loop
invariant-loop g l = (stamps : List ℕ)
    × HasTakenEach g.J.Naming.database_history l.fn.station.pass stamps l.station.pass
    × (l.taken ≡ length stamps)
    × (l.taken ≡ 64 * l.counter)
    × HasNotRefused l.fn.station l.station
    × IsSamePass l.fn.station l.station
