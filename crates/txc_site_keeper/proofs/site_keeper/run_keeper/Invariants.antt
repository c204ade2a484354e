use Rattle.txc_site_keeper.proofs.Tending.{HasTendedUntil}
use Rattle.txc_site_keeper.proofs.site_keeper.run_keeper.Given as goal

abbrev pub invariant-loop : goal.invariant-loop
invariant-loop g l =
    HasTendedUntil g.J.Naming.database_history g.J.Naming.node_histories l.nodes l.fn.budget (g.C.Clock.tells l.clock) l.keeping l.own l.due
