use denote.Param.{param}
use denote.Param.Send.{shr_send}
use Rattle.std.proofs.Crossing.{sync as heap_sync}
use Rattle.txc_db.proofs.Captured.{closure6_send}
use Rattle.txc_site_workers.proofs.Crosses.{foundation_sync}
use Rattle.txc_site_keeper.proofs.clock.StopFlag.TheSendSync as signal
use Rattle.txc_site_keeper.proofs.site_keeper.KeeperSettings.TheSendSync as keeping
use Rattle.txc_site_workers.proofs.threads.run_kept.Goals as goal

-- the closure of the keeper borrows all that it uses
pub join-requires-send-F : goal.join-requires-send-F
join-requires-send-F g c κs within =
    closure6_send _ _ _ _ _ _ _ _ _ (shr_send _ _ _ c.type_bounds.sync-R) (shr_send _ _ _ heap_sync)
    (shr_send _ _ _ (foundation_sync (param 0 g.row.A) (param 3 g.row.J) g.A.App g.J.Naming)) (shr_send _ _ _ keeping.the_sync)
    (shr_send _ _ _ c.type_bounds.sync-C) (shr_send _ _ _ signal.the_sync)
