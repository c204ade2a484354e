use Rattle.txc_txn_client.specs.PinLease.{AreKept, HasBegunKept}
use Rattle.txc_txn_client.specs.RoTxn.{RoTxnValue}
use Rattle.txc_site_pages.proofs.Pages.{began_so}
use Rattle.txc_site_pages.proofs.reading.read_begun_leased.Goals as goal

-- where the page was shown, its transaction had begun
pub returns-clause-kept : goal.returns-clause-kept
returns-clause-kept g c =
    let begun = c.begin_leased-begun in
    began_so (λ (t : RoTxnValue). HasBegunKept g.J.Naming.database_history g.B.Begun.bounds c.args.kept begun.result.1 t.txn.core.pins.members t.txn.core.seen)
    (AreKept g.J.Naming.database_history g.B.Begun.bounds c.args.kept begun.result.1) (λ t holds. holds.kept) begun.result.0 c.shown_in-shown.result.0
    c.shown_in-shown.ensures.began begun.ensures.kept
