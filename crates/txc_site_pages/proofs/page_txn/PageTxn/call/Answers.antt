use Rattle.txc_site_pages.proofs.Pages.{one_called_more}
use Rattle.txc_site_pages.proofs.page_txn.PageTxn.call.Goals as goal

pub invariant_of-self : goal.invariant_of-self
invariant_of-self g c =
    let called = c.call.ensures in
    one_called_more g.A.App.next g.J.Naming.database_history g.J.Naming.node_histories g.B.Begun.client g.B.Begun.bounds c.self.inside.txn c.call.new.self c.args.key c.call.result
    c.self.invariant called.run called.passes called.recorded called.unchanged called.settings called.functions
