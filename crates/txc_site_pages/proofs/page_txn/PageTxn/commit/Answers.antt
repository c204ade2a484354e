use Rattle.txc_site_pages.proofs.Pages.{passes_left}
use Rattle.txc_site_pages.proofs.page_txn.PageTxn.commit.Goals as goal

pub returns-clause-passes : goal.returns-clause-passes
returns-clause-passes g c =
    passes_left g.A.App.next g.J.Naming.database_history g.J.Naming.node_histories g.B.Begun.client g.B.Begun.bounds c.self.inside.txn c.self.invariant c.commit.result.1
    c.commit.ensures.client
