use Rattle.txc_db.specs.Calls.{IsUnpinRefused}
use Rattle.txc_db.proofs.Sharing.{may_refuse}
use Rattle.txc_db.proofs.database.Database.unpin.Goals as goal

pub returns : goal.returns
returns g c = record { refused = may_refuse c.deref_mut.result.now g.J.Naming.database_history (λ d. IsUnpinRefused d c.args.stamp) c.unpin.result c.unpin.ensures.database c.unpin.ensures.refused }
