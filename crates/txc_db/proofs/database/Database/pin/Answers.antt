use Rattle.txc_db.specs.Calls.{IsPinRefused}
use Rattle.txc_db.proofs.Sharing.{may_refuse}
use Rattle.txc_db.proofs.database.Database.pin.Goals as goal

pub returns-clause-refused : goal.returns-clause-refused
returns-clause-refused g c = may_refuse c.deref_mut.result.now g.J.Naming.database_history (λ d. IsPinRefused d c.args.at_least) c.pin.result c.pin.ensures.database c.pin.ensures.refused
