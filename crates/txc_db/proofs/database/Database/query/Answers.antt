use Rattle.txc_db.specs.Calls.{IsQueryRefused}
use Rattle.txc_db.proofs.Sharing.{may_refuse, query_result}
use Rattle.txc_db.proofs.database.Database.query.Goals as goal

pub returns-clause-refused : goal.returns-clause-refused
returns-clause-refused g c = may_refuse c.deref_mut.result.now g.J.Naming.database_history (λ d. IsQueryRefused d c.args.query.now c.args.stamp) c.query.result c.query.ensures.database c.query.ensures.refused

pub returns-clause-answer : goal.returns-clause-answer
returns-clause-answer g c = query_result c.deref_mut.result.now g.J.Naming.database_history c.args.query.now c.args.stamp c.query.result c.query.ensures.database c.query.ensures.answer c.query.ensures.front c.query.ensures.only_if c.query.ensures.few
