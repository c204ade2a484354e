use Rattle.std.proofs.Common.{◌≡◌}
use Rattle.txc_db.specs.DatabaseValue.{next_horizon}
use Rattle.txc_db.specs.Calls.{IsVacuumRefused}
use Rattle.txc_db.proofs.Sharing.{may_answer, may_refuse}
use Rattle.txc_db.proofs.database.Database.vacuum.Goals as goal

pub returns-clause-answer : goal.returns-clause-answer
returns-clause-answer g c = may_answer c.deref_mut.result.now g.J.Naming.database_history (λ d horizon. horizon ≡ next_horizon d) c.vacuum.result c.vacuum.ensures.database c.vacuum.ensures.answer

pub returns-clause-refused : goal.returns-clause-refused
returns-clause-refused g c = may_refuse c.deref_mut.result.now g.J.Naming.database_history IsVacuumRefused c.vacuum.result c.vacuum.ensures.database c.vacuum.ensures.refused
