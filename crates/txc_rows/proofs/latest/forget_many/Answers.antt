use Rattle.std.proofs.Common.{arith}
use Rattle.txc_rows.proofs.latest.forget_many.Goals as goal

pub returns-clause-among : goal.returns-clause-among
returns-clause-among c = λ latest before. rw c.clear.ensures.items tt

pub returns-clause-few : goal.returns-clause-few
returns-clause-few c = rw c.clear.ensures.items (search arith)
