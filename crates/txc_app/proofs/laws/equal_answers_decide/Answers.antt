use Rattle.txc_app.proofs.Evals
use Rattle.txc_app.proofs.laws.equal_answers_decide.Goals as goal

pub returns : goal.returns
returns c = Evals.equal_answers_decide
