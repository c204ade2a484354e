use Rattle.txc_app.proofs.Evals
use Rattle.txc_app.proofs.laws.calls_are_of_functions_below.Goals as goal

pub returns : goal.returns
returns c = Evals.calls_are_of_functions_below
