use Rattle.txc_app.proofs.Answers
use Rattle.txc_app.proofs.laws.right_answers_give_the_value.Goals as goal

pub returns : goal.returns
returns c = Answers.right_answers_give_the_value
