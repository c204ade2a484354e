use Rattle.txc_call.proofs.Keeping.{calls_come_to_their_values, insertions_are_true}
use Rattle.txc_call.proofs.laws.calls_come_to_their_values.Goals as goal

pub returns-clause-values : goal.returns-clause-values
returns-clause-values c = calls_come_to_their_values c.right_answers_give_the_value.ensures

pub returns-clause-insertions : goal.returns-clause-insertions
returns-clause-insertions c = insertions_are_true c.right_answers_give_the_value.ensures
