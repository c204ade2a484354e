use Rattle.txc_stream.proofs.Offered.{prefix_append, push_get}
use Rattle.txc_stream.proofs.laws.prefix_of_appended.Goals as goal

pub returns-clause-more : goal.returns-clause-more
returns-clause-more g c = λ xs ys. prefix_append xs ys

pub returns-clause-place : goal.returns-clause-place
returns-clause-place g c = λ xs x. push_get xs x
