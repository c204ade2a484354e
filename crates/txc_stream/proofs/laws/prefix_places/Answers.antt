use Rattle.txc_stream.proofs.Offered.{prefix_get, prefix_place, prefix_take}
use Rattle.txc_stream.proofs.laws.prefix_places.Goals as goal

pub returns-clause-stands : goal.returns-clause-stands
returns-clause-stands g c = λ xs ys at x p is. prefix_get xs ys at x p is

pub returns-clause-same : goal.returns-clause-same
returns-clause-same g c = λ xs ys at p below. prefix_place xs ys at p below

pub returns-clause-begin : goal.returns-clause-begin
returns-clause-begin g c = λ xs ys n p le. prefix_take xs ys n p le
