use Rattle.txc_stream.proofs.Offered.{prefix_length, prefix_whole}
use Rattle.txc_stream.proofs.laws.prefix_length.Goals as goal

pub returns-clause-at_most : goal.returns-clause-at_most
returns-clause-at_most g c = λ xs ys p. prefix_length xs ys p

pub returns-clause-whole : goal.returns-clause-whole
returns-clause-whole g c = λ xs ys p le. prefix_whole xs ys p le
