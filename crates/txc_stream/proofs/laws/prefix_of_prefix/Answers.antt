use Rattle.txc_stream.proofs.Offered.{prefix_trans}
use Rattle.txc_stream.proofs.laws.prefix_of_prefix.Goals as goal

pub returns : goal.returns
returns g c = λ xs ys zs p q. prefix_trans xs ys zs p q
