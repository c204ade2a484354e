use Rattle.txc_stream.proofs.Offered.{prefix_self}
use Rattle.txc_stream.proofs.laws.prefix_of_itself.Goals as goal

pub returns : goal.returns
returns g c = λ xs. prefix_self xs
