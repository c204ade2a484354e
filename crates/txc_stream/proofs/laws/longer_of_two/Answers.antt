use Rattle.txc_stream.proofs.Offered.{prefixes_agree, shorter_begins, longer_is}
use Rattle.txc_stream.proofs.laws.longer_of_two.Goals as goal

pub returns-clause-agree : goal.returns-clause-agree
returns-clause-agree g c = λ xs ys zs p q. prefixes_agree xs ys zs p q

pub returns-clause-shorter : goal.returns-clause-shorter
returns-clause-shorter g c = λ xs ys either le. shorter_begins xs ys either le

pub returns-clause-longer : goal.returns-clause-longer
returns-clause-longer g c = λ xs ys now p either q. longer_is xs ys now p either q
