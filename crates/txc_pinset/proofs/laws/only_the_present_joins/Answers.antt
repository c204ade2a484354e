use Rattle.txc_pinset.proofs.Kept.{joins_either, joins_one}
use Rattle.txc_pinset.proofs.laws.only_the_present_joins.Goals as goal

pub returns : goal.returns
returns c = λ p new pin. (joins_either new p.members pin, joins_one new p.members pin)
