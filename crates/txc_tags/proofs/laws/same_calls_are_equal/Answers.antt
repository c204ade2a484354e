use Rattle.txc_tags.proofs.Calls.{same_call_iff}
use Rattle.txc_tags.proofs.laws.same_calls_are_equal.Goals as goal

pub returns : goal.returns
returns c = same_call_iff
