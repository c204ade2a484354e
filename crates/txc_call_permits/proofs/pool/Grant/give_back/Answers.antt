use Rattle.std.proofs.Common.{rules}
use Rattle.txc_call_permits.proofs.Keeps.{gives}
use Rattle.txc_call_permits.proofs.pool.Grant.give_back.Goals as goal

pub fetch_sub-requires : goal.fetch_sub-requires
fetch_sub-requires c = (search rules, search rules, gives _ _ _ _ (search rules))
