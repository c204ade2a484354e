use Rattle.std.proofs.Common.{rules}
use Rattle.txc_call_permits.proofs.Keeps.{takes}
use Rattle.txc_call_permits.proofs.pool.PermitPool.grant.Goals as goal

pub compare_exchange-found-requires : goal.compare_exchange-found-requires
compare_exchange-found-requires c = (search rules, search rules, takes _ _ _ _ _ (search rules) (search rules))
