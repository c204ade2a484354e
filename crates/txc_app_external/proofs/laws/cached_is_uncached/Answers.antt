use Rattle.txc_app_external.proofs.Computing
use Rattle.txc_app_external.proofs.laws.cached_is_uncached.Goals as goal

pub returns : goal.returns
returns c = Computing.cached_is_uncached
