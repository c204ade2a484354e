use Rattle.txcache_functions.specs.Program.{program}
use Rattle.txc_uses.proofs.transactions.given_up.Goals as goal

pub start-turn-requires-clause-fits : goal.start-turn-requires-clause-fits
start-turn-requires-clause-fits c = c.in-Ok.ensures.fits program c.in_ok-registry.registry c.in_ok-registry.ensures.idle
