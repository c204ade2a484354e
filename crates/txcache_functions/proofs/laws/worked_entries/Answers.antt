use Rattle.txcache_functions.proofs.WorkedEntries
use Rattle.txcache_functions.proofs.laws.worked_entries.Goals as goal

pub returns : goal.returns
returns c = WorkedEntries.worked_entries
