use Rattle.txc_rows.proofs.NetLemmas
use Rattle.txc_rows.proofs.NetTagLemmas
use Rattle.txc_rows.proofs.laws.net_changes_are_differences.Goals as goal

pub returns : goal.returns
returns c = record { transition = NetLemmas.net_leads; differences = NetLemmas.net_is_difference; tags = NetTagLemmas.net_tags }
