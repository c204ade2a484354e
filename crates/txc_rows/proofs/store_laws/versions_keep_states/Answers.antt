use Rattle.txc_rows.proofs.UsesLemmas.{nothing_kept, agreed_kept, quiet_kept}
use Rattle.txc_rows.proofs.store_laws.versions_keep_states.Goals as goal

pub returns : goal.returns
returns c = record { nothing = nothing_kept; agreed = agreed_kept; quiet = quiet_kept }
