use Rattle.txc_txn_client.proofs.Sessions.{beginning_notes_nothing, sessions_are_monotonic}
use Rattle.txc_txn_client.proofs.laws.sessions_are_monotonic.Goals as goal

pub returns : goal.returns
returns c = record { never = sessions_are_monotonic; began = beginning_notes_nothing }
