use Rattle.txc_rows.proofs.Rising
use Rattle.txc_rows.proofs.Lookups
use Rattle.txc_rows.proofs.PutStates
use Rattle.txc_rows.proofs.laws.states_are_maps.Goals as goal

pub returns : goal.returns
returns c = record { rows = Rising.states_are_rows; states = Rising.changes_state; updates = Lookups.change_updates; puts = PutStates.puts_make_state }
