use Rattle.txc_app.proofs.Claims
use Rattle.txc_app.proofs.laws.true_entries_stay.Goals as goal

pub returns : goal.returns
returns c = Claims.true_in_longer c.states_stay.ensures.states
