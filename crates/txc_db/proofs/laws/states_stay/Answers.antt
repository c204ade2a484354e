use Rattle.txc_db.proofs.Histories
use Rattle.txc_db.proofs.laws.states_stay.Goals as goal

pub returns : goal.returns
returns c = record { states = Histories.states_stay; tags = Histories.tags_stay }
