use Rattle.txc_shared.proofs.Runs
use Rattle.txc_shared.proofs.laws.nodes_go_on.Goals as goal

pub returns : goal.returns
returns c = record {
  begins = Runs.node_begins;
  step = Runs.node_goes_on c.entries_stay_true.ensures.event c.entries_stay_true.ensures.replay;
  breaks = Runs.node_breaks c.entries_stay_true.ensures.event c.entries_stay_true.ensures.replay;
  sees = Runs.node_sees_more c.true_entries_stay.ensures c.states_stay.ensures.tags;
}
