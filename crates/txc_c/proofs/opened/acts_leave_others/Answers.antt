use Rattle.txc_c.proofs.Staying.{open_stays}
use Rattle.txc_c.proofs.opened.acts_leave_others.Goals as goal

pub returns : goal.returns
returns c = open_stays c.states_stay.ensures.states
