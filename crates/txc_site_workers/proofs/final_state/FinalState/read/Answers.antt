use Rattle.std.proofs.Common.{arith}
use Rattle.txc_site_workers.proofs.NodeHistories.{histories_by_place, stored_so_by_place}
use Rattle.txc_site_workers.proofs.final_state.FinalState.read.Goals as goal

pub read_last-requires-clause-histories : goal.read_last-requires-clause-histories
read_last-requires-clause-histories g c = histories_by_place _ c.in_ok-histories.ensures.new

pub read_last-requires-clause-stored_so : goal.read_last-requires-clause-stored_so
read_last-requires-clause-stored_so g c = λ number less.
    let histories = c.in_ok-histories.histories in
    stored_so_by_place _ histories.items c.in_ok-histories.ensures.stored_so number (omega (arith, less, c.in_ok-histories.ensures.each, histories.ok.0))
