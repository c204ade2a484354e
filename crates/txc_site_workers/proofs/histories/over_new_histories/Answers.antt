use Rattle.std.proofs.Common.{arith}
use Rattle.txc_site_workers.proofs.NodeHistories.{histories_by_place, stored_so_by_place}
use Rattle.txc_site_workers.proofs.histories.over_new_histories.Goals as goal

pub over_histories-requires-clause-histories : goal.over_histories-requires-clause-histories
over_histories-requires-clause-histories g c κs within = histories_by_place _ c.in_ok-histories.ensures.new

pub over_histories-requires-clause-stored_so : goal.over_histories-requires-clause-stored_so
over_histories-requires-clause-stored_so g c κs within = λ number less.
    let histories = c.in_ok-histories.histories in
    stored_so_by_place _ histories.items c.in_ok-histories.ensures.stored_so number (omega (arith, less, c.in_ok-histories.ensures.each, histories.ok.0))
