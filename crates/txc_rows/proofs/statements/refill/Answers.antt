use Rattle.std.proofs.Common.{◌++◌, map, ap, ◌∙◌}
use Rattle.txc_rows.specs.StoredVersion.{placed_from}
use Rattle.txc_rows.specs.LatestTable.{latest_in, HasLatest}
use Rattle.txc_rows.proofs.ChangeSteps.{then_step}
use Rattle.txc_rows.proofs.statements.refill.Goals as goal

pub returns-clause-step : goal.returns-clause-step
returns-clause-step c =
    let mid = c.make_latest.new.tx.conn.now in
    let xs = map placed_from c.args.rows.now in
    let made = c.in_ok-make_latest.ensures.step in
    then_step (HasLatest (latest_in mid ++ xs)) (HasLatest xs) c.args.tx.now.conn.now mid c.fill_latest.new.tx.conn.now c.fill_latest.result
    (λ filled. record { table = filled.table; latest_are = filled.latest_are ∙ ap (λ ys. ys ++ xs) made.leaves.latest_are }) (made.base ∙ c.in_ok-drop_latest.ensures.step.base) c.fill_latest.ensures.step
