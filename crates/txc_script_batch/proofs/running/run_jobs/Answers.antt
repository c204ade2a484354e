use Rattle.std.proofs.Common.{rules, ◌≡◌, ℕ, List, length, refl, ap, subst, ◌∙◌}
use Rattle.std.specs.List.{All}
use Rattle.txc_script_batch.specs.BatchStates.{BatchState}
use Rattle.txc_script_batch.proofs.NodeRows.{rows_by_place}
use Rattle.txc_script_batch.proofs.running.run_jobs.Goals as goal

pub run_over-requires : goal.run_over-requires
run_over-requires g c = λ κs within.
    let same = c.batch.view_is in
    let rows = c.in-Ok.rows in
    let count = c.in-Ok.ensures.count ∙ ap (λ (b : BatchState). b.settings.nodes) same in
    let rooms = subst (λ (b : BatchState). All (λ (row : List ℕ). length row ≡ b.settings.row_cap) rows.items) same c.in-Ok.ensures.rooms in
    (search rules, (search rules, (search rules, (search rules, (search rules, (search rules, (search rules, (search rules, (search rules, (search rules, (refl, (rows_by_place rows.items, (count, (rooms, refl))))))))))))))
