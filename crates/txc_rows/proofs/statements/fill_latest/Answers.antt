use Rattle.std.proofs.Common.{◌≡◌, ◌+◌, ◌++◌, ◌∷◌, [], map, drop, sym, ap, subst, ◌∙◌, refl, append_assoc, append-nil}
use Rattle.std.specs.List.{AllByRecursion}
use Rattle.std.proofs.lemmas.List.{drop_all}
use Rattle.txc_rows.specs.StoredVersion.{AreCells, placed_from}
use Rattle.txc_rows.specs.LatestTable.{latest_in}
use Rattle.txc_rows.proofs.SweepCalls.{next_first}
use Rattle.txc_rows.proofs.statements.fill_latest.Goals as goal

pub add_row-requires-clause-cells : goal.add_row-requires-clause-cells
add_row-requires-clause-cells c = (subst (AllByRecursion AreCells) (next_first c.args.rows.now c.loop-row.row-index c.row-item.result c.loop-row-test.true c.row-item.is) c.loop-row.invariant.rest).0

pub loop-row-preserved : goal.loop-row-preserved
loop-row-preserved c =
    let i = c.loop-row.invariant in
    let step = c.in_ok-add_row.ensures.step in
    let old = c.loop-row.tx.conn.now in
    let x = placed_from c.row-item.result in
    let split = next_first c.args.rows.now c.loop-row.row-index c.row-item.result c.loop-row-test.true c.row-item.is in
    let later = map placed_from (drop (c.loop-row.row-index + 1) c.args.rows.now) in
    let next : (latest_in old ++ x ∷ []) ++ later ≡ latest_in old ++ map placed_from (drop c.loop-row.row-index c.args.rows.now) =
    append_assoc (latest_in old) (x ∷ []) later ∙ ap (λ rs. latest_in old ++ map placed_from rs) (sym split) in
    record {
      table = step.leaves.table;
      latest = ap (λ xs. xs ++ later) step.leaves.latest_are ∙ next ∙ i.latest;
      inside = step.inside;
      base = step.base ∙ i.base;
      rest = (subst (AllByRecursion AreCells) split i.rest).1;
      same = c.in_ok-add_row.ensures.same_reference ∙ i.same;
    }

pub returns-clause-step : goal.returns-clause-step
returns-clause-step c =
    let i = c.loop-row.invariant in
    let past = drop_all c.loop-row.row-index c.args.rows.now c.loop-row-test.false in
    record {
      leaves = record {
        table = i.table;
        latest_are = sym (append-nil (latest_in c.loop-row.tx.conn.now)) ∙ ap (λ rs. latest_in c.loop-row.tx.conn.now ++ map placed_from rs) (sym past) ∙ i.latest;
      };
      inside = i.inside;
      base = i.base;
    }

pub loop-row-init : goal.loop-row-init
loop-row-init c = record {
  table = c.requires.table;
  latest = refl;
  inside = c.requires.inside;
  base = refl;
  rest = c.requires.cells;
  same = refl;
}
