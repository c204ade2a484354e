use Rattle.std.proofs.Common.{◌≡◌, map, filter, length, cond, false, is_none, ◌∙◌, rules}
use Rattle.std.specs.Prelude.{option_to_list}
use Rattle.txc_rows.specs.Placed.{in_group, closed_placed}
use Rattle.txc_rows.specs.LatestTable.{latest_in, HasLatest}
use Rattle.txc_rows.proofs.PutLemmas.{few_keys}
use Rattle.txc_rows.proofs.ChangeSteps.{Puts, one_group, puts}
use Rattle.txc_rows.proofs.writes.write_put.Goals.{In_ok-ended}
use Rattle.txc_rows.proofs.writes.write_put.Goals as goal

pub of_group-last-requires : goal.of_group-last-requires
of_group-last-requires c =
    let old = c.args.tx.now.conn.now in
    let row = c.args.row.now in
    let xs = c.in_ok-last.last.items in
    let touched = c.in_ok-last.ensures.touched in
    record { few = rw c.group.ensures (rw (one_group row.table row.id row.group c.args.stamp (latest_in old) xs c.requires.apart.keys touched) (few_keys row.table row.id row.group (latest_in old) c.requires.apart.keys)) }

-- by the table, the id and the group of the row
putting : (c : In_ok-ended) → Puts c.args.row.now c.args.stamp c.args.place c.args.tx.now.conn.now c.end_moved.new.tx.conn.now c.args.replaced.now c.of_group-last.result.0
putting c =
    let row = c.args.row.now in
    let xs = c.in_ok-last.last.items in
    let first = c.find_touched.new.tx.conn.now in
    let mid = c.end_moved.new.tx.conn.now in
    let one : option_to_list c.of_group-last.result.0 ≡ filter (in_group row.group) xs = rw c.group.ensures at c.of_group-last.ensures.same in
    let stay : c.of_group-last.result.1 ≡ false → length (filter (in_group row.group) xs) ≡ length xs = rw c.group.ensures at c.of_group-last.ensures.moves in
    let moved : HasLatest (cond c.of_group-last.result.1 (map (closed_placed row.table row.id c.args.stamp) (latest_in first)) (latest_in first)) mid = rw (c.table.ensures, c.id.ensures) at c.in_ok-ended.ensures.step.leaves in
    puts row c.args.stamp c.args.place c.args.tx.now.conn.now first mid c.args.replaced.now c.requires.apart c.requires.below c.in_ok-last.ensures.step.leaves xs c.in_ok-last.ensures.touched c.of_group-last.result.0 one c.of_group-last.result.1 stay moved

pub put_version-requires-clause-keys : goal.put_version-requires-clause-keys
put_version-requires-clause-keys c = (putting (goal.at.put_version-requires-clause-keys c).In_ok-ended).keys

pub put_version-requires-clause-first : goal.put_version-requires-clause-first
put_version-requires-clause-first c =
    let first : c.is_none-is_first.result ≡ is_none c.of_group-last.result.0 = search rules in
    first ∙ (putting (goal.at.put_version-requires-clause-first c).In_ok-ended).is_first

pub returns-clause-others : goal.returns-clause-others
returns-clause-others c = (putting (goal.at.returns-clause-others c).In_ok-ended).others c.put_version.new.tx.conn.now c.in_ok-put_version.ensures.step.leaves

pub returns-clause-step : goal.returns-clause-step
returns-clause-step c =
    let last = c.in_ok-put_version.ensures in
    record {
      leaves = rw c.in_ok-revived.ensures.added ((putting (goal.at.returns-clause-step c).In_ok-ended).step last.stamp last.row c.put_version.new.tx.conn.now last.step.leaves);
      inside = last.step.inside;
      base = last.step.base ∙ c.in_ok-ended.ensures.step.base ∙ c.in_ok-last.ensures.step.base;
    }
