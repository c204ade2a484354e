use Rattle.std.proofs.Common.{◌≡◌, ◌≤◌, [], take, filter}
use Rattle.std.specs.List.{flat_map}
use Rattle.txc_tags.specs.Tags.{with_tags}
use Rattle.txc_rows.specs.RowTags.{tags_of_row}
use Rattle.txc_rows.specs.Net.{changes_state}
use Rattle.txc_rows.specs.declared.query.Change.{Change}
use Rattle.txc_rows.proofs.Offered.{IsIn}
use Rattle.txc_db.specs.Calls.{matching_of, row_query}
use Rattle.txc_db.specs.NetGrowth.{found_rows}
use Rattle.txc_db.specs.DatabaseValue.{newest_state}
use Rattle.txc_db.proofs.db_core.DbCore.net_of.Given as goal

abbrev pub invariant-loop-change : goal.invariant-loop-change
invariant-loop-change l = record {
  same : l.self ≡ l.fn.self;
  net : l.net.changes.items ≡ filter (changes_state (newest_state l.fn.self)) (take l.change-index l.change-items);
  few : (x : Change) → IsIn x (take l.change-index l.change-items) → matching_of l.fn.self (row_query x) ≤ l.fn.self.most;
  tags : l.net.tags ≡ with_tags (flat_map tags_of_row (found_rows (newest_state l.fn.self) l.net.changes.items)) [];
}
