use Rattle.std.proofs.Common.{◌≡◌, take}
use Rattle.txc_txn_rw.proofs.rw_core.replies.copy_rows.Given as goal

abbrev pub invariant-loop-row : goal.invariant-loop-row
invariant-loop-row l = l.copy.items ≡ take l.row-index l.rows
