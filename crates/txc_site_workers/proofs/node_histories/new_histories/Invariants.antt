use Rattle.std.proofs.Common.{◌≡◌, All, vec_len}
use Rattle.txc_db_carry.specs.Rooms.{IsHistoryFor}
use Rattle.txc_site_ledger.specs.Histories.{IsNew, history_name}
use Rattle.txc_site_workers.proofs.node_histories.new_histories.Given as goal

abbrev pub invariant-loop : goal.invariant-loop
invariant-loop l = record {
  each : vec_len l.histories ≡ l.counter;
  new : All IsNew l.histories.items;
  stored_so : All (λ history. IsHistoryFor l.room (history_name history)) l.histories.items;
}
