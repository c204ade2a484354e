use Rattle.std.proofs.Common.{◌≡◌, ◌<◌, false}
use Rattle.std.specs.Arc.{arc_value}
use Rattle.txc_call_permits.proofs.pool.PermitPool.grant.Given as goal

abbrev pub invariant-loop : goal.invariant-loop
invariant-loop l = record {
  room : l.out < l.most;
  most : l.most ≡ l.fn.self.most;
  pool : l.place.seat.table_id ≡ l.fn.self.name;
  word : l.place.seat.table_id ≡ (arc_value l.word).shared.table_id;
  free : l.place.seat.me.0 ≡ false;
}
