use Rattle.std.proofs.Common.{◌≡◌}
use Rattle.txc_db_carry.specs.Carry.{HasCarried}
use Rattle.txc_db_carry.proofs.carrying.carry_tables.Given as goal

abbrev pub invariant-loop-number : goal.invariant-loop-number
invariant-loop-number l = record {
  same : l.old ≡ l.initial.old;
  carried : HasCarried l.old l.initial.new.events l.number 0 l.new;
}
