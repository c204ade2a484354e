use Rattle.std.proofs.Common.{◌≡◌, drop}
use Rattle.txc_db.specs.DatabaseValue.{DatabaseValue}
use Rattle.txc_caller.specs.Ports.{AreLetGo}
use Rattle.txc_caller.proofs.plain_ports.let_each_go.Given as goal

-- the stamps that are left go with those that are gone
abbrev pub invariant-loop-stamp : goal.invariant-loop-stamp
invariant-loop-stamp l = record {
  unpinned : (last : DatabaseValue) → AreLetGo (drop l.stamp-index l.stamps) l.database last → AreLetGo l.stamps l.initial.database last;
  events : l.database.events ≡ l.initial.database.events;
}
