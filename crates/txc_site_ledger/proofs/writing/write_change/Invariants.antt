use Rattle.std.proofs.Common.{◌≡◌, ◌≤◌, vec_capacity, vec_len}
use Rattle.txc_call_registry.specs.Objects.{AllIdle}
use Rattle.txc_site_ledger.specs.CommitCounter.{counted_on}
use Rattle.txc_site_ledger.specs.ChangeResult.{AreConflicts}
use Rattle.txc_site_ledger.proofs.writing.write_change.Given as goal

abbrev pub invariant-loop : goal.invariant-loop
invariant-loop g l = record {
  registry : l.registry ≡ l.fn.registry;
  idle : AllIdle l.registry;
  uncounted : l.committer.commits ≡ l.fn.committer.commits;
  updates : l.committer.updates ≡ counted_on l.counter l.fn.committer.updates;
  conflicts : AreConflicts g.J.Naming.database_history (g.C.Change.makes l.change) l.conflicts.items;
  each : vec_len l.conflicts ≡ l.counter;
  room : l.tries ≤ vec_capacity l.conflicts;
}
