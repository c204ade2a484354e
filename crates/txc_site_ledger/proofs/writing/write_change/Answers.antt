use Rattle.std.proofs.Common.{ap, sym, subst, ◌∙◌, arith}
use Rattle.std.proofs.lemmas.List.Elements.{All-push, All-same}
use Rattle.txc_db.specs.declared.answered.CommitError.TheVariants as commits
use Rattle.txc_call_registry.specs.Objects.{AllIdle}
use Rattle.txc_site_ledger.specs.CommitCounter.{CommitterValue}
use Rattle.txc_site_ledger.specs.ChangeResult.{IsRefusedCommit}
use Rattle.txc_site_ledger.proofs.Tried.{conflict_so, refused_so, of_run, conflict_run, refused_run, run_on, run_so_often}
use Rattle.txc_site_ledger.proofs.writing.write_change.Goals as goal

pub returns-in-Refused-clause-refused : goal.returns-in-Refused-clause-refused
returns-in-Refused-clause-refused g c =
    refused_so g.A.App.next g.J.Naming.database_history (g.C.Change.makes c.args.change.now) (g.C.Change.refuses c.args.change.now) c.run_once-outcome.result.0 c.in-Refused.error
    c.run_once-outcome.ensures.attempted c.in-Refused.is c.args.tries

pub returns-in-Refused-clause-refused_runs : goal.returns-in-Refused-clause-refused_runs
returns-in-Refused-clause-refused_runs g c =
    let attempt = c.run_once-outcome.result.0 in
    let run = refused_run attempt _ _ c.run_once-outcome.ensures.counted c.in-Refused.error c.in-Refused.is in
    let of =
    of_run g.A.App.next g.J.Naming.database_history (g.C.Change.makes c.args.change.now) (g.C.Change.refuses c.args.change.now) attempt c.in-Refused.error
    c.run_once-outcome.ensures.attempted c.in-Refused.is in
    run_so_often c.args.tries c.loop.counter c.in-Refused.error _ _ of (omega (arith, c.loop-test.true))
    (run_on c.loop.counter _ _ _ c.loop.invariant.updates (ap (λ (v : CommitterValue). v.updates) run))

pub loop-preserved : goal.loop-preserved
loop-preserved g c =
    let before = c.loop.invariant in
    let makes = g.C.Change.makes c.args.change.now in
    let row = g.J.Naming.database_history in
    let conflict = conflict_so g.A.App.next row makes (g.C.Change.refuses c.args.change.now) c.run_once-outcome.result.0 c.in-Conflict.conflict c.run_once-outcome.ensures.attempted c.in-Conflict.is in
    let pushed = c.push_reserved.ensures in
    let run = conflict_run c.run_once-outcome.result.0 _ _ c.run_once-outcome.ensures.counted c.in-Conflict.conflict c.in-Conflict.is in
    record {
      registry = c.run_once-outcome.ensures.registry ∙ before.registry;
      idle = subst AllIdle (sym c.run_once-outcome.ensures.registry) before.idle;
      uncounted = ap (λ (v : CommitterValue). v.commits) run ∙ before.uncounted;
      updates = run_on c.loop.counter _ _ _ before.updates (ap (λ (v : CommitterValue). v.updates) run);
      conflicts =
          All-same (λ x. IsRefusedCommit row makes (commits.Conflict x)) _ _ pushed.items
          (All-push (λ x. IsRefusedCommit row makes (commits.Conflict x)) _ _ before.conflicts conflict);
      each = omega (arith, pushed.len, before.each);
      room = omega (arith, pushed.capacity, before.room);
    }
