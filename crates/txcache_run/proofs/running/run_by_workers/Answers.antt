use Rattle.std.proofs.Common.{rules, inr, sym, subst, List}
use Rattle.txc_call_registry.specs.Objects.{Objects}
use Rattle.txcache_functions.specs.Program.{program}
use Rattle.txc_script_batch.specs.BatchRuns.{HasRunBatch}
use Rattle.txc_script_batch.specs.WorkerFunctions.{numbers_in, IsCrew}
use Rattle.txcache_run.proofs.Crews.{staff_crew}
use Rattle.txcache_run.proofs.running.run_by_workers.Goals as goal

pub run_by-requires : goal.run_by-requires
run_by-requires g c =
    let crew = staff_crew c.args.settings.permits c.args.settings.workers c.in-Ok.staff c.in-Ok.ensures in
    (search rules, subst (λ (crew : List Objects). IsCrew c.args.settings.workers crew) (sym c.into_registries-workers.ensures) crew)

pub returns : goal.returns
returns g c =
    let before = g.R.Read.remaining c.args.reader.now in
    let after = g.R.Read.remaining c.run_by.new.reader in
    let old = g.W.Write.contents c.args.writer.now in
    let new = g.W.Write.contents c.run_by.new.writer in
    inr (
      c.in-Ok.staff,
      c.in-Ok.ensures,
      subst (λ (crew : List Objects). HasRunBatch program c.args.settings (numbers_in crew) before after old new c.run_by.result) c.into_registries-workers.ensures c.run_by.ensures,
    )
