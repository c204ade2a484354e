use Rattle.std.proofs.Common.{Some, refl, subst}
use Rattle.txc_script_batch.specs.BatchScripts.{DoesOrder}
use Rattle.txc_script_batch.specs.BatchStates.{BatchState}
use Rattle.txc_script_batch.specs.declared.order.Order.TheVariants.{Write}
use Rattle.txc_script_batch.specs.WorkerFunctions.{numbers_in}
use Rattle.txc_script_batch.proofs.batch.Batch.write.Goals as goal

pub returns : goal.returns
returns g c =
    let inside = c.self.inside in
    let s : BatchState = record { settings = inside.settings; source = inside.source; functions = numbers_in inside.crew.items; jobs = inside.jobs.items } in
    let end : BatchState = record s { source = c.write.new.self } in
    subst (λ (x : BatchState). DoesOrder x (Write c.args.change.now) (Some c.write.result) end) c.self.view_is (c.write.new.self, c.write.ensures, refl)
