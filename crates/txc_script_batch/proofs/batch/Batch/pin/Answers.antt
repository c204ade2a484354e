use Rattle.std.proofs.Common.{Some, refl, subst}
use Rattle.txc_script_batch.specs.BatchScripts.{DoesOrder}
use Rattle.txc_script_batch.specs.BatchStates.{BatchState}
use Rattle.txc_script_batch.specs.declared.order.Order.TheVariants.{Pin}
use Rattle.txc_script_batch.specs.WorkerFunctions.{numbers_in}
use Rattle.txc_script_batch.proofs.batch.Batch.pin.Goals as goal

pub returns : goal.returns
returns g c =
    let inside = c.self.inside in
    let s : BatchState = record { settings = inside.settings; source = inside.source; functions = numbers_in inside.crew.items; jobs = inside.jobs.items } in
    let end : BatchState = record s { source = c.pin.new.self } in
    subst (λ (x : BatchState). DoesOrder x (Pin c.args.now) (Some c.pin.result) end) c.self.view_is (c.pin.new.self, c.pin.ensures, refl)
