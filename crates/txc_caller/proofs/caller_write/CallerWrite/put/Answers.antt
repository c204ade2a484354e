use Rattle.std.proofs.Common.{[], ◌∷◌, ◌++◌}
use Rattle.txc_rows.specs.declared.query.Change.TheVariants.{Put}
use Rattle.txc_caller.specs.CallerWrite.{CallerWriting}
use Rattle.txc_caller.proofs.Writers.{changed_so, written_fits}
use Rattle.txc_caller.proofs.caller_write.CallerWrite.put.Goals as goal

pub invariant_of-self : goal.invariant_of-self
invariant_of-self g c =
    let w : CallerWriting = record { core = c.self.inside.core; objects = c.self.inside.told.objects; is_held = c.self.inside.is_held } in
    written_fits c.write.result g.A.App.next w c.write.new.self (w.core.changes ++ Put c.args.row ∷ []) c.write.ensures.after c.write.ensures.unchanged c.self.invariant

pub returns : goal.returns
returns g c =
    let w : CallerWriting = record { core = c.self.inside.core; objects = c.self.inside.told.objects; is_held = c.self.inside.is_held } in
    changed_so (Put c.args.row) w c.args.self.now c.write.new.self c.write.result c.self.view_is c.write.ensures.after c.write.ensures.only_if c.write.ensures.refused c.write.ensures.unchanged
