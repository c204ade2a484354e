use Rattle.std.proofs.Common.{◌∙◌, sym, subst}
use Rattle.txc_txn_rw.specs.RwCore.{RwHolds}
use Rattle.txc_caller.specs.Ports.{CallerPorts}
use Rattle.txc_caller.specs.CallerTxn.{CallerValue}
use Rattle.txc_caller.specs.CallerWrite.{CallerWriting, IsWriteOf}
use Rattle.txc_caller.proofs.Writers.{same_fits}
use Rattle.txc_caller.proofs.caller_write.CallerWrite.read.Goals as goal

pub invariant_of-self : goal.invariant_of-self
invariant_of-self g c = record {
  fits = same_fits g.A.App.next c.self.inside.told.objects c.self.inside.core c.read.new.core c.read.ensures.call (c.read.ensures.rests ∙ sym c.self.invariant.rests) c.self.invariant.fits;
  functions = c.self.invariant.functions;
  rests = c.read.ensures.rests;
}

pub returns-clause-of_caller : goal.returns-clause-of_caller
returns-clause-of_caller g c =
    let lent = subst (λ (caller : CallerValue). IsWriteOf g.A.App.next caller c.args.self.now) (sym c.caller.view_is) c.requires.of_caller in
    let held = subst (λ (w : CallerWriting). RwHolds g.A.App.next c.caller.inside.ports.database.history w.objects w.core) (sym c.self.view_is) lent in
    subst (λ (p : CallerPorts). RwHolds g.A.App.next p.database.history c.self.inside.told.objects c.read.new.core) (sym c.read.ensures.ports)
    (c.read.ensures.holds g.A.App.next c.self.inside.told.objects held)
