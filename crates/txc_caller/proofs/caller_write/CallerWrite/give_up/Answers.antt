use Rattle.std.proofs.Common.{ap, sym, subst}
use Rattle.txc_txn_rw.specs.RwCore.{RwValue}
use Rattle.txc_caller.specs.CallerWrite.{CallerWriting, IsWriteOf}
use Rattle.txc_caller.proofs.Lent.{all_there}
use Rattle.txc_caller.proofs.caller_write.CallerWrite.give_up.Goals as goal

pub invariant_of-self : goal.invariant_of-self
invariant_of-self g c = record {
  fits = c.give_up_by_hand.ensures.fits g.A.App.next c.self.inside.told.objects c.idled.result.objects c.idled.ensures.idle c.self.invariant.fits;
  functions = all_there c.self.inside.told.objects c.idled.result.objects c.idled.ensures.functions c.self.invariant.functions;
  rests = ap (λ (v : RwValue). v.reading) c.give_up_by_hand.ensures.after;
}

pub returns-clause-of_caller : goal.returns-clause-of_caller
returns-clause-of_caller g c = λ caller h.
    c.give_up_by_hand.ensures.holds g.A.App.next c.self.inside.told.objects c.idled.result.objects caller.ports.database.history
    (subst (λ (w : CallerWriting). IsWriteOf g.A.App.next caller w) (sym c.self.view_is) h)
