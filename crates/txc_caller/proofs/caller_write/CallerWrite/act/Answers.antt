use Rattle.txc_caller.proofs.Lent.{all_there}
use Rattle.txc_caller.proofs.caller_write.CallerWrite.act.Goals as goal

pub invariant_of-self : goal.invariant_of-self
invariant_of-self g c = record {
  fits = c.act.ensures.fits;
  functions = all_there c.self.inside.told.objects c.act.new.told.objects c.act.ensures.functions c.self.invariant.functions;
  rests = c.act.ensures.rests;
}
