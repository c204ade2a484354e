use Rattle.std.proofs.Common.{sym, subst}
use Rattle.txc_caller.specs.CallerWrite.{CallerWriting, IsWriteOf}
use Rattle.txc_caller.proofs.caller_write.CallerWrite.call.Goals as goal

pub returns-clause-of_caller : goal.returns-clause-of_caller
returns-clause-of_caller g c =
    c.start_by_hand.ensures.holds g.A.App.next c.self.inside.told.objects c.args.caller.now.ports.database.history
    (subst (λ (w : CallerWriting). IsWriteOf g.A.App.next c.args.caller.now w) (sym c.self.view_is) c.requires.of_caller)
