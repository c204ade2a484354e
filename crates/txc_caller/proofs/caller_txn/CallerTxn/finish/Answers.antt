use Rattle.std.proofs.Common.{List, ℕ, sym, subst}
use Rattle.txc_app.specs.declared.ask.Ask.TheVariants as asks
use Rattle.txc_caller.specs.ComputedFunctions.{AsksNext}
use Rattle.txc_caller.proofs.caller_txn.CallerTxn.finish.Goals as goal

pub act-requires-clause-asks : goal.act-requires-clause-asks
act-requires-clause-asks g c = subst (λ (bytes : List ℕ). AsksNext g.A.App.next c.args.self.now.objects c.args.self.now.core.call (asks.Done bytes)) (sym c.new.ensures) c.requires.asks
