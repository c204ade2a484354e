use Rattle.std.proofs.Common.{◌≤◌}
use Rattle.txc_tags.specs.Keys.{Call}
use Rattle.txc_tags.specs.declared.key.TheConstants.{LAST_FUNCTION}
use Rattle.txc_txn.specs.TxnCore.{value_of}
use Rattle.txc_caller.proofs.Lent.{at_idle}
use Rattle.txc_caller.proofs.lent_txn.LentTxn.new.Goals as goal

pub invariant_of-result : goal.invariant_of-result
invariant_of-result g c = record {
  valid = record { fits = c.requires.fits g.A.App.next c.new.result.objects c.new.ensures.idle; holds = c.requires.holds g.A.App.next c.new.result.objects };
  functions = c.new.ensures.functions;
  top = at_idle (λ (k : Call). k.function ≤ LAST_FUNCTION) (value_of c.args.core) c.requires.idle;
  nodes = c.requires.nodes;
}

pub returns-clause-lent : goal.returns-clause-lent
returns-clause-lent g c = record {
  valid = record { fits = c.requires.fits g.A.App.next c.new.result.objects c.new.ensures.idle; holds = c.requires.holds g.A.App.next c.new.result.objects };
  functions = c.new.ensures.functions;
  top = at_idle (λ (k : Call). k.function ≤ LAST_FUNCTION) (value_of c.args.core) c.requires.idle;
  nodes = c.requires.nodes;
}
