use Rattle.std.proofs.Common.{sym, subst}
use Rattle.txc_txn.specs.TxnCore.{value_of}
use Rattle.txc_txn.specs.RunningTxn.{txn_value, TxnValue, HasGoneOn, IsShownRight}
use Rattle.txc_txn.proofs.Cores.{right_seen}
use Rattle.txc_db.proofs.Histories.{states_stay}
use Rattle.txc_txn.proofs.running_txn.RunningTxn.next.Goals as goal

pub invariant_of-self : goal.invariant_of-self
invariant_of-self g c =
    let next = g.A.App.next in
    let core = c.self.inside.core in
    let right = subst (λ (v : TxnValue). IsShownRight next v c.args.reply) (sym c.self.view_is) c.requires.right in
    record {
      fits = c.next.ensures.fits;
      holds = c.next.ensures.holds core.seen.history c.next.new.self.seen.history c.next.ensures.gone_on.longer c.self.invariant.holds
          (right_seen states_stay next core.machine.need c.args.reply c.next.new.self.seen.history c.next.ensures.gone_on.shown right);
    }

pub returns : goal.returns
returns g c =
    subst (λ (v : TxnValue). HasGoneOn g.A.App.next v c.args.reply (txn_value (value_of c.next.new.self) c.next.new.registry) c.next.result) c.self.view_is c.next.ensures.gone_on
