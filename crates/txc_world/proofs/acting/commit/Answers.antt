use Rattle.std.proofs.Common.{ℕ, List, ap, subst, sym, ◌∙◌, [], arith, refl}
use Rattle.txc_txn.specs.TxnCore.{Explains}
use Rattle.txc_world.specs.Ports.{PortsValue}
use Rattle.txc_world.proofs.Explaining.{explained_later}
use Rattle.txc_world.proofs.Fairness.{fair_ended}
use Rattle.txc_world.specs.declared.reply.Reply.TheVariants.{Receipt}
use Rattle.txc_world.specs.ActorValues.{resting}
use Rattle.txc_world.specs.KeeperAtPorts.{GiveBackTransition}
use Rattle.txc_cushion.proofs.Counts.{give_back_counts}
use Rattle.txc_world.proofs.acting.commit.Goals as goal

pub returns-clause-transition : goal.returns-clause-transition
returns-clause-transition g c = λ next pass. rw c.requires.no_call (
  (
    c.give_back.result,
    subst (λ (l : List ℕ). GiveBackTransition l c.args.ports.now c.give_back.new.self c.give_back.result)
        (c.deref.ensures.value ∙ c.finish-receipt.ensures.give_back) c.give_back.ensures.transition,
  ),
  ap resting c.finish-receipt.ensures.registry,
  ap Receipt c.finish-receipt.ensures.pin,
)

pub returns-clause-acted : goal.returns-clause-acted
returns-clause-acted g c =
    let explained = rw (c.finish-receipt.ensures.seen, c.finish-receipt.ensures.answers) at c.finish-receipt.ensures.explained in
    let later =
    subst (λ (p : PortsValue). Explains g.A.App.next p.database.history c.args.current.txn.core.bounds c.finish-receipt.result.0.pin c.args.current.txn.core.recorded)
    (sym c.give_back.ensures.same)
    (explained_later g.A.App.next c.args.current.txn.core.seen.history c.args.ports.now.database.history
    c.args.current.txn.core.bounds c.finish-receipt.result.0.pin c.args.current.txn.core.recorded c.requires.fits.seen.begins explained) in
    let own_only = fair_ended c.args.ports.now c.give_back.new.self c.args.current.txn.core _ c.give_back.result give_back_counts c.give_back.ensures.transition
    (c.deref.ensures.value ∙ c.finish-receipt.ensures.give_back) [] (λ t. omega arith) in
    record {
      fits = c.finish-receipt.ensures.idle;
      told = refl;
      history = ap (λ (p : PortsValue). p.database.history) c.give_back.ensures.same;
      due = rw c.requires.no_call tt;
      explained = later;
      keeps = c.give_back.ensures.keeps;
      spare = ap (λ (p : PortsValue). p.spare) c.give_back.ensures.same;
      counts = record { own_only = own_only; loss = tt };
    }
