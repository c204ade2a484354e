use Rattle.std.proofs.Common.{◌≡◌, ◌∙◌, ℕ, List, Some, None, [], ◌∷◌, ap, arith, refl, sym, subst}
use Rattle.txc_txn.specs.TxnCore.{left_pin}
use Rattle.txc_world.proofs.Fairness.{fair_ended}
use Rattle.txc_world.specs.KeeperAtPorts.{GiveBackTransition}
use Rattle.txc_world.specs.Ports.{PortsValue}
use Rattle.txc_cushion.proofs.Counts.{give_back_counts}
use Rattle.txc_world.proofs.acting.abort.Goals as goal

pub returns-in-Some-clause-transition : goal.returns-in-Some-clause-transition
returns-in-Some-clause-transition g c = λ next pass.
    let is : left_pin c.args.current.txn.core.pinning ≡ Some c.in-Some.stamp = sym c.cancel-left.ensures.unpin ∙ c.in-Some.is in
    rw is (
      (
        c.give_back.result,
        subst (λ (l : List ℕ). GiveBackTransition l c.args.ports.now c.give_back.new.self c.give_back.result)
            (c.deref.ensures.value ∙ c.cancel-left.ensures.give_back) c.give_back.ensures.transition,
      ),
      (c.cancel-left.ensures.idle, c.cancel-left.ensures.functions, refl),
      refl,
    )

pub returns-clause-transition : goal.returns-clause-transition
returns-clause-transition g c = λ next pass.
    let is : left_pin c.args.current.txn.core.pinning ≡ None = sym c.cancel-left.ensures.unpin ∙ c.in-None.is in
    rw is (
      (
        c.give_back.result,
        subst (λ (l : List ℕ). GiveBackTransition l c.args.ports.now c.give_back.new.self c.give_back.result)
            (c.deref.ensures.value ∙ c.cancel-left.ensures.give_back) c.give_back.ensures.transition,
      ),
      (c.cancel-left.ensures.idle, c.cancel-left.ensures.functions),
      refl,
    )

pub returns-in-Some-clause-acted : goal.returns-in-Some-clause-acted
returns-in-Some-clause-acted g c =
    let is : left_pin c.args.current.txn.core.pinning ≡ Some c.in-Some.stamp = sym c.cancel-left.ensures.unpin ∙ c.in-Some.is in
    let own_only = fair_ended c.args.ports.now c.give_back.new.self c.args.current.txn.core _ c.give_back.result give_back_counts c.give_back.ensures.transition
    (c.deref.ensures.value ∙ c.cancel-left.ensures.give_back) (c.in-Some.stamp ∷ []) (λ t. rw is (omega arith)) in
    record {
      fits = c.cancel-left.ensures.idle;
      told = refl;
      history = ap (λ (p : PortsValue). p.database.history) c.give_back.ensures.same;
      due = tt;
      explained = tt;
      keeps = c.give_back.ensures.keeps;
      spare = ap (λ (p : PortsValue). p.spare) c.give_back.ensures.same;
      counts = record { own_only = own_only; loss = tt };
    }

pub returns-clause-acted : goal.returns-clause-acted
returns-clause-acted g c =
    let own_only = fair_ended c.args.ports.now c.give_back.new.self c.args.current.txn.core _ c.give_back.result give_back_counts c.give_back.ensures.transition
    (c.deref.ensures.value ∙ c.cancel-left.ensures.give_back) [] (λ t. omega arith) in
    record {
      fits = c.cancel-left.ensures.idle;
      told = refl;
      history = ap (λ (p : PortsValue). p.database.history) c.give_back.ensures.same;
      due = tt;
      explained = tt;
      keeps = c.give_back.ensures.keeps;
      spare = ap (λ (p : PortsValue). p.spare) c.give_back.ensures.same;
      counts = record { own_only = own_only; loss = tt };
    }
