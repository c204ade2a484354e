use Rattle.std.proofs.Common.{Some, ◌≤◌, ◌∙◌, ap, sym, subst}
use Rattle.txc_tags.specs.Keys.{Call}
use Rattle.txc_tags.specs.declared.key.TheConstants.{LAST_FUNCTION}
use Rattle.txc_db.specs.History.{History}
use Rattle.txc_txn.specs.ByHand.{ObjectsLeft}
use Rattle.txc_txn.specs.TxnCore.{CoreHolds, CoreValue, IsIdle, value_of}
use Rattle.txc_txn.specs.RunningTxn.{HasBegunCall, TxnValue, txn_value}
use Rattle.txc_caller.proofs.Lent.{start_left, top_begun}
use Rattle.txc_caller.proofs.lent_txn.LentTxn.start.Goals as goal

pub start_by_hand-requires : goal.start_by_hand-requires
start_by_hand-requires g c = record {
  fits = (g.A.App.next, c.self.inside.told.objects, c.self.invariant.valid.fits);
  idle = subst (λ (t : TxnValue). IsIdle t.core) (sym c.self.view_is) c.requires;
}

pub invariant_of-self : goal.invariant_of-self
invariant_of-self g c =
    let next = g.A.App.next in
    let objects = c.self.inside.told.objects in
    let new = value_of c.start_by_hand.new.self in
    let there = c.self.invariant.functions c.args.key.function c.function-function.ensures.bound in
    let begun = c.start_by_hand.ensures.begun objects there in
    record {
      valid = record {
        fits = c.start_by_hand.ensures.fits next objects there c.self.invariant.valid.fits;
        holds = subst (λ (L : History). CoreHolds next L objects new) (sym (ap (λ (v : CoreValue). v.seen.history) begun.same))
            (c.start_by_hand.ensures.holds next objects (value_of c.self.inside.core).seen.history c.self.invariant.valid.holds);
      };
      functions = c.self.invariant.functions;
      top = top_begun (λ (k : Call). k.function ≤ LAST_FUNCTION) new c.args.key c.start_by_hand.result begun.turn_fits begun.begins c.function-function.ensures.bound;
      nodes = ap (λ (v : CoreValue). v.nodes) begun.same ∙ c.self.invariant.nodes;
    }

pub returns-clause-begun : goal.returns-clause-begun
returns-clause-begun g c =
    let objects = c.self.inside.told.objects in
    subst (λ (t : TxnValue). HasBegunCall t c.args.key (txn_value (value_of c.start_by_hand.new.self) objects) c.start_by_hand.result) c.self.view_is
    (c.start_by_hand.ensures.begun objects (c.self.invariant.functions c.args.key.function c.function-function.ensures.bound))

pub returns-clause-objects : goal.returns-clause-objects
returns-clause-objects g c =
    let objects = c.self.inside.told.objects in
    let there = c.self.invariant.functions c.args.key.function c.function-function.ensures.bound in
    let new = value_of c.start_by_hand.new.self in
    subst (λ (t : TxnValue). ObjectsLeft t.objects (Some c.start_by_hand.result) objects) c.self.view_is
    (start_left g.A.App.next objects new c.start_by_hand.result (c.start_by_hand.ensures.begun objects there).turn_fits (c.start_by_hand.ensures.fits g.A.App.next objects there c.self.invariant.valid.fits))
