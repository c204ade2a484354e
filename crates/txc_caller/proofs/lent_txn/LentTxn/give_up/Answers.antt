use Rattle.std.proofs.Common.{◌≤◌, ◌∙◌, ap, sym, subst}
use Rattle.txc_tags.specs.Keys.{Call}
use Rattle.txc_tags.specs.declared.key.TheConstants.{LAST_FUNCTION}
use Rattle.txc_db.specs.History.{History}
use Rattle.txc_txn.specs.TxnCore.{value_of, CoreHolds, CoreValue}
use Rattle.txc_caller.proofs.Lent.{all_there, at_idle}
use Rattle.txc_caller.proofs.lent_txn.LentTxn.give_up.Goals as goal

pub invariant_of-self : goal.invariant_of-self
invariant_of-self g c =
    let next = g.A.App.next in
    let objects = c.self.inside.told.objects in
    let after = c.idled.result.objects in
    let old = value_of c.self.inside.core in
    let new = value_of c.give_up_by_hand-none.new.self in
    let gone = c.give_up_by_hand-none.ensures in
    record {
      valid = record {
        fits = gone.fits next objects after c.idled.ensures.idle c.self.invariant.valid.fits;
        holds = subst (λ (L : History). CoreHolds next L after new) (sym (ap (λ (v : CoreValue). v.seen.history) gone.same))
            (gone.holds next objects after old.seen.history c.self.invariant.valid.holds);
      };
      functions = all_there objects after c.idled.ensures.functions c.self.invariant.functions;
      top = at_idle (λ (k : Call). k.function ≤ LAST_FUNCTION) new gone.idle;
      nodes = ap (λ (v : CoreValue). v.nodes) gone.same ∙ c.self.invariant.nodes;
    }
