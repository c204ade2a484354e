use Rattle.std.proofs.Common.{◌≡◌, ◌≤◌, ◌∙◌, Option, Some, sym, ap, subst}
use Rattle.std.specs.Option.{ForSome}
use Rattle.txc_tags.specs.Keys.{Call}
use Rattle.txc_tags.specs.declared.key.TheConstants.{LAST_FUNCTION}
use Rattle.txc_db.specs.History.{History}
use Rattle.txc_app.specs.declared.app.Limits.{Limits}
use Rattle.txc_app.specs.Eval.{Next}
use Rattle.txc_call_registry.specs.Objects.{Objects}
use Rattle.txc_call.specs.declared.need.Need.{Need}
use Rattle.txc_call.specs.CallMachine.{Calling}
use Rattle.txc_call.specs.CallSteps.{NeedsFunction, objects_after}
use Rattle.txc_call_ghosts.specs.Steps.{objects_after_ask, objects_after_need}
use Rattle.txc_txn.specs.ByHand.{HasAskedByHand, ObjectsLeft}
use Rattle.txc_txn.specs.TxnCore.{CoreValue, CoreHolds, open_call, value_of}
use Rattle.txc_txn.specs.RunningTxn.{TxnValue}
use Rattle.txc_caller.specs.ComputedFunctions.{AsksNext}
use Rattle.txc_caller.proofs.Lent.{all_there, ask_there, open_runs, some_need, top_stays}
use Rattle.txc_caller.proofs.lent_txn.LentTxn.ran.Goals as goal

pub ran-turn-requires : goal.ran-turn-requires
ran-turn-requires g c =
    let old = value_of c.self.inside.core in
    let objects = c.self.inside.told.objects in
    let runs = subst (λ (t : TxnValue). NeedsFunction t.core.call.need) (sym c.self.view_is) c.requires.runs in
    let need = some_need old.call.need runs in
    let asks = subst (λ (t : TxnValue). AsksNext g.A.App.next t.objects t.core.call c.args.ask) (sym c.self.view_is) c.requires.asks in
    record {
      most_value = c.limits-limits.ensures.value;
      most_asks = c.limits-limits.ensures.asks;
      runs = runs;
      none = ap (λ (t : TxnValue). t.core.pinning) c.self.view_is ∙ c.requires.none;
      asks = (g.A.App.next, objects, need.0, sym c.limits-limits.ensures.answer, need.1, asks need.0 need.1, ask_there objects old.call.frames need.0 c.args.ask c.self.invariant.functions c.requires.there, c.self.invariant.valid.fits);
    }

pub invariant_of-self : goal.invariant_of-self
invariant_of-self g c =
    let next = g.A.App.next in
    let old = value_of c.self.inside.core in
    let new = value_of c.ran-turn.new.self in
    let objects = c.self.inside.told.objects in
    let after = c.settle.new.told.objects in
    let turn = c.ran-turn.result in
    let runs = subst (λ (t : TxnValue). NeedsFunction t.core.call.need) (sym c.self.view_is) c.requires.runs in
    let none = ap (λ (t : TxnValue). t.core.pinning) c.self.view_is ∙ c.requires.none in
    let need = some_need old.call.need runs in
    let asks = subst (λ (t : TxnValue). AsksNext next t.objects t.core.call c.args.ask) (sym c.self.view_is) c.requires.asks in
    let there = ask_there objects old.call.frames need.0 c.args.ask c.self.invariant.functions c.requires.there in
    let is : c.ran-after.result.objects ≡ objects_after objects old.call.frames need.0 c.args.ask =
    c.ran-after.ensures.after ∙ ap (λ (m : Calling). objects_after_ask objects m c.args.ask) c.machine.ensures
    ∙ ap (λ (n : Option Need). objects_after_need objects old.call.frames n c.args.ask) need.1 in
    let left : ObjectsLeft (objects_after objects old.call.frames need.0 c.args.ask) turn after = subst (λ (os : Objects). ObjectsLeft os turn after) is c.settle.ensures.left in
    let within : next.limits ≡ c.limits-limits.result = sym c.limits-limits.ensures.answer in
    let asked = c.ran-turn.ensures.asked in
    let history : new.seen.history ≡ old.seen.history = ap (λ (v : CoreValue). v.seen.history) asked.same in
    let top = subst (λ (o : Option Call). ForSome o (λ (k : Call). k.function ≤ LAST_FUNCTION)) (open_runs old none runs) c.self.invariant.top in
    record {
      valid = record {
        fits = c.ran-turn.ensures.fits next objects after need.0 within need.1 (asks need.0 need.1) there left c.self.invariant.valid.fits;
        holds = subst (λ (L : History). CoreHolds next L after new) (sym history)
            (c.ran-turn.ensures.holds next objects after old.seen.history need.0 within need.1 (asks need.0 need.1) there left c.self.invariant.valid.fits c.self.invariant.valid.holds);
      };
      functions = all_there objects after (c.settle.ensures.functions ∙ c.ran-after.ensures.functions) c.self.invariant.functions;
      top = top_stays (λ (k : Call). k.function ≤ LAST_FUNCTION) (Some old.call.top) new turn asked.turn_fits asked.goes_on top;
      nodes = ap (λ (v : CoreValue). v.nodes) asked.same ∙ c.self.invariant.nodes;
    }

pub returns-clause-asked : goal.returns-clause-asked
returns-clause-asked g c =
    let new = value_of c.ran-turn.new.self in
    let turn = c.ran-turn.result in
    subst (λ (l : Limits). HasAskedByHand l c.args.self.now.core c.args.ask new turn) c.limits-limits.ensures.answer
    (subst (λ (t : TxnValue). HasAskedByHand c.limits-limits.result t.core c.args.ask new turn) c.self.view_is c.ran-turn.ensures.asked)
