use Rattle.std.proofs.Common.{◌≡◌, ◌≤◌, ◌∙◌, sym, subst}
use Rattle.std.specs.Option.{ForSome}
use Rattle.txc_tags.specs.Keys.{Call}
use Rattle.txc_tags.specs.declared.key.TheConstants.{LAST_FUNCTION}
use Rattle.txc_db.proofs.Histories.{states_stay}
use Rattle.txc_db.specs.FrontsAndFeeds.{FrontValue}
use Rattle.txc_txn_ports.specs.Fronts.{front_of_reply}
use Rattle.txc_txn.specs.TxnCore.{IsAnswered, open_call, value_of}
use Rattle.txc_txn.specs.RunningTxn.{IsShownRight, TxnValue}
use Rattle.txc_txn.proofs.Cores.{right_seen}
use Rattle.txc_caller.proofs.Lent.{all_there, first_exists, top_stays}
use Rattle.txc_caller.proofs.lent_txn.LentTxn.hear.Goals as goal

pub hear-turn-requires : goal.hear-turn-requires
hear-turn-requires g c = record {
  fits = (g.A.App.next, c.self.inside.told.objects, c.self.invariant.valid.fits);
  reply = subst (λ (t : TxnValue). IsAnswered t.core c.args.reply) (sym c.self.view_is) c.requires.reply;
  row = subst (λ (t : TxnValue). ForSome (front_of_reply c.args.reply) (λ (f : FrontValue). f.events ≡ t.core.seen.events)) (sym c.self.view_is) c.requires.row;
}

pub invariant_of-self : goal.invariant_of-self
invariant_of-self g c =
    let next = g.A.App.next in
    let old = value_of c.self.inside.core in
    let objects = c.self.inside.told.objects in
    let after = c.settle.new.told.objects in
    let left = c.settle.ensures.left in
    let gone = c.hear-turn.ensures.gone_on in
    let new = value_of c.hear-turn.new.self in
    let right = subst (λ (t : TxnValue). IsShownRight next t c.args.reply) (sym c.self.view_is) c.requires.right in
    record {
      valid = record {
        fits = c.hear-turn.ensures.fits next objects after (first_exists objects old c.self.invariant.functions c.self.invariant.top) left c.self.invariant.valid.fits;
        holds = c.hear-turn.ensures.holds next objects after old.seen.history new.seen.history gone.longer left
            (right_seen states_stay next old.call.need c.args.reply new.seen.history gone.shown right) c.self.invariant.valid.fits c.self.invariant.valid.holds;
      };
      functions = all_there objects after c.settle.ensures.functions c.self.invariant.functions;
      top = top_stays (λ (k : Call). k.function ≤ LAST_FUNCTION) (open_call old) new c.hear-turn.result gone.turn_fits gone.goes_on c.self.invariant.top;
      nodes = gone.settings.nodes ∙ c.self.invariant.nodes;
    }
