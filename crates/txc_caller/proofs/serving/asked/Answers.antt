use Rattle.std.proofs.Common.{◌≡◌, ◌∙◌, ap, sym, subst}
use Rattle.txc_db.specs.FrontsAndFeeds.{FrontValue}
use Rattle.txc_txn_ports.specs.PortRequests.{MayAsk}
use Rattle.txc_txn.specs.TxnCore.{CoreValue}
use Rattle.txc_txn.proofs.Offered.{is_answered, is_right, may_ask}
use Rattle.txc_caller.proofs.Looking.{lookup_made, node_kept}
use Rattle.txc_caller.specs.Ports.{HasAskedPorts}
use Rattle.txc_caller.proofs.serving.asked.Goals as goal

pub ask-requires : goal.ask-requires
ask-requires g c =
    let txn = c.args.txn.now in
    let row = (g.P.CallPorts.ports c.args.ports.now).database.events in
    let same : c.seen.result.now ≡ txn.core.seen = c.seen.ensures ∙ ap (λ (w : CoreValue). w.seen) c.core.ensures in
    record {
      row = ap (λ (f : FrontValue). f.events) same ∙ c.requires.events;
      may = subst (λ (f : FrontValue). MayAsk g.A.App.next row 1 f.history c.args.request) (sym same)
          (may_ask g.A.App.next row txn c.is_lent.ensures.valid 1 c.requires.nodes c.args.request c.requires.fits c.requires.adds);
    }

pub returns-clause-right : goal.returns-clause-right
returns-clause-right g c = record {
  answers = is_answered g.A.App.next c.args.txn.now.core c.args.request c.ask.result c.requires.fits c.ask.ensures.answer;
  row = λ front is. c.ask.ensures.row front is ∙ sym c.requires.events;
  right = is_right g.A.App.next c.args.txn.now c.args.request c.ask.result c.requires.fits c.ask.ensures.answer;
}

pub returns-clause-looked_up : goal.returns-clause-looked_up
returns-clause-looked_up g c = lookup_made c.seen.result.now (g.P.CallPorts.ports c.args.ports.now) (g.P.CallPorts.ports c.ask.new.self) c.args.txn.now.core c.args.request c.ask.result c.requires.fits c.ask.ensures.transition

pub returns-clause-node : goal.returns-clause-node
returns-clause-node g c = λ of. node_kept c.seen.result.now (g.P.CallPorts.ports c.args.ports.now) (g.P.CallPorts.ports c.ask.new.self) c.args.request c.ask.result of c.ask.ensures.transition

pub returns-clause-asked : goal.returns-clause-asked
returns-clause-asked g c =
    let same : c.seen.result.now ≡ c.args.txn.now.core.seen = c.seen.ensures ∙ ap (λ (w : CoreValue). w.seen) c.core.ensures in
    subst (λ (f : FrontValue). HasAskedPorts g.A.App.next f c.args.request (g.P.CallPorts.ports c.args.ports.now) (g.P.CallPorts.ports c.ask.new.self) c.ask.result) same c.ask.ensures
