use Rattle.std.proofs.Common.{◌≡◌, length, refl, sym, ap, subst, ◌∙◌}
use Rattle.txc_db.specs.FrontsAndFeeds.{FrontValue}
use Rattle.txc_txn_ports.specs.PortRequests.{TurnAddsSuch, MayAsk}
use Rattle.txc_txn.specs.TxnCore.{CoreValue, IsTurn}
use Rattle.txc_txn_ports.specs.Turns.{IsAsk}
use Rattle.txc_txn.proofs.Offered.{adds_next, adds_none, is_answered, is_right, may_ask, none_recorded}
use Rattle.txc_txn_client.specs.Run.{HasBegun}
use Rattle.txc_txn_client.specs.RoTxn.{RoTxnValue}
use Rattle.txc_txn_client.proofs.Counting.{goes_down}
use Rattle.txc_txn_client.proofs.Grown.{as_many, have_grown_self, have_grown_then, prefix_then}
use Rattle.txc_txn_ports.specs.Turns.{PortTurn}
use Rattle.txc_txn_client.proofs.Runs.{HasRunTo, run_begun, run_asked, run_ended}
use Rattle.txc_txn_client.proofs.Turns.{history_stays, recorded_on, recorded_stays, row_stays, settings_stay, settings_then}
use Rattle.txc_txn_client.proofs.calling.call_at.Goals as goal

pub loop-turn-init : goal.loop-turn-init
loop-turn-init g c =
    let old = c.args.txn.now.core in
    let new = c.start-turn.new.self.core in
    let same = c.start-turn.ensures.same in
    let before : RoTxnValue = record { txn = c.args.txn.now; passes = c.args.ports.now } in
    let after : RoTxnValue = record { txn = c.start-turn.new.self; passes = c.args.ports.now } in
    let begun : HasBegun before c.args.key after c.start-turn.result = record {
      turn_fits = c.start-turn.ensures.turn_fits;
      transition = c.start-turn.ensures.transition;
      begins = c.start-turn.ensures.begins;
      functions = c.start-turn.ensures.functions;
      same = same;
      passes = refl;
    } in
    record {
      passes = have_grown_self c.args.ports.now;
      turn = c.start-turn.ensures.turn_fits;
      adds = adds_none (λ front. front.events ≡ g.J.Naming.database_history) c.start-turn.result c.start-turn.ensures.no_add;
      events = row_stays old new same ∙ c.requires.events;
      begins = c.start-turn.ensures.begins;
      recorded = recorded_stays old new same ∙ sym (none_recorded old.recorded c.start-turn.result _ c.start-turn.ensures.no_value);
      settings = settings_stay old new same;
      longer = history_stays old new same;
      functions = c.start-turn.ensures.functions;
      run = run_begun g.A.App.next g.J.Naming.database_history g.J.Naming.node_histories before c.args.key after c.start-turn.result begun;
      missing = λ members none. ((c.start-turn.ensures.transition.begins members).absent none).1;
    }

pub loop-turn-preserved : goal.loop-turn-preserved
loop-turn-preserved g c =
    let inv = c.loop-turn.invariant in
    let on = c.next-turn.ensures in
    let asks : IsAsk c.loop-turn.turn = subst IsAsk (sym c.in-Ask.is) tt in
    let began : RoTxnValue = record { txn = c.args.txn.now; passes = c.args.ports.now } in
    let before : RoTxnValue = record { txn = c.loop-turn.txn; passes = c.loop-turn.ports } in
    let after : RoTxnValue = record { txn = c.next-turn.new.self; passes = c.ask-reply.new.self } in
    record {
      passes = have_grown_then c.args.ports.now c.loop-turn.ports c.ask-reply.new.self inv.passes c.ask-reply.ensures.passes;
      turn = on.turn_fits;
      adds = adds_next (λ front. front.events ≡ g.J.Naming.database_history) g.A.App.next c.loop-turn.txn c.next-turn.new.self c.next-turn.result c.ask-reply.result c.ask-reply.ensures.row on.adds on.transition;
      events = on.events ∙ inv.events;
      begins = λ more. on.goes_on more ∙ inv.begins asks;
      recorded = on.recorded ∙ recorded_on c.args.txn.now.core.recorded c.loop-turn.txn.core.recorded c.in-Ask.request c.loop-turn.turn c.next-turn.result c.args.key _ c.in-Ask.is inv.recorded (inv.begins asks);
      settings = settings_then c.args.txn.now.core c.loop-turn.txn.core c.next-turn.new.self.core inv.settings on.settings;
      longer = prefix_then c.args.txn.now.core.seen.history c.loop-turn.txn.core.seen.history c.next-turn.new.self.core.seen.history inv.longer on.longer;
      functions = on.functions ∙ inv.functions;
      run = run_asked g.A.App.next g.J.Naming.database_history g.J.Naming.node_histories began c.args.key before after c.loop-turn.turn c.next-turn.result c.in-Ask.request c.ask-reply.result
          c.in-Ask.is c.ask-reply.ensures.answer c.ask-reply.ensures.row c.ask-reply.ensures.told c.ask-reply.ensures.left on inv.run;
      missing = λ members none. cc (inv.missing members none, c.in-Ask.is);
    }

pub loop-turn-smaller : goal.loop-turn-smaller
loop-turn-smaller g c =
    let inv = c.loop-turn.invariant in
    let asking = subst (IsTurn c.loop-turn.txn.core) c.in-Ask.is inv.turn in
    rw c.in-Ask.is
    (goes_down g.A.App.next c.loop-turn.txn c.next-turn.new.self c.ask-reply.result c.next-turn.result c.is_kept.ensures c.is_kept-in-Ask.ensures
    (is_answered g.A.App.next c.loop-turn.txn.core c.in-Ask.request c.ask-reply.result asking c.ask-reply.ensures.answer) c.next-turn.ensures)

pub ask-reply-requires : goal.ask-reply-requires
ask-reply-requires g c =
    let inv = c.loop-turn.invariant in
    let txn = c.loop-turn.txn in
    let same : c.seen.result.now ≡ txn.core.seen = c.seen.ensures ∙ ap (λ (w : CoreValue). w.seen) c.core.ensures in
    let nodes : txn.core.nodes ≡ length c.loop-turn.ports = inv.settings.nodes ∙ c.requires.nodes ∙ sym (as_many c.args.ports.now c.loop-turn.ports inv.passes) in
    record {
      row = ap (λ (f : FrontValue). f.events) same ∙ inv.events;
      may = subst (λ (f : FrontValue). MayAsk g.A.App.next g.J.Naming.database_history (length c.loop-turn.ports) f.history c.in-Ask.request) (sym same)
          (may_ask g.A.App.next g.J.Naming.database_history txn c.is_kept.ensures (length c.loop-turn.ports) nodes c.in-Ask.request
          (subst (IsTurn txn.core) c.in-Ask.is inv.turn) (subst (TurnAddsSuch (λ front. front.events ≡ g.J.Naming.database_history)) c.in-Ask.is inv.adds));
    }

pub next-turn-requires : goal.next-turn-requires
next-turn-requires g c =
    let txn = c.loop-turn.txn in
    let asking = subst (IsTurn txn.core) c.in-Ask.is c.loop-turn.invariant.turn in
    record {
      reply = is_answered g.A.App.next txn.core c.in-Ask.request c.ask-reply.result asking c.ask-reply.ensures.answer;
      row = λ front is. c.ask-reply.ensures.row front is ∙ sym c.loop-turn.invariant.events;
      right = is_right g.A.App.next txn c.in-Ask.request c.ask-reply.result asking c.ask-reply.ensures.answer;
    }

pub returns-in-Ended-clause-run : goal.returns-in-Ended-clause-run
returns-in-Ended-clause-run g c =
    let began : RoTxnValue = record { txn = c.args.txn.now; passes = c.args.ports.now } in
    let after : RoTxnValue = record { txn = c.loop-turn.txn; passes = c.loop-turn.ports } in
    run_ended g.A.App.next g.J.Naming.database_history g.J.Naming.node_histories began c.args.key after c.in-Ended.result
    (subst (λ (t : PortTurn). HasRunTo g.A.App.next g.J.Naming.database_history g.J.Naming.node_histories began c.args.key after t) c.in-Ended.is c.loop-turn.invariant.run)
