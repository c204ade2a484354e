use Rattle.std.proofs.Common.{◌≡◌, List, Option, Some, None, refl, ap, sym, subst, ◌∙◌}
use Rattle.std.specs.Option.{option_map}
use Rattle.txc_rows.specs.declared.query.Query.{Query}
use Rattle.txc_tags.specs.Keys.{Call}
use Rattle.txc_txn_ports.specs.declared.turn.Turn.TheVariants as turns
use Rattle.txc_txn_ports.specs.Turns.{IsAsk}
use Rattle.txc_txn_rw.specs.declared.given.Given.{Given}
use Rattle.txc_txn_rw.specs.RwCore.{answers_after, IsRwTurn, QueryTurn, RwHolds}
use Rattle.txc_world.specs.declared.actor.OpenCall.{OpenCall}
use Rattle.txc_world.specs.Actors.{told_answers, told_by_turn, HasRwCall, IsRwCall}
use Rattle.txc_world.specs.ActorValues.{actor_value, call_at_turn, call_value, opened}
use Rattle.txc_world.specs.Holdings.{HasLost}
use Rattle.txc_world.specs.LostSnapshot.{IfTurnLost}
use Rattle.txc_world.specs.Ports.{PortsValue}
use Rattle.txc_world.specs.declared.reply.Reply.TheVariants.{Asked, Ended}
use Rattle.txc_world.proofs.Fairness.{counts_itself}
use Rattle.txc_world.proofs.Losing.{never_lost, noted_lost}
use Rattle.txc_world.proofs.PortsLemmas.{keeps_itself, keeps_same}
use Rattle.txc_world.proofs.Transitions.{noted_seen, some_there}
use Rattle.txc_world.proofs.WritingCounts.{asked_lost, based, counts_based}
use Rattle.txc_world.proofs.WritingLemmas.{rw_call_noted, rw_observed_noted}
use Rattle.txc_world.proofs.writing.request.Goals as goal

pub returns-in-Ask-clause-transition : goal.returns-in-Ask-clause-transition
returns-in-Ask-clause-transition g c =
    some_there _ _ (option_map call_value c.args.current.call) (call_at_turn c.in-Some.field-0.key c.in-Some.field-0.turn) (ap (λ (o : Option (OpenCall Query)). option_map call_value o) c.in-Some.is) (
      c.go_on-did.ensures.same_ports,
      rw c.in-Ask.is (record {
        core = c.go_on-did.new.core;
        objects = c.go_on-did.new.registry;
        call = option_map call_value c.note-call.result.0;
        did = c.go_on-did.result.0;
        end = c.note-call.result.1;
        turn = c.go_on-did.result.1;
        actor_is = refl;
        reply_is = refl;
        asks = c.go_on-did.ensures.asks;
        noted = noted_seen call_value (opened c.in-Some.field-0.key) c.go_on-did.result.1 c.note-call.result.0 c.note-call.result.1 c.note-call.ensures;
      }),
    )

pub returns-in-Ask-clause-acted : goal.returns-in-Ask-clause-acted
returns-in-Ask-clause-acted g c =
    let core = c.args.current.core in
    let new = c.go_on-did.new.core in
    let key = c.in-Some.field-0.key in
    let turn = c.go_on-did.result.1 in
    let same = c.go_on-did.ensures.same_ports in
    let loss = c.go_on-did.ensures.loss in
    let lost = HasLost c.args.ports.now (based core.base) in
    let call : IsRwCall core c.in-Some.field-0 = subst (HasRwCall core) c.in-Some.is c.requires.call in
    let under : core.call.top ≡ key = call.key (subst (λ (t : QueryTurn). IsAsk t) (sym c.in-Ask.is) tt) in
    let told : told_answers c.args.current.call core.answers ≡ core.answers =
    ap (λ (o : Option (OpenCall Query)). told_answers o core.answers) c.in-Some.is ∙ ap (λ (t : QueryTurn). told_by_turn t core.answers) c.in-Ask.is in
    record {
      fits = record {
        fits = c.go_on-did.ensures.fits;
        holds = subst (λ (p : PortsValue). RwHolds g.A.App.next p.database.history c.go_on-did.new.registry new) (sym same) c.go_on-did.ensures.holds;
        call = rw_call_noted new key turn c.note-call.result.0 c.note-call.result.1 c.note-call.ensures c.go_on-did.ensures.turn (λ asks. c.go_on-did.ensures.goes_on asks ∙ under);
      };
      told = rw_observed_noted (record {
        base = core.base;
        call = option_map (λ (x : OpenCall Query). x.key) c.args.current.call;
        answers = told_answers c.args.current.call core.answers;
        changes = core.changes;
      }) new.base new.answers new.changes key turn c.note-call.result.0 c.note-call.result.1 c.note-call.ensures c.go_on-did.ensures.base
          (ap (λ (o : Option (OpenCall Query)). option_map (λ (x : OpenCall Query). x.key) o) c.in-Some.is)
          (c.go_on-did.ensures.answers ∙ ap (λ (k : Call). answers_after core.answers k turn) under ∙ ap (λ (xs : List Given). answers_after xs key turn) (sym told))
          c.go_on-did.ensures.changes;
      history = ap (λ (p : PortsValue). p.database.history) same;
      due = rw c.in-Some.is tt;
      explained = tt;
      keeps = keeps_same c.args.ports.now c.go_on-did.new.ports same;
      spare = ap (λ (p : PortsValue). p.spare) same;
      counts = counts_based c.args.ports.now c.go_on-did.new.ports core.base new.base (Asked c.go_on-did.result.0 c.note-call.result.1) same c.go_on-did.ensures.base (
        loss,
        noted_lost lost (opened key) turn c.note-call.result.0 c.note-call.result.1 c.note-call.ensures
            (asked_lost lost g.A.App.next c.in-Ask.query c.args.ports.now core new
            c.args.current.registry c.go_on-did.new.registry c.go_on-did.result.0 turn c.go_on-did.ensures.asks loss),
      );
    }

-- the call had ended before any request
pub returns-in-Ended-clause-transition : goal.returns-in-Ended-clause-transition
returns-in-Ended-clause-transition g c =
    some_there _ _ (option_map call_value c.args.current.call) (call_at_turn c.in-Some.field-0.key c.in-Some.field-0.turn) (ap (λ (o : Option (OpenCall Query)). option_map call_value o) c.in-Some.is) (
      refl,
      rw c.in-Ended.is (ap actor_value c.end_call.ensures.actor, c.end_call.ensures.reply),
    )

pub returns-in-Ended-clause-acted : goal.returns-in-Ended-clause-acted
returns-in-Ended-clause-acted g c =
    let core = c.args.current.core in
    let key = c.in-Some.field-0.key in
    let call : IsRwCall core c.in-Some.field-0 = subst (HasRwCall core) c.in-Some.is c.requires.call in
    rw (c.end_call.ensures.actor, c.end_call.ensures.reply) (record {
      fits = record { fits = c.requires.fits; holds = c.requires.holds; call = subst (IsRwTurn core) c.in-Ended.is call.turn };
      told = rw_observed_noted (record {
        base = core.base;
        call = option_map (λ (x : OpenCall Query). x.key) c.args.current.call;
        answers = told_answers c.args.current.call core.answers;
        changes = core.changes;
      }) core.base core.answers core.changes key (turns.Ended c.in-Ended.result) None (Some c.in-Ended.result) (refl, refl) refl
          (ap (λ (o : Option (OpenCall Query)). option_map (λ (x : OpenCall Query). x.key) o) c.in-Some.is)
          (call.answers ∙ ap (λ (o : Option (OpenCall Query)). answers_after (told_answers o core.answers) key c.in-Some.field-0.turn) (sym c.in-Some.is)
          ∙ ap (λ (t : QueryTurn). answers_after (told_answers c.args.current.call core.answers) key t) c.in-Ended.is)
          refl;
      history = refl;
      due = rw c.in-Some.is tt;
      explained = tt;
      keeps = keeps_itself c.args.ports.now;
      spare = refl;
      counts = counts_itself c.args.ports.now (based core.base) (Ended c.in-Ended.result)
          (never_lost (HasLost c.args.ports.now (based core.base)) c.in-Ended.result (subst (λ (t : QueryTurn). IfTurnLost t ⊥) c.in-Ended.is call.not_lost));
    })
