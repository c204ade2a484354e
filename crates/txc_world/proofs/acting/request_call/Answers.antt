use Rattle.std.proofs.Common.{◌≡◌, Option, Some, ap, refl, sym, subst, ◌∙◌}
use Rattle.std.specs.Prelude.{option_map}
use Rattle.txc_txn_ports.specs.declared.request.PortRequest.{PortRequest}
use Rattle.txc_txn_ports.specs.Turns.{IsAsk, PortTurn}
use Rattle.txc_txn.specs.TxnCore.{open_call, recorded_after, IsNoValue, IsTurn}
use Rattle.txc_world.specs.declared.actor.OpenCall.{OpenCall}
use Rattle.txc_world.specs.declared.reply.Reply.TheVariants.{Ended}
use Rattle.txc_world.specs.Actors.{HasCall, IsOpenCall}
use Rattle.txc_world.specs.Holdings.{account_of_core, HasLost}
use Rattle.txc_world.specs.ActorValues.{call_value, opened, reads}
use Rattle.txc_world.specs.LostSnapshot.{IfTurnLost}
use Rattle.txc_world.specs.Ports.{whole_of}
use Rattle.txc_world.proofs.Fairness.{counts_itself}
use Rattle.txc_world.proofs.Transitions.{noted_seen}
use Rattle.txc_world.proofs.Losing.{never_lost, noted_lost}
use Rattle.txc_world.proofs.PortsLemmas.{keeps_itself}
use Rattle.txc_world.proofs.Turning.{call_noted, ended_observed, observed_noted}
use Rattle.txc_world.proofs.acting.request_call.Goals as goal

pub returns-in-Ask-clause-acted : goal.returns-in-Ask-clause-acted
returns-in-Ask-clause-acted g c =
    let core = c.args.current.now.txn.core in
    let new = c.go_on-did.new.txn.core in
    let whole = whole_of c.args.ports.now in
    let key = c.in-Some.field-0.key in
    let turn = c.go_on-did.result.1 in
    let was = sym c.take.ensures.value ∙ c.in-Some.is in
    let call : IsOpenCall whole core c.in-Some.field-0 = subst (HasCall whole core) was c.requires.fits.call in
    let under : open_call core ≡ Some key = call.key (subst (λ (t : PortTurn). IsAsk t) (sym c.in-Ask.is) tt) in
    record {
      fits = record {
        seen = c.go_on-did.ensures.seen;
        nodes = c.go_on-did.ensures.nodes;
        call = call_noted (whole_of c.go_on-did.new.ports) new key turn c.note-call.result.0 c.note-call.result.1 c.note-call.ensures c.go_on-did.ensures.turn
            (λ asks. c.go_on-did.ensures.goes_on asks ∙ under) c.go_on-did.ensures.adds c.go_on-did.ensures.drops;
      };
      told = observed_noted (record { bounds = core.bounds; call = option_map (λ (o : OpenCall PortRequest). o.key) c.args.current.now.call; answers = core.recorded }) new.bounds new.recorded key turn
          c.note-call.result.0 c.note-call.result.1 c.note-call.ensures c.go_on-did.ensures.bounds
          (ap (λ (o : Option (OpenCall PortRequest)). option_map (λ (x : OpenCall PortRequest). x.key) o) was)
          (c.go_on-did.ensures.recorded ∙ ap (recorded_after core.recorded turn) under);
      history = c.go_on-did.ensures.history;
      due = rw was tt;
      explained = tt;
      keeps = c.go_on-did.ensures.keeps;
      spare = c.go_on-did.ensures.spare;
      counts = record {
        own_only = c.go_on-did.ensures.own_only;
        loss = (
          c.go_on-did.ensures.loss,
          noted_lost (HasLost c.args.ports.now (account_of_core core)) (opened key) turn c.note-call.result.0 c.note-call.result.1 c.note-call.ensures c.go_on-did.ensures.lost,
        );
      };
    }

-- the call had ended before any request, with a refusal
pub returns-in-Ended-clause-acted : goal.returns-in-Ended-clause-acted
returns-in-Ended-clause-acted g c =
    let core = c.args.current.now.txn.core in
    let whole = whole_of c.args.ports.now in
    let call : IsOpenCall whole core c.in-Some.field-0 = subst (HasCall whole core) (sym c.take.ensures.value ∙ c.in-Some.is) c.requires.fits.call in
    record {
      fits = record {
        seen = c.requires.fits.seen;
        nodes = c.requires.fits.nodes;
        call = rw c.take.ensures.after (subst (IsTurn core) c.in-Ended.is call.turn);
      };
      told = rw c.take.ensures.after (ended_observed _ c.in-Ended.result (subst IsNoValue c.in-Ended.is call.no_value));
      history = refl;
      due = rw (sym c.take.ensures.value ∙ c.in-Some.is) tt;
      explained = tt;
      keeps = keeps_itself c.args.ports.now;
      spare = refl;
      counts = counts_itself c.args.ports.now (account_of_core core) (Ended c.in-Ended.result)
          (never_lost (HasLost c.args.ports.now (account_of_core core)) c.in-Ended.result (subst (λ (t : PortTurn). IfTurnLost t ⊥) c.in-Ended.is call.not_lost));
    }

pub returns-in-Ended-clause-transition : goal.returns-in-Ended-clause-transition
returns-in-Ended-clause-transition g c = rw (sym c.take.ensures.value ∙ c.in-Some.is, c.in-Ended.is) (
  refl,
  ap (λ (o : Option (OpenCall PortRequest)). reads (record { txn = c.args.current.now.txn; call = option_map call_value o })) c.take.ensures.after,
  refl,
)

pub returns-in-Ask-clause-transition : goal.returns-in-Ask-clause-transition
returns-in-Ask-clause-transition g c = rw (sym c.take.ensures.value ∙ c.in-Some.is, c.in-Ask.is) (record {
  txn = c.go_on-did.new.txn;
  call = option_map call_value c.note-call.result.0;
  did = c.go_on-did.result.0;
  end = c.note-call.result.1;
  turn = c.go_on-did.result.1;
  actor_is = refl;
  reply_is = refl;
  asks = c.go_on-did.ensures.asks;
  noted = noted_seen call_value (opened c.in-Some.field-0.key) c.go_on-did.result.1 c.note-call.result.0 c.note-call.result.1 c.note-call.ensures;
})
