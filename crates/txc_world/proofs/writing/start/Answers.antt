use Rattle.std.proofs.Common.{◌≡◌, Some, Err, [], ap, refl, subst, sym, ◌∙◌}
use Rattle.std.specs.Prelude.{IsNone, IsSome}
use Rattle.txc_tags.specs.Keys.{Call}
use Rattle.txc_call_registry.specs.Objects.{activity_of}
use Rattle.txc_call.specs.CallMachine.{started}
use Rattle.txc_call.specs.declared.error.CallError.TheVariants.{NoFunction}
use Rattle.txc_txn_ports.specs.declared.error.TxnError.TheVariants.{Call as CallRefused}
use Rattle.txc_txn_ports.specs.declared.turn.Turn.TheVariants as turns
use Rattle.txc_txn_rw.specs.Transitions.{standing_of, RwCallTransition}
use Rattle.txc_world.specs.ActorValues.{call_at_turn, opened, writes}
use Rattle.txc_txn_rw.specs.RwCore.{RwValue}
use Rattle.txc_world.specs.declared.reply.Reply.TheVariants.{Started}
use Rattle.txc_world.specs.Actors.{told_answers, IsRwCall}
use Rattle.txc_world.proofs.WritingLemmas.{answers_at_start, told_at_start, writing_same}
use Rattle.txc_world.proofs.Losing.{rw_start_not_lost}
use Rattle.txc_world.proofs.WritingCounts.{counts_based}
use Rattle.txc_world.proofs.PortsLemmas.{keeps_itself}
use Rattle.txc_world.proofs.writing.start.Goals as goal

pub returns-clause-transition : goal.returns-clause-transition
returns-clause-transition g c = rw c.requires.no_call (
  refl,
  record {
    core = c.start-turn.new.self;
    objects = c.start-turn.new.registry;
    turn = c.start-turn.result;
    actor_is = ap (λ (k : Call). writes (record { core = c.start-turn.new.self; objects = c.start-turn.new.registry; call = Some (call_at_turn k c.start-turn.result) })) c.copy-2.ensures;
    transition = λ there s.
        subst (λ (k : Call). RwCallTransition g.A.App.next s (standing_of (started k) c.args.current.registry) [] c.start-turn.new.self c.start-turn.new.registry c.start-turn.result)
        c.copy.ensures
        (c.start-turn.ensures.transition (subst (λ (k : Call). IsSome (activity_of c.args.current.registry k.function)) (sym c.copy.ensures) there) s);
    missing = λ gone.
        subst (λ (k : Call). c.start-turn.result ≡ turns.Ended (Err (CallRefused (NoFunction k.function)))) c.copy.ensures
        (c.start-turn.ensures.missing (subst (λ (k : Call). IsNone (activity_of c.args.current.registry k.function)) (sym c.copy.ensures) gone));
    same = c.start-turn.ensures.same;
  },
)

pub returns-clause-acted : goal.returns-clause-acted
returns-clause-acted g c =
    let old = c.args.current.core in
    let new = c.start-turn.new.self in
    let holds = c.start-turn.ensures.holds c.args.whole.now.database.history c.requires.fits.holds in
    let call : IsRwCall new (opened c.copy-2.result c.start-turn.result) = record {
      turn = c.start-turn.ensures.turn;
      key = λ asks. c.start-turn.ensures.begins asks ∙ (c.copy.ensures ∙ sym c.copy-2.ensures);
      answers = answers_at_start old.answers new.answers c.copy.result c.copy-2.result c.start-turn.result
          (c.copy.ensures ∙ sym c.copy-2.ensures) c.start-turn.ensures.answers;
      not_lost = rw_start_not_lost ⊥ g.A.App.next [] c.copy.result c.args.current.registry new c.start-turn.new.registry c.start-turn.result
          (λ there. c.start-turn.ensures.transition there []) c.start-turn.ensures.missing;
    } in
    let told = writing_same _ _ _ _ _ _ _ _ (ap (λ (v : RwValue). v.base) c.start-turn.ensures.same) (ap Some c.copy-2.ensures)
    (told_at_start old.answers new.answers c.copy.result c.start-turn.result c.start-turn.ensures.answers
    ∙ ap (λ call. told_answers call old.answers) (sym c.requires.no_call))
    (ap (λ (v : RwValue). v.changes) c.start-turn.ensures.same) in
    let counts = counts_based c.args.whole.now c.args.whole.now old.base new.base Started refl (ap (λ (v : RwValue). v.base) c.start-turn.ensures.same) tt in
    record {
      fits = record { fits = c.start-turn.ensures.fits; holds = holds; call = call };
      told = told;
      history = refl;
      due = rw c.requires.no_call refl;
      explained = tt;
      keeps = keeps_itself c.args.whole.now;
      spare = refl;
      counts = counts;
    }
