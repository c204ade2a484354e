use Rattle.std.proofs.Common.{◌≡◌, ◌<◌, ◌≤◌, Option, Some, length, refl, ap, sym, subst, arith, ◌∙◌, slice_get, slice_set}
use Rattle.std.proofs.lemmas.Option.{slice_get_read}
use Rattle.txc_world.specs.declared.actor.Actor.{Actor}
use Rattle.txc_world.specs.ActorStep.{IsActed}
use Rattle.txc_world.specs.StepEffects.{ActTransition}
use Rattle.txc_world.specs.Actors.{IsActor, IsActorThere}
use Rattle.txc_world.specs.ActorValues.{actor_value}
use Rattle.txc_world.specs.Ports.{whole_of, PortsValue}
use Rattle.txc_world.proofs.MemberLemmas.{all_get}
use Rattle.txc_world.proofs.acting.act_at.Goals as goal

pub returns-in-Some : goal.returns-in-Some
returns-in-Some g c =
    let acts = c.in-Some.ensures.acts c.args.renew_after in
    record {
      was = acts.was;
      is = acts.is;
      there = slice_get_read c.args.actors.now.items _ c.args.number c.index_mut-slot.result.now refl (omega (arith, c.requires.number, c.args.actors.now.ok.0)) c.index_mut-slot.ensures.value
          ∙ ap Some acts.there;
      others = ap (λ (a : Option (Actor g.row.A.Denot g.row.C.Denot)). slice_set c.args.actors.now.items c.args.number a) acts.left;
      acted = acts.acted;
      transition = acts.transition;
    }

-- nothing was done there, so that the actor which is taken out is the one that stood there
pub act_whole-actor-requires : goal.act_whole-actor-requires
act_whole-actor-requires g c =
    let next = g.A.App.next in
    let p = c.args.ports.now in
    let actor = c.in-Some-take.actor in
    let same : c.call_there.new.ports ≡ p = c.in_default.ensures.unchanged.0 in
    let lies : slice_get c.args.actors.now.items c.args.number ≡ Some (Some actor) =
    slice_get_read c.args.actors.now.items _ c.args.number c.index_mut-slot.result.now refl (omega (arith, c.requires.number, c.args.actors.now.ok.0)) c.index_mut-slot.ensures.value
    ∙ ap Some (sym c.in_default.ensures.unchanged.1 ∙ sym c.take.ensures.value ∙ c.in-Some-take.is) in
    record {
      own = subst (λ (v : PortsValue). c.args.number < v.actors) (sym same) c.requires.own;
      nodes = subst (λ (v : PortsValue). 1 ≤ length v.nodes) (sym same) c.requires.nodes;
      fits = subst (λ (v : PortsValue). IsActor next (whole_of v) (length v.nodes) actor) (sym same)
          (all_get (IsActorThere next (whole_of p) (length p.nodes)) c.args.actors.now.items c.args.number (Some actor) c.requires.fits lies);
    }

pub returns : goal.returns
returns g c =
    let next = g.A.App.next in
    let p = c.args.ports.now in
    let actor = c.in-Some-take.actor in
    let done = c.act_whole-actor in
    let same : c.call_there.new.ports ≡ p = c.in_default.ensures.unchanged.0 in
    record {
      was = actor;
      is = done.result.0;
      there = slice_get_read c.args.actors.now.items _ c.args.number c.index_mut-slot.result.now refl (omega (arith, c.requires.number, c.args.actors.now.ok.0)) c.index_mut-slot.ensures.value
          ∙ ap Some (sym c.in_default.ensures.unchanged.1 ∙ sym c.take.ensures.value ∙ c.in-Some-take.is);
      others = refl;
      acted = subst (λ (v : PortsValue). IsActed next c.args.act.now v done.new.ports actor done.result.0 done.result.1) same done.ensures.acted;
      transition = subst (λ (v : PortsValue). ActTransition next c.args.renew_after c.args.number c.args.act.now v done.new.ports (actor_value actor) (actor_value done.result.0) done.result.1) same done.ensures.transition;
    }
