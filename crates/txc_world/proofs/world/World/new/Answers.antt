use Rattle.std.proofs.Common.{ℕ, refl, sym, ◌∙◌, ap, length, subst, Some}
use Rattle.std.proofs.lemmas.List.{length-map}
use Rattle.std.proofs.lemmas.Simd.{map-map}
use Rattle.std.proofs.lemmas.List.Elements.{All-map}
use Rattle.txc_world.specs.declared.actor.Actor.TheVariants.{Idle}
use Rattle.txc_world.specs.KeeperAtPorts.{stamps_of_pins}
use Rattle.txc_world.specs.NewWorld.{AreNewPorts}
use Rattle.txc_world.specs.Ports.{whole_of}
use Rattle.txc_world.specs.Actors.{observed_at, IsActorThere}
use Rattle.txc_world.specs.ActorValues.{actor_at}
use Rattle.txc_world.proofs.Balancing.{new_balanced}
use Rattle.txc_world.proofs.MakingLemmas.{memory_is_wanting}
use Rattle.txc_world.proofs.world.World.new.Goals as goal

pub invariant_of-result : goal.invariant_of-result
invariant_of-result g c = record {
  nodes = c.in_ok-ports.ensures.new.count;
  some = c.requires.nodes;
  passes = ap length c.in_ok-actors.ensures ∙ length-map c.args.registries.items (λ r. Some (Idle r)) ∙ sym (c.len-count.ensures ∙ c.args.registries.ok.0) ∙ sym c.in_ok-ports.ensures.new.actors_are;
  sessions = ap length c.in_ok-sessions.ensures ∙ length-map {B = ℕ} c.deref.result.now (λ r. 0) ∙ ap length c.deref.ensures.value
      ∙ sym (ap length c.in_ok-actors.ensures ∙ length-map c.args.registries.items (λ r. Some (Idle r)));
  there = rw c.in_ok-actors.ensures (All-map (IsActorThere g.A.App.next (whole_of c.in_ok-ports.ports) c.args.settings.nodes) (λ r. Some (Idle r)) c.args.registries.items c.requires.all_idle);
}

pub returns-clause-settings : goal.returns-clause-settings
returns-clause-settings g c = refl

pub returns-clause-history : goal.returns-clause-history
returns-clause-history g c = c.in_ok-ports.ensures.new.history

pub returns-clause-spare : goal.returns-clause-spare
returns-clause-spare g c = ap stamps_of_pins c.in_ok-ports.ensures.new.spare

pub returns-clause-floors : goal.returns-clause-floors
returns-clause-floors g c = rw c.deref.ensures.value at c.in_ok-sessions.ensures

pub returns-clause-ports : goal.returns-clause-ports
returns-clause-ports g c = subst (λ (n : ℕ). AreNewPorts c.args.settings n c.in_ok-ports.ports) c.len-count.ensures c.in_ok-ports.ensures.new

pub returns-clause-actors : goal.returns-clause-actors
returns-clause-actors g c = rw c.in_ok-actors.ensures (map-map observed_at (λ r. Some (Idle r)) c.args.registries.items)

pub returns-clause-idle : goal.returns-clause-idle
returns-clause-idle g c = rw c.in_ok-actors.ensures (map-map actor_at (λ r. Some (Idle r)) c.args.registries.items)

pub returns-clause-balanced : goal.returns-clause-balanced
returns-clause-balanced g c =
    new_balanced (λ r. Some (Idle r)) (λ r. refl) c.args.settings c.in_ok-ports.ports c.in_ok-sessions.sessions.items c.in_ok-actors.actors.items c.args.registries.items
    c.in_ok-ports.ensures.new.holds c.in_ok-ports.ensures.new.entries c.in_ok-ports.ensures.new.spare c.in_ok-actors.ensures

pub returns-in_err-sessions-clause-refused : goal.returns-in_err-sessions-clause-refused
returns-in_err-sessions-clause-refused g c = memory_is_wanting c.from_residual.result c.from_residual.ensures.1

pub returns-in_err-actors-clause-refused : goal.returns-in_err-actors-clause-refused
returns-in_err-actors-clause-refused g c = memory_is_wanting c.from_residual-in_err-actors.result c.from_residual-in_err-actors.ensures.1
