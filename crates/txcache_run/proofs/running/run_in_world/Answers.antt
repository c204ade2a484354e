use Rattle.std.proofs.Common.{arith, inr, ◌≡◌, ◌∙◌, ap, subst, ℕ, length, map}
use Rattle.txc_call_registry.specs.Objects.{Objects}
use Rattle.txc_world.specs.ActorValues.{resting}
use Rattle.txc_world.specs.NewWorld.{AreNewPorts}
use Rattle.txc_world.specs.Observation.{idle}
use Rattle.txc_world.specs.declared.settings.WorldSettings.{WorldSettings}
use Rattle.txcache_run.proofs.running.run_in_world.Goals as goal

pub returns-in-Ok-new : goal.returns-in-Ok-new
returns-in-Ok-new g c =
    let made = c.in-Ok-new.ensures in
    let same = c.into_registries-registries.ensures in
    let ports = c.in-Ok-new.world.ports in
    let counted : c.into_registries-registries.result.len ≡ length c.in-Ok.staff.registries =
    omega (arith, c.into_registries-registries.result.ok.0, ap length same) in
    inr (
      c.in-Ok.staff,
      c.in-Ok-new.world,
      c.run_world.new.world,
      c.in-Ok.ensures,
      record {
        settings_are = made.settings ∙ c.world_settings.ensures;
        history = made.history;
        spare = made.spare;
        floors = made.floors ∙ ap (map (λ (objects : Objects). 0)) same;
        observed = made.actors ∙ ap (map (λ (objects : Objects). idle)) same;
        balanced = made.balanced;
        ports = subst (λ (s : WorldSettings). AreNewPorts s (length c.in-Ok.staff.registries) ports) c.world_settings.ensures
            (subst (λ (n : ℕ). AreNewPorts c.world_settings.result n ports) counted made.ports);
        actors = made.idle ∙ ap (map (λ (objects : Objects). resting objects)) same;
      },
      c.run_world.ensures.after,
      c.run_world.ensures.closed,
    )
