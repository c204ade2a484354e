use Rattle.std.proofs.Common.{◌≡◌, ◌∙◌, length, subst, sym}
use Rattle.std.proofs.lemmas.List.{length-map}
use Rattle.txc_world.specs.Actors.{observed_at}
use Rattle.txc_world.specs.Worlds.{WorldValue}
use Rattle.txc_world.proofs.world.World.actor_count.Goals as goal

pub returns : goal.returns
returns g c =
    subst (λ (w : WorldValue). c.len.result ≡ length w.told.actors) c.self.view_is
    (c.len.ensures ∙ c.self.inside.actors.ok.0 ∙ sym (length-map c.self.inside.actors.items observed_at))
