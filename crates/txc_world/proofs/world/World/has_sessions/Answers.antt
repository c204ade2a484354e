use Rattle.std.proofs.Common.{◌≡◌, ◌∙◌, length, subst, sym}
use Rattle.std.proofs.lemmas.List.{length-map}
use Rattle.txc_world.specs.Actors.{observed_at}
use Rattle.txc_world.specs.Worlds.{WorldValue}
use Rattle.txc_world.proofs.world.World.has_sessions.Goals as goal

pub returns : goal.returns
returns g c =
    subst (λ (w : WorldValue). length w.told.floors ≡ length w.told.actors) c.self.view_is
    (c.self.invariant.sessions ∙ sym (length-map c.self.inside.actors.items observed_at))
