use Rattle.std.proofs.Common.{◌≡◌, [], ◌∷◌, Some, ap, refl, sym, subst, ◌∙◌}
use Rattle.txcache_functions.specs.Program.{program}
use Rattle.txc_call_registry.specs.Activity.{begun, idle, running, WantsAnswer}
use Rattle.txc_call_registry.specs.Objects.{Objects, activity_of}
use Rattle.txc_call_registry.proofs.Offered.{here_after, asking_there, idle_there}
use Rattle.txc_uses.proofs.functions.activation.Goals as goal

pub begin-requires : goal.begin-requires
begin-requires c = record { idle = idle_there c.in_ok-registry.registry 0 c.in_ok-registry.ensures.idle (c.if-not-has.ensures.0 refl) }

-- the function asks a query first
pub resume-requires : goal.resume-requires
resume-requires c =
    let args = 7 ∷ [] in
    let was = idle_there c.in_ok-registry.registry 0 c.in_ok-registry.ensures.idle (c.if-not-has.ensures.0 refl) in
    let runs : activity_of c.begin.new.self 0 ≡ Some (running (begun args)) =
    ap (λ (os : Objects). activity_of os 0) c.in-Ok-Query.ensures.after ∙ here_after 0 c.in_ok-registry.registry idle (running (begun args)) was in
    record { asking = asking_there program c.begin.new.self 0 (begun args) runs (subst WantsAnswer (sym (c.in-Ok-Query.ensures.answer ∙ ap Some c.in-Ok-Query.field-0-is)) tt) }
