-- The objects keep their numbers.
use Rattle.std.proofs.Common.{◌≡◌, ℕ, List, [], ◌∷◌, Option, Some, None, refl, ap, ◌∙◌}
use Rattle.txc_app.specs.declared.ask.Ask.{Ask}
use Rattle.txc_app.specs.declared.ask.Ask.TheVariants as asks
use Rattle.txc_call_registry.specs.Activity.{answered, begun, idle, running}
use Rattle.txc_call_registry.specs.Objects.{Objects, activation_of, numbers_of}
use Rattle.txc_call_registry.proofs.Offered.{numbers_stay}
use Rattle.txc_call.specs.declared.frame.Frame.{Frame}
use Rattle.txc_call.specs.declared.need.Need.{Need}
use Rattle.txc_call.specs.declared.need.Need.TheVariants as needs
use Rattle.txc_call.specs.CallSteps.{needed_function, with_ask, with_resumed}
use Rattle.txc_call_ghosts.specs.Steps.{idled, objects_after_need}

asked_numbers : (objects : Objects) (f : ℕ) (ask : Ask) → numbers_of (with_ask objects f ask) ≡ numbers_of objects
asked_numbers objects f (asks.Query q) = refl
asked_numbers objects f (asks.Call k) = refl
asked_numbers objects f (asks.Done bytes) = numbers_stay objects f idle

pub resumed_numbers : (objects : Objects) (frames : List Frame) (need : Need) → numbers_of (with_resumed objects frames need) ≡ numbers_of objects
resumed_numbers objects frames (needs.Begin k) = numbers_stay objects k.function (running (begun k.args))
resumed_numbers objects (frame ∷ frames) (needs.Resume x) =
    numbers_stay objects frame.key.function (running (answered (activation_of objects frame.key.function) x.answer))
resumed_numbers objects frames need = refl

pub numbers_after : (objects : Objects) (frames : List Frame) (need : Option Need) (ask : Ask) → numbers_of (objects_after_need objects frames need ask) ≡ numbers_of objects
numbers_after objects frames None ask = refl
numbers_after objects frames (Some need) ask =
    asked_numbers (with_resumed objects frames need) (needed_function frames need) ask ∙ resumed_numbers objects frames need

pub idled_numbers : (objects : Objects) → numbers_of (idled objects) ≡ numbers_of objects
idled_numbers [] = refl
idled_numbers (o ∷ os) = ap (λ (ns : List ℕ). o.0 ∷ ns) (idled_numbers os)
