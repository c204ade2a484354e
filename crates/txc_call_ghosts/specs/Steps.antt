-- The objects after a step that no registry made.
use Rattle.std.specs.Prelude.{ℕ, zero, suc, List, [], ◌∷◌, Option, Some, None, map}
use Rattle.txc_app.specs.declared.ask.Ask.{Ask}
use Rattle.txc_call_registry.specs.Activity.{idle}
use Rattle.txc_call_registry.specs.Objects.{Objects}
use Rattle.txc_call.specs.declared.frame.Frame.{Frame}
use Rattle.txc_call.specs.declared.need.Need.{Need}
use Rattle.txc_call.specs.CallMachine.{Calling}
use Rattle.txc_call.specs.CallSteps.{objects_after}

-- the objects after the function of this need asked this
abbrev pub objects_after_need : Objects → List Frame → Option Need → Ask → Objects
objects_after_need objects frames None ask = objects
objects_after_need objects frames (Some need) ask = objects_after objects frames need ask

-- .. after the function that the call needs asked this
abbrev pub objects_after_ask : Objects → Calling → Ask → Objects
objects_after_ask objects call ask = objects_after_need objects call.frames call.need ask

-- an object for each function below this number, of which none runs
abbrev pub idle_below : ℕ → Objects
idle_below zero = []
idle_below (suc n) = (n, idle) ∷ idle_below n

-- the same objects, of which none runs
abbrev pub idled : Objects → Objects
idled objects = map (λ o. (o.0, idle)) objects
