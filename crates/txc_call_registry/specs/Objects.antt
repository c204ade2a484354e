-- The objects of a registry in order, each with its number and its state.
use Rattle.std.specs.Prelude.{◌≡◌, ℕ, List, Option, Some, eqb, All, map, ◌<◌, length, slice_index, unwrap_or}
use Rattle.std.specs.Map.{lookup, set_value}
use Rattle.txc_app.specs.Eval.{Next}
use Rattle.txc_call_registry.specs.Activity.{Activation, Activity, activation_in, idle, next_of, running, WantsAnswer}

-- the objects, each by its number and what it does
abbrev pub Objects : Type 0
Objects = List (ℕ × Activity)

-- the state of the object of this number, if there is one
abbrev pub activity_of : Objects → ℕ → Option Activity
activity_of objects f = lookup (λ k. eqb k f) objects

-- the object of this number does this, and the others do what they did
abbrev pub with_activity : Objects → ℕ → Activity → Objects
with_activity objects f activity = set_value (λ k. eqb k f) objects activity

-- the activation that the object of this number runs
abbrev pub activation_of : Objects → ℕ → Activation
activation_of objects f = activation_in (unwrap_or (activity_of objects f) idle)

-- the object of this number runs an activation, which is not done
abbrev pub IsAskingAt : Next → Objects → ℕ → Type 0
IsAskingAt next objects f =
    (activity_of objects f ≡ Some (running (activation_of objects f)))
    × WantsAnswer (next_of (next.says f) (activation_of objects f))

-- no object runs an activation, or has a permit
abbrev pub AllIdle : Objects → Type 0
AllIdle objects = All (λ o. o.1 ≡ idle) objects

-- the numbers of the objects, in order
abbrev pub numbers_of : Objects → List ℕ
numbers_of objects = map (λ o. o.0) objects

-- the number is at two places
abbrev pub HasTwice : ℕ → List ℕ → Type 0
HasTwice f fs =
    (i : ℕ) × (j : ℕ) × (i < j) × (j < length fs) × (slice_index fs i ≡ f) × (slice_index fs j ≡ f)
