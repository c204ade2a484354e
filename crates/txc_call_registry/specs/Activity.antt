-- The state of an object, and its next step.
use Rattle.std.specs.Prelude.{◌≡◌, ℕ, List, [], ◌∷◌, ◌++◌, Option, Some, None, unwrap_or}
use Rattle.txc_app.specs.declared.ask.Ask.{Ask}
use Rattle.txc_app.specs.declared.ask.Ask.TheVariants.{Query, Call, Done}
use Rattle.txc_app.specs.declared.ask.Answer.{Answer}

-- the next step of a function, by its arguments and the answers so far; none if it does not take the arguments
abbrev pub Says : Type 0
Says = List ℕ → List Answer → Option Ask

-- an activation of a function: its arguments, and the answers so far
pub record Activation : Type 0 where
  pub args : List ℕ
  pub answers : List Answer

-- the state of an object: the activation that it runs, if it runs one, and the number of permits that it has
pub record Activity : Type 0 where
  pub activation : Option Activation
  pub permits : ℕ

-- no activation, and no permit
abbrev pub idle : Activity
idle = record { activation = None; permits = 0 }

-- one activation, with one permit
abbrev pub running : Activation → Activity
running a = record { activation = Some a; permits = 1 }

-- an activation with no answer yet
abbrev pub begun : List ℕ → Activation
begun args = record { args = args; answers = [] }

-- an activation with one answer more
abbrev pub answered : Activation → Answer → Activation
answered a x = record { args = a.args; answers = a.answers ++ x ∷ [] }

-- the running activation; if there is none, one without arguments
abbrev pub activation_in : Activity → Activation
activation_in activity = unwrap_or activity.activation (begun [])

-- the next step of an activation
abbrev pub next_of : Says → Activation → Option Ask
next_of says a = says a.args a.answers

-- it asks for an answer
abbrev pub WantsAnswer : Option Ask → Type 0
WantsAnswer (Some (Query q)) = Unit {0}
WantsAnswer (Some (Call k)) = Unit {0}
WantsAnswer (Some (Done bytes)) = ⊥
WantsAnswer None = ⊥

-- an activation runs, and is not done
abbrev pub IsAsking : Says → Activity → Type 0
IsAsking says activity =
    (activity ≡ running (activation_in activity)) × WantsAnswer (next_of says (activation_in activity))
