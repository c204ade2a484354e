-- Functions whose asks are known from their arguments.
use Rattle.std.specs.Prelude.{ℕ, List, [], ◌∷◌, length, slice_get, Option, Some, None, unwrap_or}
use Rattle.txc_app.specs.declared.ask.Ask.{Ask}
use Rattle.txc_app.specs.declared.ask.Ask.TheVariants.{Done}
use Rattle.txc_app.specs.declared.ask.Answer.{Answer}
use Rattle.txc_call_registry.specs.Activity.{Says}

-- the request at the place of the number of answers, and after the last one the value; none if there are no
-- requests
abbrev pub ask_or_value : List Ask → ℕ → List ℕ → Option Ask
ask_or_value [] answered value = None
ask_or_value (ask ∷ asks) answered value = Some (unwrap_or (slice_get (ask ∷ asks) answered) (Done value))

-- it makes the requests of its arguments, in turn, and then returns its value; it does not take arguments
-- without requests
abbrev pub in_turn : (List ℕ → List Ask) → (List ℕ → List Answer → List ℕ) → Says
in_turn asks gives args answers = ask_or_value (asks args) (length answers) (gives args answers)
