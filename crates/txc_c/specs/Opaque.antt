-- The functions of a caller in C.
use Rattle.std.specs.Prelude.{ℕ, List, [], Option, Some}
use Rattle.txc_node.specs.declared.value.TheConstants.{MOST_VALUE_LEN}
use Rattle.txc_app.specs.declared.app.Limits.{Limits}
use Rattle.txc_app.specs.declared.app.TheConstants.{MOST_ASKS}
use Rattle.txc_app.specs.declared.ask.Ask.{Ask}
use Rattle.txc_app.specs.declared.ask.Ask.TheVariants.{Done}
use Rattle.txc_app.specs.declared.ask.Answer.{Answer}
use Rattle.txc_app.specs.Eval.{Next}

-- The asks of any functions. No proof uses this body, so each theorem holds for every other body too.
pub opaque_asks : ℕ → List ℕ → List Answer → Option Ask
opaque_asks function args answers = Some (Done [])

-- their limits: the most bytes of a value and the most asks of an activation that any application may state
abbrev pub caller_limits : Limits
caller_limits = record { value = MOST_VALUE_LEN; asks = MOST_ASKS }

-- the meaning of the functions, within these limits
abbrev pub opaque_next : Next
opaque_next = record { says = opaque_asks; limits = caller_limits }
