-- The state of an object with this content.
use Rattle.std.specs.Prelude.{Option, Some, None}
use Rattle.txc_call_registry.specs.Activity.{Activity, idle, running}
use Rattle.txc_call_definition.specs.declared.held.Held.{Held}

abbrev pub activity_with : Option Held → Activity
activity_with None = idle
activity_with (Some held) = running (record { args = held.args.items; answers = held.answers.items })
