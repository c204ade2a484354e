-- What a handle owns.
use mathlib.Core.Bool.{Bool, true, false}
use base.Fml.{Fml}
use base.Shift.{Keyless}
use Rattle.txc_rows.specs.HandleOwnership.{when}

-- an owned formula that names no key names none behind a handle either
pub when_keyless : (is_full : Bool) (owned : Fml) → Keyless owned → Keyless (when is_full owned)
when_keyless true owned keyless = keyless
when_keyless false owned keyless = tt
