-- A call that a machine runs.
use Rattle.std.specs.Prelude.{◌≡◌, ◌⊎◌, ◌<◌, ℕ, List, [], Option, Some, Result, Ok, Err}
use Rattle.txc_tags.specs.Keys.{Call}
use Rattle.txc_db.specs.History.{History}
use Rattle.txc_app.specs.Eval.{Next}
use Rattle.txc_call_registry.specs.Objects.{Objects, AllIdle}
use Rattle.txc_call.specs.declared.error.CallError.{CallError}
use Rattle.txc_call.specs.declared.frame.Frame.{Frame}
use Rattle.txc_call.specs.declared.need.Need.{Need}
use Rattle.txc_call.specs.declared.need.Need.TheVariants as needs
use Rattle.txc_call.specs.declared.need.Outcome.{Outcome}
use Rattle.txc_call.specs.Needs.{InNeed, IsUnreached, NeedFits, NeedHolds}
use Rattle.txc_call.specs.MachineTurn.{Turn}

-- the call, how often all its activations asked, its open frames, innermost first, and what it needs while it
-- is open
pub record Calling : Type 0 where
  pub top : Call
  pub asked : ℕ
  pub frames : List Frame
  pub need : Option Need

-- a call that was just started
abbrev pub started : Call → Calling
started k = record { top = k; asked = 0; frames = []; need = Some (needs.Lookup k) }

-- no call is open, and all objects are idle
abbrev pub IsAtRest : Objects → Calling → Type 0
IsAtRest objects c = (c.frames ≡ []) × AllIdle objects

-- the frames wait for what is needed
abbrev pub IsCalling : Next → Objects → Calling → Type 0
IsCalling next objects c = NeedFits next objects c.top c.need c.frames

-- all answers so far are correct in the history
abbrev pub CallHolds : Next → History → Objects → Calling → Type 0
CallHolds next L objects c = NeedHolds next L objects c.need c.frames

-- the stamp is in all reaches of the call
abbrev pub InCall : ℕ → Calling → Type 0
InCall t c = InNeed t c.need c.frames

-- nothing that was given to the call has a reach
abbrev pub CallIsUnreached : Calling → Type 0
CallIsUnreached c = IsUnreached c.need c.frames

-- the call's state after a step, or its error
abbrev pub turn_after : {T : Type 0} → Result T CallError → Calling → Objects → Turn
turn_after (Ok done) c objects =
    Ok (record { frames = c.frames; asked = c.asked; need = c.need; objects = objects })
turn_after (Err error) c objects = Err error

-- the call is done, or it asked more often than so
abbrev pub GoesOn : ℕ → Calling → Type 0
GoesOn asked c = ((o : Outcome) × (c.need ≡ Some (needs.Value o))) ⊎ (asked < c.asked)
