-- Pin sets worked by hand, over a history that was: stamp 2 was pinned at 1000, when the group 2 had an a,
-- and stamp 4 at 2000, when it had an a and a b.
use Rattle.std.specs.Prelude.{ℕ, false, [], ◌∷◌, Some, None}
use Rattle.txc_stamp.specs.Interval.{Interval}
use Rattle.txc_tags.specs.Tags.{group_tag}
use Rattle.txc_tags.specs.Keys.{Call}
use Rattle.txc_rows.specs.declared.query.Query.TheVariants.{ById}
use Rattle.txc_db.specs.WorkedHistory.{worked}
use Rattle.txc_cushion.specs.declared.pin.Pin.{Pin}
use Rattle.txc_pinset.specs.Members.{PinSetValue, begun_pin_set, narrowed}
use Rattle.txc_app.specs.declared.ask.Answer.TheVariants as answers
use Rattle.txcache_functions.specs.Program.{program, call_of}
use Rattle.txc_call_registry.specs.Activity.{running}
use Rattle.txc_call_registry.specs.Objects.{Objects}
use Rattle.txc_call.specs.declared.frame.Frame.{Frame}
use Rattle.txc_call.specs.declared.need.Need.TheVariants as needs
use Rattle.txc_call.specs.CallMachine.{Calling}
use Rattle.txc_txn_ports.specs.declared.bounds.Bounds.{Bounds}
use Rattle.txc_txn_ports.specs.declared.recorded.Recorded.{Recorded}
use Rattle.txc_txn.specs.Meaning.{PinSetInvariant}

abbrev pub older_pin : Pin
older_pin = record { stamp = 2; moment = 1000 }

abbrev pub newer_pin : Pin
newer_pin = record { stamp = 4; moment = 2000 }

-- both pins, and the present
abbrev pub both_pins : PinSetValue
both_pins = begun_pin_set (newer_pin ∷ older_pin ∷ [])

-- at 2500, at most this many milliseconds old
abbrev pub within_ms : ℕ → Bounds
within_ms staleness = record { now = 2500; staleness = staleness; at_least = 0 }

-- the bodies of the group 2
abbrev pub bodies : Call
bodies = call_of 1 (2 ∷ [])

-- no call is open
abbrev pub at_rest : Calling
at_rest = record { top = bodies; asked = 0; frames = []; need = None }

-- an a
abbrev pub an_a : Recorded
an_a = record { key = bodies; value = 97 ∷ [] }

-- the stamps at which the bodies of the group are an a
abbrev pub while_a : Interval
while_a = record { lo = 1; known = 2; still = false }

-- the bodies of the group 2 and the body at 9, once the bodies were found to be an a
abbrev pub bodies_and_9 : Call
bodies_and_9 = call_of 2 (2 ∷ 9 ∷ [])

abbrev pub runs_it : Objects
runs_it = (2, running (record { args = 2 ∷ 9 ∷ []; answers = answers.Value (97 ∷ []) ∷ [] })) ∷ []

abbrev pub frame_over : Interval → Frame
frame_over reach = record { key = bodies_and_9; answers = 1; reach = Some reach; tags = group_tag 1 2 ∷ [] }

-- it asks for the body at 9 next
abbrev pub open_over : Interval → Calling
open_over reach =
    record {
      top = bodies_and_9;
      asked = 2;
      frames = frame_over reach
          ∷ [];
      need = Some (needs.Query (ById 1 9));
    }

-- The correct pin sets: with no recorded result, those of fresh enough pins; with a recorded value, those at
-- which it is correct. With an open frame, those in its reach, if its answers are correct on all of it.
pub record WorkedMeanings : Type 0 where
  pub fresh : PinSetInvariant program worked (within_ms 1500) both_pins [] [] at_rest
  pub too_old : ¬ (PinSetInvariant program worked (within_ms 1499) both_pins [] [] at_rest)
  pub recorded : PinSetInvariant program worked (within_ms 1500) (narrowed while_a both_pins) (an_a ∷ []) [] at_rest
  pub too_new : ¬ (PinSetInvariant program worked (within_ms 1500) (record {
    members = newer_pin
        ∷ [];
    has_present = false;
  }) (an_a ∷ []) [] at_rest)
  pub open_frame : PinSetInvariant program worked (within_ms 1500) (narrowed while_a both_pins) [] runs_it
      (open_over while_a)
  pub outside : ¬ (PinSetInvariant program worked (within_ms 1500) (record {
    members = newer_pin ∷ older_pin
        ∷ [];
    has_present = false;
  }) [] runs_it (open_over while_a))
  pub too_wide : ¬ (PinSetInvariant program worked (within_ms 1500) (narrowed while_a both_pins) [] runs_it
      (open_over (record { lo = 1; known = 3; still = false })))
  pub with_present : ¬ (PinSetInvariant program worked (within_ms 1500) both_pins [] runs_it (open_over while_a))
