-- The numbers of refusals, and of results that are written to a buffer.
use Rattle.std.specs.Prelude.{ℕ, List, length, nat_le, if◌then◌else◌}
use Rattle.txc_node.specs.declared.refusal.Refusal.{Refusal}
use Rattle.txc_node.specs.declared.refusal.Refusal.TheVariants as refusals
use Rattle.txc_c_types.specs.declared.numbers.TheConstants.{NO_ROOM, EMPTY_RANGE, BAD_REACH, OUT_OF_ORDER, VALUE_TOO_LONG, NO_MEMORY}

-- the number of a refusal
abbrev pub refusal_number : Refusal → ℕ
refusal_number refusals.EmptyRange = EMPTY_RANGE
refusal_number refusals.BadReach = BAD_REACH
refusal_number (refusals.OutOfOrder processed) = OUT_OF_ORDER
refusal_number refusals.ValueTooLong = VALUE_TOO_LONG
refusal_number refusals.Memory = NO_MEMORY

-- the number if the bytes fit in the buffer, otherwise `NO_ROOM`
abbrev pub bytes_number : ℕ → ℕ → List ℕ → ℕ
bytes_number number room bytes = if nat_le (length bytes) room then number else NO_ROOM
