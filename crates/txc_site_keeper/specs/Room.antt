-- The room that is left in the histories of nodes.
use Rattle.std.specs.Prelude.{◌≡◌, ℕ, ◌+◌, List, length, Option, Some, None}
use Rattle.txc_stream.specs.Names.{Name, stored, unstored}
use Rattle.txc_node.specs.declared.record.Record.{Record}

-- the remaining room after these records, if they are stored
abbrev pub IsRoomLeft : Name → List Record → Option ℕ → Type 0
IsRoomLeft (stored cells) records (Some left) = left + length records ≡ length cells
IsRoomLeft (stored cells) records None = ⊥
IsRoomLeft (unstored number) records left = left ≡ None
