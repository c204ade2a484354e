-- The bytes of values.
use Rattle.std.specs.Prelude.{ℕ, List}
use Rattle.txc_node.specs.declared.value.Held.{Held}
use Rattle.txc_node.specs.declared.value.Held.TheVariants.{Own, Shared}

-- a value's own bytes, or those that it shares with its copies
abbrev pub bytes_held : Held → List ℕ
bytes_held (Own bytes) = bytes.items
bytes_held (Shared bytes) = bytes.value.items
