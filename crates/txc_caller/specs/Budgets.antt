-- A budget of bytes for the values of a node.
use Rattle.std.specs.Prelude.{◌≡◌, ◌⊎◌, ◌-◌, ◌<◌, ◌≤◌, ℕ, Bool, true, nat_le, Option, Some, None}
use Rattle.txc_node.specs.Cache.{bytes_of}
use Rattle.txc_node.specs.declared.op.Op.TheVariants.{Trim}
use Rattle.txc_shared.specs.Nodes.{NodeValue, after_call}

-- the bytes of a node's values in all
abbrev pub node_bytes : NodeValue → ℕ
node_bytes n = bytes_of n.cache.entries

-- this number of bytes is within the budget; without one any number is
abbrev pub IsInBudget : Option ℕ → ℕ → Type 0
IsInBudget (Some budget) bytes = bytes ≤ budget
IsInBudget None bytes = Unit {0}

-- a value of this length is within the budget by itself
abbrev pub fits_alone : Option ℕ → ℕ → Bool
fits_alone (Some budget) len = nat_le len budget
fits_alone None len = true

-- the values have at most `most` bytes, and the node is as before; or they had more, and the node was trimmed
-- to that number
abbrev pub HasComeWithin : ℕ → NodeValue → NodeValue → Type 0
HasComeWithin most old new =
    ((node_bytes old ≤ most) × (new ≡ old)) ⊎ ((most < node_bytes old) × (new ≡ after_call old 0 (Trim most)))

-- The node has room for a value of this length: its own values are within the rest of the budget. Without a
-- budget it is as before.
abbrev pub HasMadeRoomFor : Option ℕ → ℕ → NodeValue → NodeValue → Type 0
HasMadeRoomFor (Some budget) len old new = HasComeWithin (budget - len) old new
HasMadeRoomFor None len old new = new ≡ old
