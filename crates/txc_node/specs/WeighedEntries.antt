-- Entries by their places, and the bytes of their values. Only proofs need it.
use Rattle.std.specs.Prelude.{◌≡◌, ℕ, ◌≤◌, Option, Some, None, length}
use Rattle.std.specs.List.{AllByRecursion}
use Rattle.lru.specs.LruCache.{LruCache}
use Rattle.txc_node.specs.declared.node.TheConstants.{MOST_CAPACITY}
use Rattle.txc_node.specs.declared.value.TheConstants.{MOST_VALUE_LEN}
use Rattle.txc_node.specs.declared.place.Place.{Place}
use Rattle.txc_node.specs.declared.stored.Stored.{Stored}
use Rattle.txc_node.specs.Cache.{bytes_of}
use Rattle.txc_node.specs.IndexedEntries.{entries_of}

-- the bytes of the value of a pair, if there is one
abbrev pub value_len_in : Option (Place × Stored) → ℕ
value_len_in None = 0
value_len_in (Some p) = length p.1.value

-- the values of the entries have `bytes` bytes in all; each has at most the limit of any value, and the
-- capacity is at most that of any node
pub record IsWeighed (c : LruCache Place Stored) (bytes : ℕ) : Type 0 where
  pub sum : bytes ≡ bytes_of (entries_of c.entries)
  pub short : AllByRecursion (λ p. length p.1.value ≤ MOST_VALUE_LEN) c.entries
  pub few : c.cap ≤ MOST_CAPACITY
