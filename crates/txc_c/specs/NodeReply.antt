-- The outputs of a call for its caller, by the reply.
use Rattle.std.specs.Prelude.{◌≡◌, ℕ, List, length, Option, Some, None}
use Rattle.txc_node.specs.declared.value.TheConstants.{MOST_VALUE_LEN}
use Rattle.txc_node.specs.declared.hit.HitValue.{HitValue}
use Rattle.txc_node.specs.declared.node.Inserted.TheVariants.{Stored}
use Rattle.txc_node.specs.declared.op.Op.{Op}
use Rattle.txc_node.specs.declared.reply.Reply.{Reply}
use Rattle.txc_node.specs.declared.reply.Reply.TheVariants as replies
use Rattle.txc_node.specs.Steps.{reply_to}
use Rattle.txc_c.specs.CountedNode.{Counted}
use Rattle.txc_c_types.specs.CacheViews.{crossing_reach, written_in, TellsStored}
use Rattle.txc_c_types.specs.declared.crossing.TxcReach.{TxcReach}
use Rattle.txc_c_types.specs.declared.crossing.TxcStored.{TxcStored}

-- the reply to a call of a handle, if the call makes a step
abbrev pub call_reply : Option Counted → Option Op → Option (Reply HitValue)
call_reply None asked = None
call_reply (Some n) None = None
call_reply (Some n) (Some op) = Some (reply_to MOST_VALUE_LEN n.cache op)

-- ---- of a hit; any other reply writes nothing

-- its reach
abbrev pub reach_told : Option (Reply HitValue) → TxcReach → TxcReach
reach_told (Some (replies.Hit shown)) old = crossing_reach shown.reach
reach_told _ old = old

-- the length of its value
abbrev pub len_told : Option (Reply HitValue) → ℕ → ℕ
len_told (Some (replies.Hit shown)) old = length shown.value
len_told _ old = old

-- its value
abbrev pub bytes_told : Option (Reply HitValue) → List ℕ → List ℕ
bytes_told (Some (replies.Hit shown)) old = written_in shown.value old
bytes_told _ old = old

-- ---- of the others

-- of an entry that was stored, its reach and the entry dropped for it; any other reply writes nothing
abbrev pub StoredTold : Option (Reply HitValue) → TxcStored → TxcStored → Type 0
StoredTold (Some (replies.Inserted (Stored reach evicted))) old new = TellsStored reach evicted new
StoredTold _ old new = new ≡ old

-- of an event, the number of entries that it closed; any other reply writes nothing
abbrev pub closed_told : Option (Reply HitValue) → ℕ → ℕ
closed_told (Some (replies.Closed count)) old = count
closed_told _ old = old

-- of a sweep, the number of entries that it dropped; any other reply writes nothing
abbrev pub swept_told : Option (Reply HitValue) → ℕ → ℕ
swept_told (Some (replies.Swept count)) old = count
swept_told _ old = old

-- of a trim, the number of entries that it dropped; any other reply writes nothing
abbrev pub trimmed_told : Option (Reply HitValue) → ℕ → ℕ
trimmed_told (Some (replies.Trimmed count)) old = count
trimmed_told _ old = old

-- the stamp of the last event that the node took; without a node nothing is written
abbrev pub processed_told : Option Counted → ℕ → ℕ
processed_told None old = old
processed_told (Some n) old = n.cache.processed
