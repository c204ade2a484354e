-- The arguments and results of the C calls, as the cache sees them.
use Rattle.std.specs.Prelude.{◌≡◌, ℕ, Bool, true, false, ◌&&◌, ◌==◌, nat_le, if◌then◌else◌, List, ◌++◌, take, drop, length, map, Option, Some, None}
use Rattle.std.specs.List.{list_all}
use Rattle.txc_stamp.specs.Interval.{Interval}
use Rattle.txc_stamp.specs.declared.stamp.TheConstants.{MOST_STAMP}
use Rattle.txc_tags.specs.declared.key.TheConstants.{LAST_FUNCTION, MAX_ARGS}
use Rattle.txc_tags.specs.declared.tag.Rows.{Rows}
use Rattle.txc_tags.specs.declared.tag.Rows.TheVariants.{All, Id, Group}
use Rattle.txc_tags.specs.declared.tag.Tag.{Tag}
use Rattle.txc_tags.specs.declared.tag.TheConstants.{LAST_TABLE}
use Rattle.txc_tags.specs.Keys.{Call}
use Rattle.txc_tags.specs.Tags.{set_of}
use Rattle.txc_node.specs.declared.counts.FunctionCounts.{FunctionCounts}
use Rattle.txc_node.specs.declared.entry.Entry.{Entry}
use Rattle.txc_node.specs.declared.node.TheConstants.{MAX_RECENT, MOST_CAPACITY}
use Rattle.txc_node.specs.declared.op.Op.{Op}
use Rattle.txc_node.specs.declared.op.Op.TheVariants.{Insert, Lookup, Event, Sweep}
use Rattle.txc_c_types.specs.declared.crossing.TxcKey.{TxcKey}
use Rattle.txc_c_types.specs.declared.crossing.TxcTag.{TxcTag}
use Rattle.txc_c_types.specs.declared.crossing.TxcReach.{TxcReach}
use Rattle.txc_c_types.specs.declared.crossing.TxcStored.{TxcStored}
use Rattle.txc_c_types.specs.declared.crossing.TxcCounts.{TxcCounts}

-- ---- from C

-- the call that a key names: its function, and the first `count` of its arguments
abbrev pub named_call : TxcKey → Call
named_call key = record { function = key.function; args = take key.count key.args }

-- there is such a function, and it has no more arguments than a call may have
abbrev pub is_call : TxcKey → Bool
is_call key = nat_le key.function LAST_FUNCTION && nat_le key.count MAX_ARGS

-- the rows of a tag's kind: 0 is all, 1 the id, 2 the group
abbrev pub rows_of : ℕ → ℕ → Rows
rows_of kind number = if kind == 0 then All else (if kind == 1 then Id number else Group number)

-- the tag that crosses
abbrev pub tag_of : TxcTag → Tag
tag_of tag = record { table = tag.table; rows = rows_of tag.kind tag.number }

-- there is such a table, and such a kind
abbrev pub is_tag : TxcTag → Bool
is_tag tag = nat_le tag.table LAST_TABLE && nat_le tag.kind 2

-- the reach that crosses
abbrev pub interval_of : TxcReach → Interval
interval_of reach = record { lo = reach.lo; known = reach.known; still = reach.is_still }

-- a caller may name such a stamp
abbrev pub is_stamp : ℕ → Bool
is_stamp number = nat_le number MOST_STAMP

-- a node may be made with this capacity, and for the tags of this many recent events
abbrev pub are_sizes : ℕ → ℕ → Bool
are_sizes capacity recent =
    (nat_le 1 capacity && nat_le capacity MOST_CAPACITY) && (nat_le 1 recent && nat_le recent MAX_RECENT)

-- ---- the step that the arguments of a call request; none if an argument is malformed

abbrev pub if_all : Bool → Op → Option Op
if_all true op = Some op
if_all false op = None

-- a lookup of the key from `lo` to `hi`
abbrev pub lookup_asked : TxcKey → ℕ → ℕ → Option Op
lookup_asked key lo hi = if_all (is_call key && (is_stamp lo && is_stamp hi)) (Lookup (named_call key) lo hi)

-- the entry of a key, a reach, tags and bytes
abbrev pub asked_entry : TxcKey → TxcReach → List TxcTag → List ℕ → Entry
asked_entry key reach tags bytes =
    record { key = named_call key; value = bytes; reach = interval_of reach; tags = set_of (map tag_of tags) }

-- each of these is of its kind
abbrev pub is_insertion : TxcKey → TxcReach → List TxcTag → Bool
is_insertion key reach tags =
    is_call key && (is_stamp reach.lo && (is_stamp reach.known && list_all is_tag tags))

-- an insertion of that entry
abbrev pub insert_asked : TxcKey → TxcReach → List TxcTag → List ℕ → Option Op
insert_asked key reach tags bytes =
    if_all (is_insertion key reach tags) (Insert (asked_entry key reach tags bytes))

-- the event of that stamp and these tags
abbrev pub event_asked : ℕ → List TxcTag → Option Op
event_asked stamp tags =
    if_all (is_stamp stamp && list_all is_tag tags) (Event stamp (set_of (map tag_of tags)))

-- a sweep up to that stamp
abbrev pub sweep_asked : ℕ → Option Op
sweep_asked horizon = if_all (is_stamp horizon) (Sweep horizon)

-- ---- to C

-- the buffer with the value at its beginning, if the value fits; otherwise unchanged
abbrev pub written_in : List ℕ → List ℕ → List ℕ
written_in value buffer =
    if nat_le (length value) (length buffer) then value ++ drop (length value) buffer else buffer

-- a reach as it crosses
abbrev pub crossing_reach : Interval → TxcReach
crossing_reach reach = record { lo = reach.lo; known = reach.known; is_still = reach.still }

-- the counts of a function as they cross
abbrev pub crossing_counts : FunctionCounts → TxcCounts
crossing_counts counts = record {
  lookups = counts.lookups;
  hits = counts.hits;
  stored = counts.stored;
  kept = counts.kept;
  evicted = counts.evicted;
}

-- the entry that was dropped is named by its key and its first stamp, if one was
abbrev pub IsEvicted : Option Entry → TxcStored → Type 0
IsEvicted None stored = stored.has_evicted ≡ false
IsEvicted (Some e) stored =
    (stored.has_evicted ≡ true) × (named_call stored.evicted ≡ e.key) × (stored.evicted_lo ≡ e.reach.lo)

-- the reach that was stored, and the entry that was dropped
pub record TellsStored (reach : Interval) (evicted : Option Entry) (stored : TxcStored) : Type 0 where
  pub reach_is : stored.reach ≡ crossing_reach reach
  pub evicted_is : IsEvicted evicted stored
