-- The versioned cache, and its steps: a lookup, an insertion, an event, a sweep and a trim. Each step is a
-- function of the whole cache.
use Rattle.std.specs.Prelude.{◌≡◌, Option, ℕ, ◌+◌, ◌-◌, ◌<◌, ◌≤◌, Bool, ◌&&◌, nat_lt, nat_le, not, min, List, [], ◌∷◌, ◌++◌, map, length, take, drop, if◌then◌else◌, Some, None, slice_get, false}
use Rattle.std.specs.List.{find, filter, position, count_by, sum_by, prefix_len, range_with_len}
use Rattle.std.specs.Option.{option_map}
use Rattle.txc_stamp.specs.Interval.{Interval, end_at, shown, closed_at}
use Rattle.txc_tags.specs.declared.tag.Tag.{Tag}
use Rattle.txc_tags.specs.Tags.{sets_match}
use Rattle.txc_tags.specs.Keys.{Call}
use Rattle.txc_node.specs.declared.entry.Entry.{Entry}
use Rattle.txc_node.specs.declared.hit.HitValue.{HitValue}
use Rattle.txc_node.specs.declared.node.Inserted.{Inserted}
use Rattle.txc_node.specs.declared.node.Inserted.TheVariants.{Stored, Kept}
use Rattle.txc_node.specs.Entries.{same_place, is_best, others, AreApart}

-- the entries, the most recently used first; the stamp of the last event that was taken; the tags of the last
-- events, the oldest first; the capacity; the number of events whose tags it stores
pub record Cache : Type 0 where
  pub entries : List Entry
  pub processed : ℕ
  pub recent : List (List Tag)
  pub capacity : ℕ
  pub depth : ℕ

-- no entry, no event taken, and no tags kept
abbrev pub empty_cache : ℕ → ℕ → Cache
empty_cache capacity depth =
    record { entries = []; processed = 0; recent = []; capacity = capacity; depth = depth }

-- an empty node that begins at that stamp: it has no tags of the events before
abbrev pub empty_cache_at : ℕ → ℕ → ℕ → Cache
empty_cache_at capacity depth from = record (empty_cache capacity depth) { processed = from }

-- Invariant of a cache, at whatever stamp it began. No two entries have the same key and first stamp. It has no
-- more entries than its capacity, and the tags of at most `depth` events.
pub record IsBounded (c : Cache) : Type 0 where
  pub apart : AreApart c.entries
  pub within : length c.entries ≤ c.capacity
  pub deep : length c.recent ≤ c.depth
  pub some : 0 < c.capacity
  pub any : 0 < c.depth

-- Invariant of a cache after every list of steps. No two entries have the same key and first stamp. It has no
-- more entries than its capacity. It has the tags of its last `depth` events, or of all while there are fewer.
pub record IsCache (c : Cache) : Type 0 where
  pub apart : AreApart c.entries
  pub within : length c.entries ≤ c.capacity
  pub kept : length c.recent ≡ min c.depth c.processed
  pub some : 0 < c.capacity
  pub any : 0 < c.depth

-- ---- a lookup: of the entries that meet the range, the one that no other outlasts moves to the front

-- the entry that a lookup finds: the one that meets the range and that none outlasts
abbrev pub found : Cache → Call → ℕ → ℕ → Option Entry
found c key lo hi = find (is_best c.processed key lo hi c.entries) c.entries

-- the used entry comes first, and the others keep their order
abbrev pub after_use : Cache → Option Entry → Cache
after_use c None = c
after_use c (Some e) = record c { entries = e ∷ others e c.entries }

-- the cache after a lookup; after a miss it is as it was
abbrev pub after_lookup : Cache → Call → ℕ → ℕ → Cache
after_lookup c key lo hi = after_use c (found c key lo hi)

-- the hit of an entry, with its reach known up to the last stamp of its span
abbrev pub shown_of : ℕ → Entry → HitValue
shown_of processed e = record { reach = shown processed e.reach; value = e.value; tags = e.tags }

-- the answer of the entry that is found, or none, which is a miss
abbrev pub lookup_answer : Cache → Call → ℕ → ℕ → Option HitValue
lookup_answer c key lo hi = option_map (shown_of c.processed) (found c key lo hi)

-- ---- an insertion: the events that the entry missed are replayed first

-- closed just before the event with that number after `known`, if there is one
abbrev pub closed_before : Option ℕ → Interval → Interval
closed_before None i = i
closed_before (Some k) i = closed_at (i.known + k) i

-- the last n of a list, or all if there are fewer
abbrev pub last_of : {X : Type 0} → ℕ → List X → List X
last_of n xs = drop (length xs - n) xs

-- a still valid reach after the events directly after its `known`: closed just before the first one that
-- matches, if one does
abbrev pub after_missed : Interval → List Tag → List (List Tag) → Interval
after_missed i tags missed = closed_before (position (λ t. sets_match t tags) missed) i

-- A still valid reach after `count` events, of which the last ones are stored: closed at its own `known` if one
-- of them is no longer stored, and otherwise as these events leave it.
abbrev pub after_kept : Interval → List Tag → ℕ → List (List Tag) → Interval
after_kept i tags count recent =
    if nat_lt (length recent) count then closed_at i.known i
    else after_missed i tags (last_of count recent)

-- a still valid reach has missed the events known + 1 to processed; any other has missed none
abbrev pub reach_after_replay : Interval → List Tag → ℕ → List (List Tag) → Interval
reach_after_replay i tags processed recent =
    if i.still then after_kept i tags (processed - i.known) recent else i

-- the reach of an entry after the replay of the events that it missed
abbrev pub replayed_reach : Cache → Entry → Interval
replayed_reach c e = reach_after_replay e.reach e.tags c.processed c.recent

-- the entry after that replay
abbrev pub replayed_entry : Cache → Entry → Entry
replayed_entry c e = record e { reach = replayed_reach c e }

-- the entry at the same place, if there is one, ends no earlier than the new one
abbrev pub ends_no_earlier : ℕ → Entry → Option Entry → Bool
ends_no_earlier processed e None = false
ends_no_earlier processed e (Some old) = nat_le (end_at processed e.reach) (end_at processed old.reach)

-- the entry with the same key and first stamp stays
abbrev pub is_kept : Cache → Entry → Bool
is_kept c e = ends_no_earlier c.processed (replayed_entry c e) (find (λ o. same_place o e) c.entries)

-- the new entry, and after it all with another key or first stamp
abbrev pub entries_with : Cache → Entry → List Entry
entries_with c e = replayed_entry c e ∷ others e c.entries

-- as many of these stay as there is room for
abbrev pub after_insert : Cache → Entry → Cache
after_insert c e = if is_kept c e then c else record c { entries = take c.capacity (entries_with c e) }

-- the one for which there is no room
abbrev pub evicted_entry : Cache → Entry → Option Entry
evicted_entry c e = slice_get (entries_with c e) c.capacity

-- kept, with the new entry; or stored, with the reach after the replay and the entry that was dropped
abbrev pub outcome : Cache → Entry → Inserted
outcome c e =
    if is_kept c e then Kept e
    else Stored (shown c.processed (replayed_reach c e)) (evicted_entry c e)

-- ---- an event: the still valid entries known below it whose tags match are closed just below it

-- still valid, known below the event, and of tags that match
abbrev pub is_invalidated : ℕ → List Tag → Entry → Bool
is_invalidated stamp tags e = e.reach.still && (nat_lt e.reach.known stamp && sets_match tags e.tags)

-- an entry that the event invalidates is closed just below it; any other stays as it was
abbrev pub entry_after : ℕ → List Tag → Entry → Entry
entry_after stamp tags e =
    if is_invalidated stamp tags e then record e { reach = closed_at (stamp - 1) e.reach } else e

-- the cache after an event: no entry moves, and the tags of the last `depth` events are kept
abbrev pub after_event : Cache → ℕ → List Tag → Cache
after_event c stamp tags = record c {
  entries = map (entry_after stamp tags) c.entries;
  processed = stamp;
  recent = last_of c.depth (c.recent ++ tags ∷ []);
}

-- the number of entries that the event closes
abbrev pub closed_count : Cache → ℕ → List Tag → ℕ
closed_count c stamp tags = count_by (is_invalidated stamp tags) c.entries

-- ---- a sweep: the entries whose span ends at the horizon or before it are dropped

-- the span of the entry ends at the horizon or before it
abbrev pub has_ended : ℕ → ℕ → Entry → Bool
has_ended processed horizon e = nat_le (end_at processed e.reach) horizon

-- the cache after a sweep: exactly the ended entries are dropped, and the others keep their order
abbrev pub after_sweep : Cache → ℕ → Cache
after_sweep c horizon = record c { entries = filter (λ e. not (has_ended c.processed horizon e)) c.entries }

-- the number of entries that the sweep drops
abbrev pub swept_count : Cache → ℕ → ℕ
swept_count c horizon = count_by (has_ended c.processed horizon) c.entries

-- ---- a trim: the first entries stay whose values have at most `most` bytes in all

-- the bytes of the values of these entries, in all
abbrev pub bytes_of : List Entry → ℕ
bytes_of es = sum_by (λ e. length e.value) es

-- the values of the first n of these entries have at most `most` bytes in all
abbrev pub fits : ℕ → List Entry → ℕ → Bool
fits most es n = nat_le (bytes_of (take n es)) most

-- the number of these entries that stay: all prefixes up to this length fit
abbrev pub staying_count : ℕ → List Entry → ℕ
staying_count most es = prefix_len (fits most es) (range_with_len 1 (length es))

-- the longest prefix that fits
abbrev pub longest_within : ℕ → List Entry → List Entry
longest_within most es = take (staying_count most es) es

-- the cache after a trim: exactly these entries stay, in their order
abbrev pub after_trim : Cache → ℕ → Cache
after_trim c most = record c { entries = longest_within most c.entries }

-- the number of entries that the trim drops
abbrev pub trimmed_count : Cache → ℕ → ℕ
trimmed_count c most = length c.entries - staying_count most c.entries
