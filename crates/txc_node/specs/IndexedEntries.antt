-- The entries of a node as they are stored, and the indexes that find them. Only proofs need it, except
-- `entries_under` and `IsSearchOf`, which public contracts use.
use Rattle.std.specs.Prelude.{◌≡◌, ℕ, ◌+◌, ◌-◌, ◌<◌, ◌≤◌, Bool, true, false, ◌&&◌, ◌||◌, ◌==◌, nat_lt, nat_le, if◌then◌else◌, Option, Some, None, unwrap_or, List, [], ◌∷◌, map, length, slice_get}
use Rattle.std.specs.List.{AllByRecursion, filter, find, list_any, count_by}
use Rattle.std.specs.Map.{lookup, set_value}
use Rattle.std.specs.HashMap.{HashMap}
use Rattle.std.specs.Option.{option_map, option_map_or}
use Rattle.txc_stamp.specs.Interval.{Interval, end_at, shown, closed_at}
use Rattle.txc_tags.specs.declared.tag.Rows.{Rows}
use Rattle.txc_tags.specs.declared.tag.Tag.{Tag}
use Rattle.txc_tags.specs.contracts.tag.RowsPartialEq.TheImpl as rows_eq
use Rattle.txc_tags.specs.Tags.{sets_match, tags_match}
use Rattle.txc_tags.specs.Keys.{Call, same_call}
use Rattle.txc_node.specs.declared.entry.Entry.{Entry}
use Rattle.txc_node.specs.declared.hit.HitValue.{HitValue}
use Rattle.txc_node.specs.declared.place.Place.{Place}
use Rattle.txc_node.specs.declared.stored.Stored.{Stored}
use Rattle.txc_node.specs.declared.search.Search.{Search}
use Rattle.txc_node.specs.declared.versions.Found.{Found}
use Rattle.txc_node.specs.Places.{place_of, equal_places}
use Rattle.txc_node.specs.Entries.{same_place, others, AreApart}
use Rattle.txc_node.specs.Cache.{Cache, found, is_invalidated, entry_after}

-- ---- entries at their places

-- the entry of a place and what is stored there
abbrev pub entry_of : Place × Stored → Entry
entry_of p = record { key = p.0.key; value = p.1.value; reach = p.1.reach; tags = p.1.tags }

-- the stored part of an entry
abbrev pub stored_of : Entry → Stored
stored_of e = record { value = e.value; reach = e.reach; tags = e.tags }

-- the hit of a stored entry
abbrev pub shown_as : ℕ → Stored → HitValue
shown_as processed s = record { reach = shown processed s.reach; value = s.value; tags = s.tags }

-- the entries of a cache, in its order
abbrev pub entries_of : List (Place × Stored) → List Entry
entries_of ps = map entry_of ps

-- each is at the place of its entry
abbrev pub ArePlaced : List (Place × Stored) → Type 0
ArePlaced ps = AllByRecursion (λ p. p.0 ≡ place_of (entry_of p)) ps

-- the entry at a place
abbrev pub entry_at : List Entry → Place → Option Entry
entry_at es q = find (λ e. equal_places q (place_of e)) es

-- the place has a still valid entry
unfoldable pub is_live : List Entry → Place → Bool
is_live es q = unwrap_or (option_map (λ e. e.reach.still) (entry_at es q)) false

-- entries, the most recently used first, and the most that there may be
pub record HeldEntries : Type 0 where
  pub entries : List Entry
  pub capacity : ℕ

-- ---- by key

-- the entries of a key
abbrev pub entries_under : Call → List Entry → List Entry
entries_under key es = filter (λ e. same_call e.key key) es

-- their reaches
abbrev pub reaches_under : Call → List Entry → List Interval
reaches_under key es = map (λ e. e.reach) (entries_under key es)

-- the reaches that an index lists for a key
abbrev pub listed : List (Call × List Interval) → Call → List Interval
listed index key = unwrap_or (lookup (same_call key) index) []

-- the index lists of each key the reaches of its entries
abbrev pub IndexesKeys : List (Call × List Interval) → List Entry → Type 0
IndexesKeys index es = (key : Call) → listed index key ≡ reaches_under key es

-- it now lists these for the key, and the same as before for all others
abbrev pub Relists : Call → List Interval → List (Call × List Interval) → List (Call × List Interval) → Type 0
Relists key rs old new = (k : Call) → listed new k ≡ (if same_call key k then rs else listed old k)

-- a span meets the stamps from lo to hi
abbrev pub meets : ℕ → ℕ → ℕ → Interval → Bool
meets processed lo hi i = nat_le i.lo hi && nat_lt lo (end_at processed i)

-- the span of a ends later than that of b, or equally and begins later
abbrev pub lasts_longer : ℕ → Interval → Interval → Bool
lasts_longer processed a b =
    nat_lt (end_at processed b) (end_at processed a) || (end_at processed b == end_at processed a && nat_lt b.lo a.lo)

-- the entries are all of the key, and have these reaches
pub record AreOf (key : Call) (es : List Entry) (rs : List Interval) : Type 0 where
  pub of_key : AllByRecursion (λ e. same_call e.key key ≡ true) es
  pub reaches : map (λ e. e.reach) es ≡ rs

-- the new reach if the old one begins at the same stamp, otherwise the old one
abbrev pub in_stead : Interval → Interval → Interval
in_stead new old = if old.lo == new.lo then new else old

-- no entry is found, or the one at that place of the list, and it has that reach
abbrev pub IsFound : List Entry → Option Entry → Option Found → Type 0
IsFound es o None = o ≡ None
IsFound es o (Some f) = (e : Entry) × (o ≡ Some e) × (slice_get es f.at ≡ Some e) × (f.reach ≡ e.reach)

-- the search was one of the entries of the key in this cache: it has the place of the entry that a lookup at
-- its stamps finds, if there is one, and the number of entries of the key
pub record IsSearchOf (c : Cache) (key : Call) (s : Search) : Type 0 where
  pub stands : IsFound (entries_under key c.entries) (found c key s.lo s.hi) s.found
  pub looked : s.looked ≡ length (entries_under key c.entries)

-- an entry has the place of e, and is at that place among those of its key
abbrev pub StandsUnder : Entry → List Entry → ℕ → Type 0
StandsUnder e es at = (o : Entry) × (find (λ x. same_place x e) es ≡ Some o)
    × (slice_get (entries_under e.key es) at ≡ Some o)

-- the entry, and after it all at other places
abbrev pub with_first : Entry → List Entry → List Entry
with_first e es = e ∷ others e es

-- ---- by tag

-- the test of rows by which a map finds them
abbrev pub equal_rows : Rows → Rows → Bool
equal_rows = rows_eq.ghosts.eq

-- the places that a table lists under rows
abbrev pub places_under : List (Rows × List Place) → Rows → List Place
places_under bs rows = unwrap_or (lookup (equal_rows rows) bs) []

-- the place is among these
abbrev pub has_place : List Place → Place → Bool
has_place places q = list_any (equal_places q) places

-- the place is listed under rows of a table
abbrev pub lists_rows : List (Rows × List Place) → Rows → Place → Bool
lists_rows bs rows q = has_place (places_under bs rows) q

-- the place is listed under the tag
abbrev pub lists : {S : Type 0} → List (HashMap Rows (List Place) S) → Tag → Place → Bool
lists tables tag q =
    unwrap_or (option_map (λ t. lists_rows t.entries tag.rows q) (slice_get tables tag.table)) false

-- the place is listed under each tag of what is stored there, if that is still valid
abbrev pub IsListed : {S : Type 0} → List (HashMap Rows (List Place) S) → Place → Stored → Type 0
IsListed tables q s = s.reach.still ≡ true → AllByRecursion (λ t. lists tables t q ≡ true) s.tags

-- so is the place of each entry
abbrev pub IndexesTags : {S : Type 0} → List (HashMap Rows (List Place) S) → List Entry → Type 0
IndexesTags tables es = AllByRecursion (λ e. IsListed tables (place_of e) (stored_of e)) es

-- each listed place stays listed, unless P excludes it
abbrev pub KeepsListed : {S : Type 0} → (Tag → Place → Type 0)
    → (old new : List (HashMap Rows (List Place) S)) → Type 0
KeepsListed P old new = (t : Tag) (q : Place) → P t q → lists old t q ≡ true → lists new t q ≡ true

-- ---- the effect of an event so far

-- the event closes what is stored
abbrev pub is_stale : ℕ → List Tag → Stored → Bool
is_stale stamp tags s = s.reach.still && (nat_lt s.reach.known stamp && sets_match tags s.tags)

-- the stored entry after it
abbrev pub stored_after : ℕ → List Tag → Stored → Stored
stored_after stamp tags s =
    if is_stale stamp tags s then record s { reach = closed_at (stamp - 1) s.reach } else s

-- the new reach of what it closes
abbrev pub closed_reach : ℕ → List Tag → Option Stored → Option Interval
closed_reach stamp tags None = None
closed_reach stamp tags (Some s) =
    if is_stale stamp tags s then Some (closed_at (stamp - 1) s.reach) else None

-- the stored entry is still valid after it
abbrev pub stays_live : ℕ → List Tag → Option Stored → Bool
stays_live stamp tags None = false
stays_live stamp tags (Some s) = (stored_after stamp tags s).reach.still

-- the pairs after the event has reached a place
abbrev pub after_at : ℕ → List Tag → Place → List (Place × Stored) → List (Place × Stored)
after_at stamp tags q ps =
    option_map_or (λ s. set_value (equal_places q) ps (stored_after stamp tags s)) (lookup (equal_places q) ps) ps

-- the event invalidates no entry at the place
abbrev pub IsSpared : ℕ → List Tag → List Entry → Place → Type 0
IsSpared stamp tags es q = (e : Entry) → entry_at es q ≡ Some e → is_invalidated stamp tags e ≡ false

-- it invalidates none at the places that a table lists under the rows at an index
abbrev pub AreSparedAt : ℕ → List Tag → List Entry → List (Rows × List Place) → ℕ → Type 0
AreSparedAt stamp tags es bs i = (x : Rows × List Place) → slice_get bs i ≡ Some x
    → AllByRecursion (IsSpared stamp tags es) x.1

-- it invalidates none at the places that are listed under tags which match this one
abbrev pub AreSparedBy : {S : Type 0} → ℕ → List Tag → List Entry
    → List (HashMap Rows (List Place) S) → Tag → Type 0
AreSparedBy stamp tags es tables tag = (t : Tag) (q : Place) → tags_match tag t ≡ true
    → lists tables t q ≡ true → IsSpared stamp tags es q

-- the event has closed n of the old entries so far; the remaining work is the same
pub record Closes (stamp : ℕ) (tags : List Tag) (old new : HeldEntries) (n : ℕ) : Type 0 where
  pub after : map (entry_after stamp tags) new.entries ≡ map (entry_after stamp tags) old.entries
  pub capacity : new.capacity ≡ old.capacity
  pub count : n + count_by (is_invalidated stamp tags) new.entries ≡ count_by (is_invalidated stamp tags) old.entries
  pub spared : (q : Place) → IsSpared stamp tags old.entries q → IsSpared stamp tags new.entries q

-- ---- all of it

-- at most one entry for a place, and no more than there is room for
pub record HoldsApart (h : HeldEntries) : Type 0 where
  pub apart : AreApart h.entries
  pub within : length h.entries ≤ h.capacity
  pub some : 0 < h.capacity

-- each entry at its place, at most one for a place, and each in the index of the keys
pub record AreTied (ps : List (Place × Stored)) (index : List (Call × List Interval)) : Type 0 where
  pub placed : ArePlaced ps
  pub apart : AreApart (entries_of ps)
  pub keys : IndexesKeys index (entries_of ps)
