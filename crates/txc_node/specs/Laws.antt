-- The rules of the steps of the cache, as laws.
use Rattle.std.specs.Prelude.{◌≡◌, ℕ, ◌+◌, ◌-◌, ◌<◌, ◌≤◌, ◌⊎◌, ◌↔◌, true, false, max, length, take, List, [], ◌∷◌, ◌++◌, Some, None, All, AllPairs, Contains}
use Rattle.txc_stamp.specs.Interval.{end_at, Spans, closed_at}
use Rattle.txc_tags.specs.declared.tag.Tag.{Tag}
use Rattle.txc_tags.specs.Tags.{sets_match}
use Rattle.txc_tags.specs.Keys.{Call}
use Rattle.txc_node.specs.declared.entry.Entry.{Entry}
use Rattle.txc_node.specs.Cache.{Cache, IsCache, empty_cache, found, shown_of, lookup_answer, after_lookup, replayed_reach, replayed_entry, is_kept, evicted_entry, after_insert, entry_after, last_of, after_event, swept_count, after_sweep, bytes_of, trimmed_count, after_trim}

-- ---- lookup

-- the entry is of the key, and its span meets the stamps from lo to hi
pub record MeetsRange (processed : ℕ) (key : Call) (lo hi : ℕ) (e : Entry) : Type 0 where
  pub of_key : e.key ≡ key
  pub begins : e.reach.lo ≤ hi
  pub ends : lo < end_at processed e.reach

-- the span of a ends later than that of b, or equally and begins later
abbrev pub LastsLonger : ℕ → Entry → Entry → Type 0
LastsLonger processed a b =
    (end_at processed b.reach < end_at processed a.reach)
    ⊎ ((end_at processed b.reach ≡ end_at processed a.reach) × (b.reach.lo < a.reach.lo))

-- e is an entry of the list that meets the range, and no entry that meets it lasts longer
pub record IsLongest (c : Cache) (key : Call) (lo hi : ℕ) (e : Entry) : Type 0 where
  pub stands : Contains c.entries e
  pub meets : MeetsRange c.processed key lo hi e
  pub longest : All (λ o. ¬ (MeetsRange c.processed key lo hi o × LastsLonger c.processed o e)) c.entries

-- a lookup finds the entry that meets the range and lasts longest
abbrev pub FindsTheLongest : Type 0
FindsTheLongest =
    (c : Cache) (key : Call) (lo hi : ℕ) (e : Entry) → found c key lo hi ≡ Some e → IsLongest c key lo hi e

-- a lookup misses only if no entry meets the range
abbrev pub MissesOnlyWhereNone : Type 0
MissesOnlyWhereNone =
    (c : Cache) (key : Call) (lo hi : ℕ) → found c key lo hi ≡ None
    → All (λ o. ¬ (MeetsRange c.processed key lo hi o)) c.entries

-- the span of an entry meets a range that is not empty exactly if they share a stamp
abbrev pub MeetsAtAStamp : Type 0
MeetsAtAStamp = (processed lo hi : ℕ) (e : Entry) → lo ≤ hi → e.reach.lo ≤ e.reach.known
    → MeetsRange processed e.key lo hi e ↔ ((t : ℕ) × (lo ≤ t) × (t ≤ hi) × Spans processed e.reach t)

-- a hit shows no stamp beyond the greater of the last one known and the processed one
abbrev pub ShowsNothingBeyond : Type 0
ShowsNothingBeyond =
    (processed : ℕ) (e : Entry) → (shown_of processed e).reach.known ≤ max e.reach.known processed

-- ---- event

-- the entry is still valid, is known below the event, and its tags match
pub record IsHitBy (stamp : ℕ) (tags : List Tag) (e : Entry) : Type 0 where
  pub still : e.reach.still ≡ true
  pub below : e.reach.known < stamp
  pub matching : sets_match tags e.tags ≡ true

-- an entry that the event hits is closed just below it, and any other stays as it was
pub record ClosesOnlyIfHit (stamp : ℕ) (tags : List Tag) (old new : Entry) : Type 0 where
  pub closed : IsHitBy stamp tags old → new ≡ record old { reach = closed_at (stamp - 1) old.reach }
  pub same : ¬ (IsHitBy stamp tags old) → new ≡ old

-- the lists are equally long, and R holds of the two entries at each place
abbrev pub EachPlace : (Entry → Entry → Type 0) → List Entry → List Entry → Type 0
EachPlace R [] [] = Unit {0}
EachPlace R [] (y ∷ ys) = ⊥
EachPlace R (x ∷ xs) [] = ⊥
EachPlace R (x ∷ xs) (y ∷ ys) = R x y × EachPlace R xs ys

-- an event closes exactly the entries that it hits, and no entry moves
abbrev pub ClosesExactlyTheHit : Type 0
ClosesExactlyTheHit =
    (c : Cache) (stamp : ℕ) (tags : List Tag)
    → EachPlace (ClosesOnlyIfHit stamp tags) c.entries (after_event c stamp tags).entries

-- ---- insertion

-- the entry after events that come one after another, the first of them with this stamp
abbrev pub after_events : ℕ → List (List Tag) → Entry → Entry
after_events stamp [] e = e
after_events stamp (tags ∷ more) e = after_events (stamp + 1) more (entry_after stamp tags e)

-- if the tags of all events that a still valid entry has missed are stored, it is stored as if it had been in
-- the node when they came
abbrev pub ReplaysAsIfItHadBeenThere : Type 0
ReplaysAsIfItHadBeenThere =
    (c : Cache) (e : Entry) → e.reach.still ≡ true
    → (let missed = c.processed - e.reach.known in
    missed ≤ length c.recent
    → replayed_entry c e ≡ after_events (e.reach.known + 1) (last_of missed c.recent) e)

-- if the tags of one of them are no longer stored, it is stored as closed at its last known stamp
abbrev pub TrustsNoLostEvent : Type 0
TrustsNoLostEvent =
    (c : Cache) (e : Entry) → e.reach.still ≡ true
    → length c.recent < c.processed - e.reach.known
    → replayed_reach c e ≡ closed_at e.reach.known e.reach

-- the same key, and the same first stamp
abbrev pub SamePlace : Entry → Entry → Type 0
SamePlace a b = (a.key ≡ b.key) × (a.reach.lo ≡ b.reach.lo)

-- an entry of the list has the key and the first stamp of e
abbrev pub IsThere : Entry → List Entry → Type 0
IsThere e es = (old : Entry) × Contains es old × SamePlace old e

-- the entry at the same place is kept exactly if it ends no earlier than the new one does after the replay;
-- without such an entry, none is kept
pub record KeepsTheLonger (c : Cache) (e : Entry) : Type 0 where
  pub there : (old : Entry) → Contains c.entries old → SamePlace old e
      → (is_kept c e ≡ true) ↔ (end_at c.processed (replayed_reach c e) ≤ end_at c.processed old.reach)
  pub not_there : ¬ (IsThere e c.entries) → is_kept c e ≡ false

-- so does every insertion into a cache
abbrev pub InsertionKeepsTheLonger : Type 0
InsertionKeepsTheLonger = (c : Cache) (e : Entry) → IsCache c → KeepsTheLonger c e

-- an insertion drops nothing if it replaces or keeps an entry, nor if there is room, and otherwise exactly the
-- last entry
pub record DropsTheLast (c : Cache) (e : Entry) : Type 0 where
  pub there : IsThere e c.entries → evicted_entry c e ≡ None
  pub not_full : length c.entries < c.capacity → evicted_entry c e ≡ None
  pub full : ¬ (IsThere e c.entries) → length c.entries ≡ c.capacity
      → (others : List Entry) (last : Entry) → c.entries ≡ others ++ last ∷ [] → evicted_entry c e ≡ Some last

-- so does every insertion into a cache
abbrev pub InsertionDropsTheLast : Type 0
InsertionDropsTheLast = (c : Cache) (e : Entry) → IsCache c → DropsTheLast c e

-- ---- sweep

-- after a sweep the cache has exactly the entries whose span ends after the horizon; each dropped entry was
-- counted
pub record DropsTheEnded (c : Cache) (horizon : ℕ) : Type 0 where
  pub left : (e : Entry) → Contains (after_sweep c horizon).entries e
      ↔ (Contains c.entries e × (horizon < end_at c.processed e.reach))
  pub counted : length (after_sweep c horizon).entries + swept_count c horizon ≡ length c.entries

-- so does every sweep
abbrev pub SweepDropsTheEnded : Type 0
SweepDropsTheEnded = (c : Cache) (horizon : ℕ) → DropsTheEnded c horizon

-- a sweep changes the answer of no lookup from the horizon on
abbrev pub ChangesNoLaterAnswer : Type 0
ChangesNoLaterAnswer = (c : Cache) (horizon : ℕ) (key : Call) (lo hi : ℕ) → horizon ≤ lo
    → lookup_answer (after_sweep c horizon) key lo hi ≡ lookup_answer c key lo hi

-- ---- trim

-- The entries that a trim leaves were the first, in their order. Their values have at most `most` bytes in all,
-- and with one more entry they would have more. Each dropped entry was counted.
pub record KeepsTheFirst (c : Cache) (most : ℕ) : Type 0 where
  pub dropped : List Entry
  pub first : c.entries ≡ (after_trim c most).entries ++ dropped
  pub within : bytes_of (after_trim c most).entries ≤ most
  pub longest : (n : ℕ) → length (after_trim c most).entries < n → n ≤ length c.entries → most < bytes_of (take n c.entries)
  pub counted : trimmed_count c most ≡ length dropped

-- so does every trim
abbrev pub TrimKeepsTheFirst : Type 0
TrimKeepsTheFirst = (c : Cache) (most : ℕ) → KeepsTheFirst c most

-- ---- all steps

-- no two entries have the same key and the same first stamp
abbrev pub HasOneForEach : List Entry → Type 0
HasOneForEach es = AllPairs (λ a b. ¬ (SamePlace a b)) es

-- an insertion leaves at most one entry for a key and a first stamp, and never more than the capacity
pub record FillsNoMore (c : Cache) (e : Entry) : Type 0 where
  pub one_for_each : HasOneForEach (after_insert c e).entries
  pub within : length (after_insert c e).entries ≤ c.capacity

-- so does every insertion into a cache
abbrev pub InsertsWithinBounds : Type 0
InsertsWithinBounds = (c : Cache) (e : Entry) → IsCache c → FillsNoMore c e

-- an empty cache is one, and each step leaves one
pub record StepsKeepCaches : Type 0 where
  pub empty : (capacity depth : ℕ) → 0 < capacity → 0 < depth → IsCache (empty_cache capacity depth)
  pub lookup : (c : Cache) (key : Call) (lo hi : ℕ) → IsCache c → IsCache (after_lookup c key lo hi)
  pub insert : (c : Cache) (e : Entry) → IsCache c → IsCache (after_insert c e)
  pub event : (c : Cache) (tags : List Tag) → IsCache c → IsCache (after_event c (c.processed + 1) tags)
  pub sweep : (c : Cache) (horizon : ℕ) → IsCache c → IsCache (after_sweep c horizon)
  pub trim : (c : Cache) (most : ℕ) → IsCache c → IsCache (after_trim c most)
