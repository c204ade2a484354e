-- The entries after a sweep, and the index of their keys. Only proofs need it.
use Rattle.std.specs.Prelude.{◌≡◌, ℕ, Bool, true, false, not, nat_le, Some, None, List, slice_get}
use Rattle.std.specs.List.{AllByRecursion, filter}
use Rattle.std.specs.HashMap.{HashMap}
use Rattle.txc_stamp.specs.Interval.{Interval, end_at}
use Rattle.txc_tags.specs.declared.tag.Rows.{Rows}
use Rattle.txc_tags.specs.Keys.{Call}
use Rattle.txc_node.specs.declared.entry.Entry.{Entry}
use Rattle.txc_node.specs.declared.place.Place.{Place}
use Rattle.txc_node.specs.declared.stored.Stored.{Stored}
use Rattle.txc_node.specs.Places.{place_of, place_at, equal_places}
use Rattle.txc_node.specs.Entries.{AreApart}
use Rattle.txc_node.specs.Cache.{has_ended}
use Rattle.txc_node.specs.IndexedEntries.{entries_of, entry_at, ArePlaced, IndexesTags}

-- ---- the reaches

-- the span ends at the horizon or before it
abbrev pub ends_by : ℕ → ℕ → Interval → Bool
ends_by processed horizon r = nat_le (end_at processed r) horizon

-- the reaches whose span ends after it
abbrev pub lasting : ℕ → ℕ → List Interval → List Interval
lasting processed horizon rs = filter (λ r. not (ends_by processed horizon r)) rs

-- all of these keys have only such reaches
abbrev pub AreAllLasting : ℕ → ℕ → List (Call × List Interval) → Type 0
AreAllLasting processed horizon xs =
    AllByRecursion (λ x. AllByRecursion (λ r. ends_by processed horizon r ≡ false) x.1) xs

-- ---- the entries

-- the entries at other places
abbrev pub elsewhere : Place → List Entry → List Entry
elsewhere q es = filter (λ e. not (equal_places (place_of e) q)) es

-- each at the place of its entry, at most one at a place, and the still valid listed under their tags
pub record AreStored {S : Type 0} (tables : List (HashMap Rows (List Place) S)) (ps : List (Place × Stored)) : Type 0 where
  pub placed : ArePlaced ps
  pub apart : AreApart (entries_of ps)
  pub listed : IndexesTags tables (entries_of ps)

-- an entry at the place of a key and a reach has that reach
abbrev pub HasReach : List Entry → Call → Interval → Type 0
HasReach es key r = (e : Entry) → entry_at es (place_at key r.lo) ≡ Some e → e.reach ≡ r

-- no entry is at the place of a key and a reach that has ended
abbrev pub IsGone : ℕ → ℕ → List Entry → Call → Interval → Type 0
IsGone processed horizon es key r =
    ends_by processed horizon r ≡ true → entry_at es (place_at key r.lo) ≡ None

-- nor at those of the key and the reaches at an index
abbrev pub AreGoneAt : ℕ → ℕ → List Entry → List (Call × List Interval) → ℕ → Type 0
AreGoneAt processed horizon es xs i = (x : Call × List Interval) → slice_get xs i ≡ Some x
    → AllByRecursion (IsGone processed horizon es x.0) x.1

-- each dropped entry has ended, and the others are where they were
pub record Sheds (processed horizon : ℕ) (old new : List Entry) : Type 0 where
  pub left : filter (λ e. not (has_ended processed horizon e)) new
      ≡ filter (λ e. not (has_ended processed horizon e)) old
  pub stood : (q : Place) (e : Entry) → entry_at new q ≡ Some e → entry_at old q ≡ Some e
