-- Worked examples of the steps: the results of the definitions equal those found by hand.
use Rattle.std.specs.Prelude.{◌≡◌, ℕ, true, false, List, [], ◌∷◌, Option, Some, None}
use Rattle.txc_stamp.specs.Interval.{Interval}
use Rattle.txc_tags.specs.declared.tag.Tag.{Tag}
use Rattle.txc_tags.specs.Tags.{wildcard, id_tag, group_tag}
use Rattle.txc_tags.specs.Keys.{Call}
use Rattle.txc_node.specs.declared.entry.Entry.{Entry}
use Rattle.txc_node.specs.declared.hit.HitValue.{HitValue}
use Rattle.txc_node.specs.declared.node.Inserted.TheVariants.{Stored, Kept}
use Rattle.txc_node.specs.Cache.{Cache, empty_cache, lookup_answer, after_lookup, outcome, after_insert, closed_count, after_event}

-- the call of function 1 with one argument
abbrev pub example_call : ℕ → Call
example_call n = record { function = 1; args = n ∷ [] }

abbrev pub still_valid : ℕ → ℕ → Interval
still_valid lo known = record { lo = lo; known = known; still = true }

abbrev pub ended_reach : ℕ → ℕ → Interval
ended_reach lo known = record { lo = lo; known = known; still = false }

-- a result of one byte of the call of function 1 with argument n
abbrev pub byte_entry : ℕ → ℕ → Interval → List Tag → Entry
byte_entry n byte reach tags = record { key = example_call n; value = byte ∷ []; reach = reach; tags = tags }

abbrev pub shows : ℕ → Interval → List Tag → Option HitValue
shows byte reach tags = Some (record { reach = reach; value = byte ∷ []; tags = tags })

-- ---- a still valid entry is found as far as events were taken, and an event that matches closes it

abbrev pub first : Entry
first = byte_entry 2 10 (still_valid 0 0) (id_tag 1 2 ∷ [])

abbrev pub one_entry : Cache
one_entry = after_insert (empty_cache 4 4) first

abbrev pub one_event : Cache
one_event = after_event one_entry 1 (id_tag 1 3 ∷ [])

abbrev pub two_events : Cache
two_events = after_event one_event 2 (id_tag 1 2 ∷ [])

pub record ClosesAtTheMatch : Type 0 where
  pub stored : outcome (empty_cache 4 4) first ≡ Stored (still_valid 0 0) None
  pub found_at_once : lookup_answer one_entry (example_call 2) 0 9 ≡ shows 10 (still_valid 0 0) (id_tag 1 2 ∷ [])
  pub no_match : closed_count one_entry 1 (id_tag 1 3 ∷ []) ≡ 0
  pub found_later : lookup_answer one_event (example_call 2) 0 9 ≡ shows 10 (still_valid 0 1) (id_tag 1 2 ∷ [])
  pub match : closed_count one_event 2 (id_tag 1 2 ∷ []) ≡ 1
  pub beyond_its_end : lookup_answer two_events (example_call 2) 2 9 ≡ None
  pub found_closed : lookup_answer two_events (example_call 2) 0 9 ≡ shows 10 (ended_reach 0 1) (id_tag 1 2 ∷ [])

-- ---- an entry that comes late is closed before the first event that it missed and matches, or at its own
-- known

abbrev pub both_events : ℕ → Cache
both_events depth = after_event (after_event (empty_cache 4 depth) 1 (id_tag 1 3 ∷ [])) 2 (id_tag 1 2 ∷ [])

pub record ReplaysWhatIsKept : Type 0 where
  pub both_kept : outcome (both_events 4) first ≡ Stored (ended_reach 0 1) None
  pub one_kept : outcome (both_events 1) first ≡ Stored (ended_reach 0 0) None

-- ---- an entry known beyond the processed stamp is closed by no event up to there; the wildcard matches each
-- tag

abbrev pub ahead : Entry
ahead = byte_entry 2 10 (still_valid 1 5) (wildcard 1 ∷ [])

abbrev pub quiet : Cache
quiet = after_event (after_event (empty_cache 4 4) 1 []) 2 []

abbrev pub five_events : Cache
five_events =
    after_event (after_event (after_event (after_insert quiet ahead) 3 (group_tag 1 9 ∷ [])) 4 []) 5 []

pub record WaitsForItsEnd : Type 0 where
  pub stored : outcome quiet ahead ≡ Stored (still_valid 1 5) None
  pub not_beyond : closed_count (after_insert quiet ahead) 3 (group_tag 1 9 ∷ []) ≡ 0
  pub by_wildcard : closed_count five_events 6 (id_tag 1 1 ∷ []) ≡ 1
  pub found_closed : lookup_answer (after_event five_events 6 (id_tag 1 1 ∷ [])) (example_call 2) 0 9
      ≡ shows 10 (ended_reach 1 5) (wildcard 1 ∷ [])

-- ---- a full cache drops the entry that was used longest ago

abbrev pub numbered_entry : ℕ → ℕ → Entry
numbered_entry n byte = byte_entry n byte (still_valid 0 0) (id_tag 1 n ∷ [])

abbrev pub full : Cache
full = after_insert (after_insert (empty_cache 2 4) (numbered_entry 1 10)) (numbered_entry 2 11)

abbrev pub full_used : Cache
full_used = after_lookup full (example_call 1) 0 9

pub record DropsTheLeastRecentlyUsed : Type 0 where
  pub kept : outcome (after_insert (empty_cache 2 4) (numbered_entry 1 10)) (numbered_entry 1 10) ≡ Kept (numbered_entry 1 10)
  pub used : lookup_answer full (example_call 1) 0 9 ≡ shows 10 (still_valid 0 0) (id_tag 1 1 ∷ [])
  pub evicted : outcome full_used (numbered_entry 3 12) ≡ Stored (still_valid 0 0) (Some (numbered_entry 2 11))
  pub gone : lookup_answer (after_insert full_used (numbered_entry 3 12)) (example_call 2) 0 9 ≡ None

-- ---- of two that end equally the one that begins later is found, and a longer one replaces a shorter one

abbrev pub two_begins : Cache
two_begins =
    after_insert (after_insert (after_event (empty_cache 4 4) 1 []) (byte_entry 2 10 (still_valid 0 0) []))
    (byte_entry 2 11 (still_valid 1 1) [])

pub record PrefersTheLaterBegin : Type 0 where
  pub later_begin : lookup_answer two_begins (example_call 2) 0 9 ≡ shows 11 (still_valid 1 1) []
  pub only_one : lookup_answer two_begins (example_call 2) 0 0 ≡ shows 10 (still_valid 0 1) []
  pub longer : outcome two_begins (byte_entry 2 12 (ended_reach 0 3) []) ≡ Stored (ended_reach 0 3) None
