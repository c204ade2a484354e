-- Laws of histories.
use Rattle.std.specs.Prelude.{ℕ, suc, ◌≡◌, ◌≤◌, ◌+◌, true, false, List, [], ◌++◌, length, Some, if◌then◌else◌, ◌==◌}
use Rattle.txc_tags.specs.declared.tag.Tag.{Tag}
use Rattle.txc_tags.specs.Tags.{sets_match}
use Rattle.txc_rows.specs.declared.query.Query.{Query}
use Rattle.txc_rows.specs.States.{answer}
use Rattle.txc_rows.specs.RowTags.{covers_query}
use Rattle.txc_db.specs.History.{History, state_at, tags_at, moment_at}
use Rattle.txc_db.specs.DatabaseValue.{without, is_held, holds_of}

-- an event whose tags do not match a set that covers a query leaves the query's answer
abbrev pub EventTagsAreSound : Type 0
EventTagsAreSound = (L : History) (t : ℕ) (q : Query) (set : List Tag)
    → sets_match (tags_at L (suc t)) set ≡ false → covers_query set q ≡ true
    → answer q (state_at L t) ≡ answer q (state_at L (suc t))

-- a longer history has the same states
abbrev pub StatesStay : Type 0
StatesStay = (L more : History) (t : ℕ) → t ≤ length L → state_at (L ++ more) t ≡ state_at L t

-- a longer history has the same tags
abbrev pub TagsStay : Type 0
TagsStay = (L more : History) (e : ℕ) → e ≤ length L → tags_at (L ++ more) e ≡ tags_at L e

-- a pin has no tags and leaves the state
abbrev pub PinsChangeNothing : Type 0
PinsChangeNothing = (L : History) (t moment : ℕ) → moment_at L (suc t) ≡ Some moment
    → (state_at L (suc t) ≡ state_at L t) × (tags_at L (suc t) ≡ [])

-- removing one hold of a stamp leaves one hold fewer of it, if there was one, and as many of each other stamp
abbrev pub OneHoldLess : Type 0
OneHoldLess = (holds : List ℕ) (stamp other : ℕ) → is_held stamp holds ≡ true
    → holds_of other (without stamp holds) + (if stamp == other then 1 else 0) ≡ holds_of other holds
