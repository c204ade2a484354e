-- Nodes whose entries are all true.
use Rattle.std.specs.Prelude.{◌≡◌, ℕ, Bool, false, suc, ◌+◌, ◌≤◌, List, [], ◌∷◌, length}
use Rattle.std.specs.List.{AllByRecursion}
use Rattle.txc_stamp.specs.Interval.{shown}
use Rattle.txc_tags.specs.declared.tag.Tag.{Tag}
use Rattle.txc_db.specs.History.{History, tags_at}
use Rattle.txc_node.specs.declared.entry.Entry.{Entry}
use Rattle.txc_node.specs.Cache.{Cache}
use Rattle.txc_node.specs.declared.record.Record.{Record}
use Rattle.txc_node.specs.declared.op.Op.{Op}
use Rattle.txc_node.specs.declared.op.Op.TheVariants.{Insert, Lookup, Event, Sweep, Trim}
use Rattle.txc_app.specs.Eval.{Next}
use Rattle.txc_app.specs.Claims.{IsTrueIn}
use Rattle.txc_shared.specs.Histories.{cache_after, IsLegal}

-- the entry as a hit shows it if the first `processed` events were taken: known up to the last stamp of its
-- span
abbrev pub shown_entry : ℕ → Entry → Entry
shown_entry processed e = record e { reach = shown processed e.reach }

-- the hit of the entry is true, if the first `processed` events were taken
pub record IsShownTrue (next : Next) (L : History) (processed : ℕ) (e : Entry) : Type 0 where
  pub some : e.reach.lo ≤ e.reach.known
  pub true_as_shown : IsTrueIn next L (shown_entry processed e)

-- these are the tags of the events after that stamp, one after the other
abbrev pub AreTagsAfter : History → ℕ → List (List Tag) → Type 0
AreTagsAfter L stamp [] = Unit {0}
AreTagsAfter L stamp (tags ∷ more) = (tags ≡ tags_at L (suc stamp)) × AreTagsAfter L (suc stamp) more

-- the tags that the cache stores are those of the last events that it took
pub record KeepsTags (L : History) (c : Cache) : Type 0 where
  pub before : ℕ
  pub upto : before + length c.recent ≡ c.processed
  pub tags : AreTagsAfter L before c.recent

-- the entries of the cache, as hits show them, are true in the history, and the tags that it stores are that
-- history's
pub record IsTrueCache (next : Next) (L : History) (c : Cache) : Type 0 where
  pub entries : AllByRecursion (IsShownTrue next L c.processed) c.entries
  pub recent : KeepsTags L c
  pub within : c.processed ≤ length L

-- the cache is what these records leave of the one at the start, and they are a legal history
pub record IsRun (L : History) (start : Cache) (rs : List Record) (c : Cache) : Type 0 where
  pub is : c ≡ cache_after start rs
  pub legal : IsLegal L start rs

-- invariant of a node: its cache is true in the database history that it has seen, and, unless it is broken, it
-- is the cache after its records
pub record IsNode (next : Next) (L : History) (start : Cache) (rs : List Record) (c : Cache) (broken : Bool)
    : Type 0 where
  pub is_true : IsTrueCache next L c
  pub run : broken ≡ false → IsRun L start rs c

-- the argument of the step is true: an entry
abbrev pub IsTrueStep : Next → History → Op → Type 0
IsTrueStep next L (Insert e) = IsTrueIn next L e
IsTrueStep next L (Lookup key lo hi) = Unit {0}
IsTrueStep next L (Event stamp tags) = Unit {0}
IsTrueStep next L (Sweep horizon) = Unit {0}
IsTrueStep next L (Trim most) = Unit {0}
