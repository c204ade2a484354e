-- The value of a node with its history in contracts.
use Rattle.std.specs.Prelude.{◌≡◌, ◌⊎◌, ℕ, ◌+◌, ◌<◌, ◌≤◌, Bool, List, [], ◌∷◌, ◌++◌, length}
use mathlib.Core.List.{IsPrefix}
use Rattle.txc_stream.specs.Names.{Name, stored, unstored}
use Rattle.txc_tags.specs.declared.tag.Tag.{Tag}
use Rattle.txc_db.specs.History.{History, tags_at}
use Rattle.txc_db.specs.FrontsAndFeeds.{FrontValue}
use Rattle.txc_node.specs.declared.node.Inserted.{Inserted}
use Rattle.txc_node.specs.declared.node.Inserted.TheVariants as inserts
use Rattle.txc_node.specs.declared.op.Op.{Op}
use Rattle.txc_node.specs.declared.op.Op.TheVariants.{Event}
use Rattle.txc_node.specs.declared.record.Record.{Record}
use Rattle.txc_node.specs.Cache.{Cache, empty_cache_at, closed_count}
use Rattle.txc_node.specs.Steps.{step_reply, after_step}
use Rattle.txc_shared.specs.declared.advanced.Advanced.{Advanced}
use Rattle.txc_shared.specs.declared.advanced.Advanced.TheVariants.{Taken, Idle}
use Rattle.txc_shared.specs.declared.insertion.Insertion.{Insertion}
use Rattle.txc_shared.specs.declared.insertion.Insertion.TheVariants.{Stored, Kept}
use Rattle.txc_shared.specs.declared.settings.NodeSettings.{NodeSettings}
use Rattle.txc_shared.specs.Histories.{next_record}

-- the cache of a node at the start, if `from` events came before it
abbrev pub start_of : NodeSettings → ℕ → Cache
start_of settings from = empty_cache_at settings.capacity settings.recent from

-- the identity of a node's history, and its first records, as observed
pub record NodeFrontValue : Type 0 where
  pub name : Name
  pub records : List Record

-- the same, and how many passes there are
pub record LogValue : Type 0 where
  pub name : Name
  pub records : List Record
  pub passes : ℕ

-- A node: its settings, and how many events came before it; its history's identity, its records, and the number
-- of passes. Its cache; the database history that it has seen; and whether another record was found in its log.
pub record NodeValue : Type 0 where
  pub settings : NodeSettings
  pub from : ℕ
  pub name : Name
  pub records : List Record
  pub passes : ℕ
  pub cache : Cache
  pub seen : FrontValue
  pub broken : Bool

-- ---- room

-- the history is full: it is stored, and has as many records as its row has cells
abbrev pub IsHistoryFull : Name → List Record → Type 0
IsHistoryFull (stored cells) records = length records ≡ length cells
IsHistoryFull (unstored number) records = ⊥

-- there is room for another record: a cell, if they are stored
abbrev pub HasRecordRoom : Name → List Record → Type 0
HasRecordRoom (stored cells) records = length records < length cells
HasRecordRoom (unstored number) records = Unit {0}

-- ---- the effect of calls

-- the node after a step of a pass: its cache made the step, and its history has the record of it
abbrev pub after_call : NodeValue → ℕ → Op → NodeValue
after_call n pass op = record n {
  records = n.records ++ next_record pass n.records op (step_reply n.cache op) ∷ [];
  cache = after_step n.cache op;
}

-- the longer of two fronts of one row
pub record IsLonger (one other longer : FrontValue) : Type 0 where
  pub events : longer.events ≡ one.events
  pub either : (longer.history ≡ one.history) ⊎ (longer.history ≡ other.history)
  pub first : IsPrefix one.history longer.history
  pub second : IsPrefix other.history longer.history

-- the same, but that it has seen more
abbrev pub seeing : NodeValue → FrontValue → NodeValue
seeing n seen = record n { seen = seen }

-- an event of the history, with its tags
abbrev pub HasTags : History → ℕ → List Tag → Type 0
HasTags L number tags = (number ≤ length L) × (tags ≡ tags_at L number)

-- ---- answers

-- the result of an insertion without its entries
abbrev pub insertion_of : Inserted → Insertion
insertion_of (inserts.Stored reach evicted) = Stored reach
insertion_of (inserts.Kept e) = Kept

-- the stamp of the next event, and its step
abbrev pub next_stamp : NodeValue → ℕ
next_stamp n = n.cache.processed + 1

abbrev pub next_event : NodeValue → Op
next_event n = Event (next_stamp n) (tags_at n.seen.history (next_stamp n))

-- it took each event that it has seen, and each of the history that it is shown
pub record HasTakenAll (n : NodeValue) (shown : History) : Type 0 where
  pub of_its_own : length n.seen.history ≤ n.cache.processed
  pub of_the_shown : length shown ≤ n.cache.processed

-- It took the next event that it has seen, and closed that many entries; or it has taken all.
abbrev pub HasAdvanced : NodeValue → ℕ → NodeValue → Advanced → Type 0
HasAdvanced n pass new (Taken stamp closed) =
    (new ≡ after_call n pass (next_event n)) × (stamp ≡ next_stamp n) × (stamp ≤ length n.seen.history)
    × (closed ≡ closed_count n.cache stamp (tags_at n.seen.history stamp))
HasAdvanced n pass new Idle = (new ≡ n) × (n.cache.processed ≡ length n.seen.history)
