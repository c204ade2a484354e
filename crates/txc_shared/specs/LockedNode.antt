-- Words for what is done under the lock, which only this crate's private functions promise.
use Rattle.std.specs.Prelude.{◌≡◌, ℕ, ◌+◌, ◌^◌, ◌<◌, ◌≤◌, false, List, length, Result, IfErr}
use mathlib.Core.List.{IsPrefix}
use Rattle.txc_stream.specs.Names.{Name, HasRow}
use Rattle.txc_db.specs.FrontsAndFeeds.{taken_at_start}
use Rattle.txc_node.specs.declared.hit.HitValue.{HitValue}
use Rattle.txc_node.specs.declared.record.Record.{Record}
use Rattle.txc_node.specs.declared.reply.Reply.{Reply}
use Rattle.txc_node.specs.Counts.{own_counts, dropped_function, events_by, closed_by, swept_by, trimmed_by}
use Rattle.txc_shared.specs.declared.error.NodeError.{NodeError}
use Rattle.txc_shared.specs.declared.error.NodeError.TheVariants.{HistoryFull, Memory}
use Rattle.txc_shared.specs.declared.prepared.Prepared.{Prepared}
use Rattle.txc_shared.specs.declared.prepared.Prepared.TheVariants.{Stored, Unstored}
use Rattle.txc_shared.specs.Histories.{records_of}
use Rattle.txc_shared.specs.Nodes.{NodeValue, IsHistoryFull, HasRecordRoom}
use Rattle.txc_shared.specs.Passes.{PassValue, HasGrown, IsPassLeft}
use Rattle.txc_shared.specs.Refusals.{IsNodeLeft, IsRefusedThrough}

-- invariant of the content of a node's lock: the node's history and the database's are the named ones; it began
-- where a feed does; and, unless it is broken, it took as many events as were taken from the feed
pub record LiesUnderLock (histories : ℕ → Name) (row : Name) (taken : ℕ) (n : NodeValue) : Type 0 where
  pub name : n.name ≡ histories n.settings.number
  pub events : n.seen.events ≡ row
  pub begun : n.from ≡ taken_at_start row n.from
  pub in_step : n.broken ≡ false → taken ≡ n.cache.processed

-- a node of the pass that is not broken, and has all records that the pass has seen
pub record IsAhead (n : NodeValue) (p : PassValue) : Type 0 where
  pub whole : n.broken ≡ false
  pub settings : p.settings ≡ n.settings
  pub own : p.pass < n.passes
  pub records : IsPrefix p.records n.records

-- the pass may make a step: the node is ahead of it, with as many records of the pass
pub record IsAdmitted (n : NodeValue) (p : PassValue) : Type 0 where
  pub ahead : IsAhead n p
  pub turn : records_of p.pass n.records ≡ records_of p.pass p.records

-- A call through a pass, whatever it returns: the node's history has the name of its number, and the pass has seen
-- no less than before. After an error, which the node or the pass may give, each is left as that error says.
pub record IsStepThrough {T : Type 0} (errors : NodeValue → NodeError → Type 0) (histories : ℕ → Name)
    (old new : NodeValue) (before after : PassValue) (result : Result T NodeError) : Type 0 where
  pub named : old.name ≡ histories old.settings.number
  pub longer : HasGrown before after
  pub unchanged : IfErr result (IsNodeLeft old new)
  pub refused : IfErr result (IsRefusedThrough errors old before)
  pub left : IfErr result (IsPassLeft (histories before.settings.number) before after)

-- ---- records

-- the record that was prepared
abbrev pub record_in : Prepared → Record
record_in (Stored next) = next.value
record_in (Unstored draft) = draft.value

-- it is prepared for a history of this kind
abbrev pub Suits : Name → Prepared → Type 0
Suits name (Stored next) = HasRow name
Suits name (Unstored draft) = ¬ (HasRow name)

-- it is this record, except for the reply if it is stored
abbrev pub AwaitsReply : Record → Prepared → Type 0
AwaitsReply r (Stored next) = record next.value { reply = r.reply } ≡ r
AwaitsReply r (Unstored draft) = draft.value ≡ r

-- both replies count alike, whatever a hit shows
pub record DoCountAlike {H : Type 0} (one : Reply H) (other : Reply HitValue) : Type 0 where
  pub own : own_counts one ≡ own_counts other
  pub dropped : dropped_function one ≡ dropped_function other
  pub events : events_by one ≡ events_by other
  pub closed : closed_by one ≡ closed_by other
  pub swept : swept_by one ≡ swept_by other
  pub trimmed : trimmed_by one ≡ trimmed_by other

-- no record can be appended: the history is full, or has as many records as are counted
abbrev pub IsRoomRefused : Name → List Record → NodeError → Type 0
IsRoomRefused name records HistoryFull = IsHistoryFull name records
IsRoomRefused name records Memory = HasRecordRoom name records × (2 ^ 64 ≤ length records + 1)
IsRoomRefused name records e = ⊥

-- there is room for one record more, and it can be counted
pub record CanGrow (name : Name) (records : List Record) : Type 0 where
  pub room : HasRecordRoom name records
  pub counted : length records + 1 < 2 ^ 64
