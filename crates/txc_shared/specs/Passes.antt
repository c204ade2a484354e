-- Passes through a node, and what their calls leave.
use Rattle.std.specs.Prelude.{◌≡◌, ◌⊎◌, ℕ, ◌+◌, ◌<◌, ◌≤◌, List, [], ◌∷◌, ◌++◌, length}
use mathlib.Core.List.{IsPrefix}
use Rattle.txc_stream.specs.Names.{Name, stored, unstored}
use Rattle.txc_tags.specs.declared.tag.Tag.{Tag}
use Rattle.txc_db.specs.History.{History}
use Rattle.txc_node.specs.declared.entry.Entry.{Entry}
use Rattle.txc_node.specs.declared.hit.HitValue.{HitValue}
use Rattle.txc_node.specs.declared.node.Inserted.{Inserted}
use Rattle.txc_node.specs.declared.op.Op.{Op}
use Rattle.txc_node.specs.declared.op.Op.TheVariants.{Insert, Event}
use Rattle.txc_node.specs.declared.reply.Reply.{Reply}
use Rattle.txc_node.specs.declared.reply.Reply.TheVariants as replies
use Rattle.txc_node.specs.declared.record.Record.{Record}
use Rattle.txc_shared.specs.declared.advanced.Advanced.{Advanced}
use Rattle.txc_shared.specs.declared.advanced.Advanced.TheVariants.{Taken, Idle}
use Rattle.txc_shared.specs.declared.error.NodeError.{NodeError}
use Rattle.txc_shared.specs.declared.error.NodeError.TheVariants.{HistoryFull}
use Rattle.txc_shared.specs.declared.insertion.Insertion.{Insertion}
use Rattle.txc_shared.specs.declared.settings.NodeSettings.{NodeSettings}
use Rattle.txc_shared.specs.Histories.{records_of, next_record, events_of, IsLegal}
use Rattle.txc_shared.specs.Nodes.{NodeValue, start_of, IsHistoryFull, insertion_of}

-- a pass: the settings of its node, its number, the records that its own last call showed it, those that it
-- has seen, and what it has seen of the database's history
pub record PassValue : Type 0 where
  pub settings : NodeSettings
  pub pass : ℕ
  pub own : List Record
  pub records : List Record
  pub history : History

-- The records are a legal history of a node of these settings. If the database's history is stored, the node
-- began before its first event; otherwise after some of the observed events.
abbrev pub IsLegalOver : Name → History → NodeSettings → List Record → Type 0
IsLegalOver (stored cells) L settings rs = IsLegal L (start_of settings 0) rs
IsLegalOver (unstored number) L settings rs =
    (from : ℕ) × (from ≤ length L) × IsLegal L (start_of settings from) rs

-- it took all events that it has seen, except those before the node began
abbrev pub HasNoneLeft : Name → PassValue → Type 0
HasNoneLeft (stored cells) p = events_of p.records ≡ length p.history
HasNoneLeft (unstored number) p =
    (from : ℕ) × (from + events_of p.records ≡ length p.history) × IsLegal p.history (start_of p.settings from) p.records

-- the pass, having seen no less than before
pub record HasGrown (old new : PassValue) : Type 0 where
  pub is : new ≡ record old { own = new.own; records = new.records; history = new.history }
  pub records : IsPrefix old.records new.records
  pub history : IsPrefix old.history new.history

-- the pass, having seen these records, and the longer of its own history and another
pub record HasSeen (old : PassValue) (all : List Record) (other : History) (new : PassValue) : Type 0 where
  pub grown : HasGrown old new
  pub own : new.own ≡ all
  pub records : new.records ≡ all
  pub either : (new.history ≡ old.history) ⊎ (new.history ≡ other)
  pub history : IsPrefix other new.history

-- the node agrees with the pass: its settings, its number, its turn after its own last call, and the number of
-- records that it has seen
pub record DoAgree (n : NodeValue) (p : PassValue) : Type 0 where
  pub settings : p.settings ≡ n.settings
  pub own : p.pass < n.passes
  pub turn : records_of p.pass n.records ≡ records_of p.pass p.own
  pub seen : length p.records ≤ length n.records

-- ---- the effect of a call

-- the observed records are followed by records of other passes only
pub record GrowsByOthers (pass : ℕ) (old new : List Record) : Type 0 where
  pub others : List Record
  pub is : new ≡ old ++ others
  pub none : records_of pass others ≡ 0

-- the observed records are followed by records of other passes, and then by the next one of its own
pub record HasNextRecord (pass : ℕ) (old new : List Record) (op : Op) (reply : Reply HitValue) : Type 0 where
  pub others : List Record
  pub is : new ≡ old ++ others ++ next_record pass old op reply ∷ []
  pub none : records_of pass others ≡ 0

-- its own next record is of this step and reply
abbrev pub HasMade : PassValue → PassValue → Op → Reply HitValue → Type 0
HasMade old new op reply = HasNextRecord old.pass old.records new.records op reply

-- it inserted the entry, with this result
pub record HasInserted (old new : PassValue) (e : Entry) (insertion : Insertion) : Type 0 where
  pub inserted : Inserted
  pub made : HasMade old new (Insert e) (replies.Inserted inserted)
  pub answer : insertion ≡ insertion_of inserted

-- it took the event of the stamp, and closed that many entries; or no event is left
abbrev pub HasTaken : Name → PassValue → PassValue → Advanced → Type 0
HasTaken row old new (Taken stamp closed) =
    (tags : List Tag) × HasMade old new (Event stamp tags) (replies.Closed closed)
HasTaken row old new Idle = GrowsByOthers old.pass old.records new.records × HasNoneLeft row new

-- the same pass took one event after the other, of these stamps, the latest first, each with a record of its
-- own
abbrev pub HasTakenEach : Name → PassValue → List ℕ → PassValue → Type 0
HasTakenEach row old [] new = new ≡ old
HasTakenEach row old (stamp ∷ earlier) new = (before : PassValue) × (closed : ℕ) × HasTakenEach row old earlier before
    × HasGrown before new × HasTaken row before new (Taken stamp closed)

-- the pass after an error: a full history is seen up to the last of the log's cells; any other error leaves the
-- pass as before
abbrev pub IsPassLeft : Name → PassValue → PassValue → NodeError → Type 0
IsPassLeft name old new HistoryFull =
    GrowsByOthers old.pass old.records new.records × IsHistoryFull name new.records
IsPassLeft name old new e = new ≡ old
