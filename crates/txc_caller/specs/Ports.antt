-- The plain ports of a caller: a database, a pincushion and one node.
use Rattle.std.specs.Prelude.{◌≡◌, ◌⊎◌, ◌<◌, ◌≤◌, ℕ, Bool, true, false, List, length, Option, Some, None, Result, Ok, Err, [], ◌∷◌, ◌++◌}
use Rattle.std.specs.List.{sum_by, AllByRecursion}
use mathlib.Core.List.{IsPrefix}
use Rattle.txc_tags.specs.Keys.{Call}
use Rattle.txc_rows.specs.declared.query.Query.{Query as RowQuery}
use Rattle.txc_rows.specs.declared.store_error.TheConstants.{MOST_MATCHING}
use Rattle.txc_rows.specs.RowTags.{query_tag}
use Rattle.txc_validity.specs.declared.answer.Found.{Found}
use Rattle.txc_validity.specs.Answers.{IsAnswer}
use Rattle.txc_node.specs.Cache.{bytes_of, lookup_answer, outcome, swept_count, trimmed_count}
use Rattle.txc_node.specs.Counts.{trimmed_by}
use Rattle.txc_node.specs.declared.entry.Entry.{Entry}
use Rattle.txc_node.specs.declared.hit.HitValue.{HitValue}
use Rattle.txc_node.specs.declared.op.Op.{Op}
use Rattle.txc_node.specs.declared.op.Op.TheVariants.{Event, Insert, Lookup, Sweep, Trim}
use Rattle.txc_node.specs.declared.record.Record.{Record}
use Rattle.txc_stream.specs.Names.{Name, HasRow}
use Rattle.txc_db.specs.Room.{HasCapacity, AreTagsGone}
use Rattle.txc_db.specs.Calls.{IsLeft, IsQueryRefused, IsPinRefused, IsUnpinRefused, IsVacuumRefused}
use Rattle.txc_db.specs.DatabaseValue.{DatabaseValue, after_pin, after_unpin, after_vacuum, front_of, is_held, newest}
use Rattle.txc_db.specs.History.{moment_at, state_at}
use Rattle.txc_db.specs.FrontsAndFeeds.{FrontValue}
use Rattle.txc_db.specs.declared.answered.Answered.{Answered}
use Rattle.txc_db.specs.declared.error.DbError.{DbError}
use Rattle.txc_db.specs.declared.error.DbError.TheVariants.{Memory}
use Rattle.txc_db.specs.declared.pinned.Pinned.{Pinned}
use Rattle.txc_cushion.specs.declared.error.AddError.{AddError}
use Rattle.txc_cushion.specs.Cushion.{CushionValue, after_add, after_give_back, after_retire, retired}
use Rattle.txc_cushion.specs.Refusals.{IsAddRefused, IsFirstUnused}
use Rattle.txc_app.specs.Eval.{Next}
use Rattle.txc_shared.specs.Nodes.{NodeValue, after_call, seeing, insertion_of, IsLonger}
use Rattle.txc_shared.specs.Refusals.{IsLookupRefused, IsNodeLeft, IsStepRefused}
use Rattle.txc_shared.specs.declared.error.NodeError.{NodeError}
use Rattle.txc_shared.specs.declared.insertion.Insertion.{Insertion}
use Rattle.txc_shared.specs.declared.insertion.Insertion.TheVariants as insertions
use Rattle.txc_txn_ports.specs.declared.kept.Kept.{Kept}
use Rattle.txc_txn_ports.specs.declared.kept.Kept.TheVariants as kepts
use Rattle.txc_txn_ports.specs.PortRequests.{IsFoundOver, IsOfRow, IsReplyTo}
use Rattle.txc_txn_ports.specs.declared.request.PortRequest.{PortRequest}
use Rattle.txc_txn_ports.specs.declared.request.PortRequest.TheVariants as requests
use Rattle.txc_txn_ports.specs.declared.reply.PortReply.{PortReply}
use Rattle.txc_txn_ports.specs.Exchanges.{Exchange, IsExchange}
use Rattle.txc_txn_ports.specs.Exchanges as exchanges
use Rattle.txc_caller.specs.declared.nodes.NodeTotals.{NodeTotals}
use Rattle.txc_caller.specs.Budgets.{node_bytes, fits_alone, HasMadeRoomFor, IsInBudget}

-- it is of the same row, and its history has only grown
pub record HasGrownDatabase (old new : DatabaseValue) : Type 0 where
  pub events : new.events ≡ old.events
  pub longer : IsPrefix old.history new.history

-- the database, the pincushion and the node; and how many bytes the node's values may have in all, if that has
-- a budget
pub record CallerPorts : Type 0 where
  pub database : DatabaseValue
  pub cushion : CushionValue
  pub node : NodeValue
  pub budget : Option ℕ

-- all three are of one history; there is one pass at the node, which is not broken, stores no records and is
-- within its budget
pub record AreCallerPorts (p : CallerPorts) : Type 0 where
  pub cushion : p.cushion.events ≡ p.database.events
  pub node : p.node.seen.events ≡ p.database.events
  pub pass : p.node.passes ≡ 1
  pub unstored : ¬ (HasRow p.node.name)
  pub whole : p.node.broken ≡ false
  pub within : IsInBudget p.budget (node_bytes p.node)

-- the database has room for that many events; or, without a number, it stores none
abbrev pub HasEventRoom : Option ℕ → Name → Type 0
HasEventRoom (Some events) name = HasCapacity name events
HasEventRoom None name = ¬ (HasRow name)

-- nothing has happened in the database, and as many versions may match as can be allowed
pub record IsNewDatabase (d : DatabaseValue) : Type 0 where
  pub history : d.history ≡ []
  pub versions : d.versions ≡ []
  pub limit : d.most ≡ MOST_MATCHING
  pub horizon : d.horizon ≡ 0
  pub holds : d.holds ≡ []
  pub whole : d.broken ≡ false

-- ---- pins

-- a pin of the moment is one event more, its stamp is the newest, and its front shows it
pub record HasPinnedForCaller (now at_least : ℕ) (old new : CallerPorts) (pinned : Pinned) : Type 0 where
  pub after : new ≡ record old { database = after_pin old.database now }
  pub stamp : pinned.stamp ≡ newest new.database
  pub moment : pinned.moment ≡ now
  pub late : at_least ≤ pinned.stamp
  pub front : pinned.front ≡ front_of new.database
  pub shown : moment_at pinned.front.history pinned.stamp ≡ Some pinned.moment

-- the database did not make the pin
pub record HasRefusedPin (at_least : ℕ) (old new : CallerPorts) (e : DbError) : Type 0 where
  pub is : new ≡ record old { database = new.database }
  pub left : IsLeft old.database new.database e
  pub refused : IsPinRefused old.database at_least e

-- of a pin: it was made, or the database failed
abbrev pub CallerPinTransition : ℕ → ℕ → CallerPorts → CallerPorts → Result Pinned DbError → Type 0
CallerPinTransition now at_least old new (Ok pinned) = HasPinnedForCaller now at_least old new pinned
CallerPinTransition now at_least old new (Err e) = HasRefusedPin at_least old new e

-- the pin is in the pincushion; or it was not added, and nothing has changed
abbrev pub CallerAddTransition : {A : Type 0} → Pinned → CallerPorts → CallerPorts → Result A AddError → Type 0
CallerAddTransition pinned old new (Ok added) = new ≡ record old { cushion = after_add old.cushion pinned }
CallerAddTransition pinned old new (Err e) = (new ≡ old) × IsAddRefused old.cushion pinned.stamp e

-- one user of each of the stamps is removed; or one has none left, and nothing has changed
abbrev pub AreGivenBack : List ℕ → CushionValue → CushionValue → Type 0
AreGivenBack stamps old new =
    (new ≡ after_give_back old stamps) ⊎ ((new ≡ old) × ((stamp : ℕ) × IsFirstUnused old.entries stamps stamp))

-- there is one hold of the stamp fewer; or the database failed, and nothing has changed
abbrev pub CallerUnpinTransition : {A : Type 0} → ℕ → CallerPorts → CallerPorts → Result A DbError → Type 0
CallerUnpinTransition stamp old new (Ok unpinned) = (new ≡ record old { database = after_unpin old.database stamp })
    × (is_held stamp old.database.holds ≡ true)
CallerUnpinTransition stamp old new (Err e) = (new ≡ old) × IsUnpinRefused old.database stamp e

-- the hold of a pin that was not added is removed, if there is one; or the database failed
abbrev pub IsLetGo : Option ℕ → DatabaseValue → DatabaseValue → Type 0
IsLetGo None old new = new ≡ old
IsLetGo (Some stamp) old new = (new ≡ after_unpin old stamp)
    ⊎ ((new ≡ old) × ((error : DbError) × IsUnpinRefused old stamp error))

-- a hold of each of the stamps is removed, one after another
abbrev pub AreLetGo : List ℕ → DatabaseValue → DatabaseValue → Type 0
AreLetGo [] old new = new ≡ old
AreLetGo (stamp ∷ stamps) old new =
    (after : DatabaseValue) × IsLetGo (Some stamp) old after × AreLetGo stamps after new

-- the pins that no transaction uses and that are older are gone, and so is a hold of each
pub record HasRetired (now age : ℕ) (old new : CallerPorts) : Type 0 where
  pub cushion : new.cushion ≡ after_retire old.cushion now age
  pub holds : AreLetGo (retired old.cushion now age) old.database new.database
  pub node : new.node ≡ old.node
  pub budget : new.budget ≡ old.budget

-- ---- the database

-- the answer of the query at the stamp, with its validity and its tag, and a front of the whole history
pub record IsAnswerOfWhole (query : RowQuery) (stamp : ℕ) (d : DatabaseValue) (found : Answered Found) : Type 0 where
  pub answer : IsAnswer (state_at d.history) query stamp d.horizon (newest d) found.answer
  pub tag : found.answer.tags ≡ query_tag query ∷ []
  pub front : found.front ≡ front_of d
  pub over : IsFoundOver found.front.history query stamp found.answer

-- of a query: it was answered, or the database failed
abbrev pub CallerFindTransition : RowQuery → ℕ → DatabaseValue → Result (Answered Found) DbError → Type 0
CallerFindTransition query stamp d (Ok found) = IsAnswerOfWhole query stamp d found
CallerFindTransition query stamp d (Err e) = IsQueryRefused d query stamp e

-- ---- the node

-- the node failed at the lookup
abbrev pub HasRefusedLookup : NodeValue → ℕ → ℕ → NodeValue → Type 0
HasRefusedLookup old lo hi new = (e : NodeError) × IsLookupRefused old lo hi e × IsNodeLeft old new e

-- a lookup at exactly these stamps finds this, and is a step of the node; or the node fails, and has nothing
abbrev pub CallerLookupTransition : Call → ℕ → ℕ → NodeValue → NodeValue → Option (Answered HitValue) → Type 0
CallerLookupTransition key lo hi old new (Some hit) = (new ≡ after_call old 0 (Lookup key lo hi))
    × (lookup_answer old.cache key lo hi ≡ Some hit.answer) × (hit.front ≡ old.seen)
CallerLookupTransition key lo hi old new None =
    ((new ≡ after_call old 0 (Lookup key lo hi)) × (lookup_answer old.cache key lo hi ≡ None))
    ⊎ HasRefusedLookup old lo hi new

-- the result of a node's insertion
abbrev pub kept_as : Insertion → Kept
kept_as (insertions.Stored reach) = kepts.Stored reach
kept_as insertions.Kept = kepts.Earlier

-- the node has seen the front's history, and then made the step of the insertion, with this result
pub record HasTakenEntry (seen : FrontValue) (entry : Entry) (old new : NodeValue) (kept : Kept) : Type 0 where
  pub longer : IsLonger old.seen seen new.seen
  pub after : new ≡ after_call (seeing old new.seen) 0 (Insert entry)
  pub answer : kept ≡ kept_as (insertion_of (outcome old.cache entry))

-- the node failed at the step
abbrev pub HasRefusedStep : NodeValue → NodeValue → Type 0
HasRefusedStep old new = (e : NodeError) × IsStepRefused old e × IsNodeLeft old new e

-- the node has made room for the entry within its budget, and takes it, as it is
pub record HasTakenWithin (budget : Option ℕ) (seen : FrontValue) (entry : Entry) (old new : NodeValue) (kept : Kept) : Type 0 where
  pub fits : fits_alone budget (length entry.value) ≡ true
  pub mid : NodeValue
  pub room : HasMadeRoomFor budget (length entry.value) old mid
  pub taken : HasTakenEntry seen entry mid new kept

-- the value is over the budget by itself, and the node is as before
pub record HasDeclined (budget : Option ℕ) (entry : Entry) (old new : NodeValue) : Type 0 where
  pub over : fits_alone budget (length entry.value) ≡ false
  pub same : new ≡ old

-- the node failed to make room, or failed at the insertion after it had
pub record HasRefusedWithin (budget : Option ℕ) (entry : Entry) (old new : NodeValue) : Type 0 where
  pub fits : fits_alone budget (length entry.value) ≡ true
  pub mid : NodeValue
  pub room : (mid ≡ old) ⊎ HasMadeRoomFor budget (length entry.value) old mid
  pub refused : HasRefusedStep mid new

-- the node inserts the entry; or it stores nothing: the value is over the budget, or the node fails
abbrev pub CallerInsertTransition : Option ℕ → FrontValue → Entry → NodeValue → NodeValue → Option Kept → Type 0
CallerInsertTransition budget seen entry old new (Some kept) = HasTakenWithin budget seen entry old new kept
CallerInsertTransition budget seen entry old new None = HasDeclined budget entry old new ⊎ HasRefusedWithin budget entry old new

-- the node drops the entries whose span ends at the horizon or before it; or it fails at the step
abbrev pub CallerSweepTransition : ℕ → NodeValue → NodeValue → Result ℕ NodeError → Type 0
CallerSweepTransition horizon old new (Ok count) =
    (new ≡ after_call old 0 (Sweep horizon)) × (count ≡ swept_count old.cache horizon)
CallerSweepTransition horizon old new (Err e) = IsStepRefused old e × IsNodeLeft old new e

-- the node keeps the longest prefix of its entries whose values have at most `most` bytes in all; or it fails
-- at the step
abbrev pub CallerTrimTransition : ℕ → NodeValue → NodeValue → Result ℕ NodeError → Type 0
CallerTrimTransition most old new (Ok count) =
    (new ≡ after_call old 0 (Trim most)) × (count ≡ trimmed_count old.cache most)
CallerTrimTransition most old new (Err e) = IsStepRefused old e × IsNodeLeft old new e

-- the number of the node's entries, the number of bytes of their values in all, and the number of entries that
-- its trims have dropped
abbrev pub totals_of : NodeValue → NodeTotals
totals_of n = record {
  entries = length n.cache.entries;
  bytes = bytes_of n.cache.entries;
  trimmed = sum_by (λ r. trimmed_by r.reply) n.records;
}

-- a step keeps the node's history, passes, name and settings; and a node that stores no records never becomes
-- broken by it
pub record KeepsNode (old new : NodeValue) : Type 0 where
  pub row : new.seen.events ≡ old.seen.events
  pub same : new ≡ record old { records = new.records; cache = new.cache; seen = new.seen; broken = new.broken }
  pub whole : ¬ (HasRow old.name) → new.broken ≡ old.broken

-- a step is one of taking an event
abbrev pub IsOfEvent : Op → Type 0
IsOfEvent (Event stamp tags) = Unit {0}
IsOfEvent op = ⊥

-- Its history continues only with such steps. If it stores no records, its values have as many bytes as before.
pub record GoesOnByEvents (old new : NodeValue) : Type 0 where
  pub keeps : KeepsNode old new
  pub bytes : ¬ (HasRow old.name) → node_bytes new ≡ node_bytes old
  pub more : List Record
  pub records : new.records ≡ old.records ++ more
  pub events : AllByRecursion (λ r. IsOfEvent r.op) more

-- there is no event that the node has not taken and whose tags are kept
abbrev pub HasNoEventFor : DatabaseValue → NodeValue → Type 0
HasNoEventFor d n = (newest d ≤ n.cache.processed) ⊎ AreTagsGone d.events d.horizon n.cache.processed

-- it has not taken them all
abbrev pub IsBehind : DatabaseValue → NodeValue → Type 0
IsBehind d n = n.cache.processed < newest d

-- it had not taken them all, and still has not
abbrev pub StaysBehind : DatabaseValue → NodeValue → NodeValue → Type 0
StaysBehind d old new = IsBehind d old × IsBehind d new

-- it has taken those that it had not taken; or memory was wanting for one, so that it has not taken them all
abbrev pub MayHaveTaken : DatabaseValue → NodeValue → NodeValue → Type 0
MayHaveTaken d old new = GoesOnByEvents old new × (HasNoEventFor d new ⊎ StaysBehind d old new)

-- the node has taken the events, and only the versions are left that a stamp from the least held one on shows
pub record HasVacuumedPorts (old new : CallerPorts) : Type 0 where
  pub node : GoesOnByEvents old.node new.node
  pub taken : HasNoEventFor old.database new.node
  pub is : new ≡ record old { database = after_vacuum old.database; node = new.node }

-- of a vacuum after that: as of the database's; or no memory for an event, which the node has not taken
abbrev pub IsKeepRefused : DatabaseValue → NodeValue → NodeValue → DbError → Type 0
IsKeepRefused d old new Memory = StaysBehind d old new
IsKeepRefused d old new e = IsVacuumRefused d e

-- ---- requests

-- it is about the pin of the present
abbrev pub is_of_pin : PortRequest → Bool
is_of_pin (requests.Pin now at_least) = true
is_of_pin (requests.AddPin pinned) = true
is_of_pin (requests.Unpin stamp) = true
is_of_pin request = false

-- The effect of a request with this reply: a pin is made; a pin is added, or a hold removed; the node makes a
-- step. A query changes nothing. An error changes nothing of this.
abbrev pub CallerExchangeTransition : FrontValue → CallerPorts → CallerPorts → Exchange → Type 0
CallerExchangeTransition seen old new (exchanges.Pin now at_least pinned) = CallerPinTransition now at_least old new pinned
CallerExchangeTransition seen old new (exchanges.AddPin pinned given added) = CallerAddTransition pinned old new added
CallerExchangeTransition seen old new (exchanges.Unpin stamp unpinned) = CallerUnpinTransition stamp old new unpinned
CallerExchangeTransition seen old new (exchanges.Lookup node key lo hi hit) =
    (new ≡ record old { node = new.node }) × CallerLookupTransition key lo hi old.node new.node hit
CallerExchangeTransition seen old new (exchanges.Query query stamp found) =
    (new ≡ old) × CallerFindTransition query stamp old.database found
CallerExchangeTransition seen old new (exchanges.Insert node entry kept) =
    (new ≡ record old { node = new.node }) × CallerInsertTransition old.budget seen entry old.node new.node kept

-- The reply is one to the request, and correct in the history that it shows, which is the named one; and this
-- is the effect of the request. The history only grows.
pub record HasAskedPorts (next : Next) (seen : FrontValue) (request : PortRequest) (old new : CallerPorts)
    (reply : PortReply) : Type 0 where
  pub answer : IsReplyTo next request reply
  pub row : IsOfRow old.database.events reply
  pub transition : IsExchange (CallerExchangeTransition seen old new) request reply
  pub grown : HasGrownDatabase old.database new.database
