-- A read-write transaction: its pending query, and its invariant.
use Rattle.std.specs.Prelude.{◌≡◌, ◌⊎◌, ℕ, ◌<◌, ◌≤◌, List, [], ◌∷◌, ◌++◌, length, map, Vec, vec_len, vec_capacity, Option, Some, None, Result, Ok, Err, false}
use Rattle.std.specs.declared.alloc.Global.{Global}
use Rattle.txc_stamp.specs.Interval.{Interval}
use Rattle.txc_tags.specs.declared.tag.Tag.{Tag}
use Rattle.txc_tags.specs.Keys.{Call}
use Rattle.txc_tags.specs.Tags.{set_of, with_tag}
use Rattle.txc_rows.specs.declared.query.Query.{Query}
use Rattle.txc_rows.specs.declared.query.Change.{Change}
use Rattle.txc_rows.specs.RowTags.{query_tag}
use Rattle.txc_rows.specs.States.{answer}
use Rattle.txc_validity.specs.declared.answer.Found.{Found}
use Rattle.txc_db.specs.declared.error.DbError.{DbError}
use Rattle.txc_db.specs.History.{History, state_at}
use Rattle.txc_app.specs.Eval.{Next}
use Rattle.txc_call_registry.specs.Objects.{Objects}
use Rattle.txc_call.specs.declared.need.Need.{Need}
use Rattle.txc_call.specs.declared.need.Need.TheVariants as needs
use Rattle.txc_call.specs.declared.need.Outcome.{Outcome}
use Rattle.txc_call.specs.CallMachine.{Calling, CallHolds, InCall, IsCalling}
use Rattle.txc_txn_ports.specs.declared.error.TxnError.{TxnError}
use Rattle.txc_txn_ports.specs.declared.error.TxnError.TheVariants.{BufferFull, Memory}
use Rattle.txc_txn_ports.specs.declared.turn.Turn.{Turn}
use Rattle.txc_txn_ports.specs.declared.turn.Turn.TheVariants.{Ask, Ended}
use Rattle.txc_txn_rw.specs.declared.given.Given.{Given}
use Rattle.txc_txn_rw.specs.declared.given.Given.TheVariants as given
use Rattle.txc_txn_rw.specs.declared.reading.Reading.{Reading}
use Rattle.txc_txn_rw.specs.declared.rw_core.TheConstants.{MAX_CHANGES}
use Rattle.txc_txn_rw.specs.Answers.{AgreeOn, AreRightIn, committed, state_of}

-- The value of a core in contracts: its base; every query that the database answered; its results; its changes;
-- its call; and the pending query, if there is one.
pub record RwValue : Type 0 where
  pub base : ℕ
  pub queried : List Query
  pub answers : List Given
  pub changes : List Change
  pub call : Calling
  pub reading : Option Query

-- the set of the queries' tags
abbrev pub tags_of : List Query → List Tag
tags_of queries = set_of (map query_tag queries)

-- the tags of all that was read
abbrev pub tags_read : RwValue → List Tag
tags_read c = tags_of c.queried

-- ---- the state of a core

abbrev pub query_of_reading : Option Reading → Option Query
query_of_reading None = None
query_of_reading (Some r) = Some r.query

-- the query's tag is among those that will have been read, and there is room for the query
abbrev pub IsReady : Option Reading → List Tag → ℕ → ℕ → Type 0
IsReady None tags count room = Unit {0}
IsReady (Some r) tags count room = (r.tags ≡ with_tag (query_tag r.query) tags) × (count < room)

-- the tags are those of the answered queries, there are no more changes than allowed, and the next query is
-- ready
pub record IsRwState (tags : List Tag) (queried : Vec Query Global) (changes : List Change) (reading : Option Reading) : Type 0 where
  pub exact : tags ≡ tags_of queried.items
  pub few : length changes ≤ MAX_CHANGES
  pub ready : IsReady reading tags (vec_len queried) (vec_capacity queried)

-- ---- the invariant of a core

-- nothing was requested, answered or changed
pub record IsBegun (base : ℕ) (c : RwValue) : Type 0 where
  pub at_base : c.base ≡ base
  pub queried : c.queried ≡ []
  pub answers : c.answers ≡ []
  pub changes : c.changes ≡ []
  pub frames : c.call.frames ≡ []
  pub need : c.call.need ≡ None
  pub reading : c.reading ≡ None

-- no call is open, and no query
abbrev pub IsRwIdle : RwValue → Type 0
IsRwIdle c = (c.call.need ≡ None) × (c.reading ≡ None)

-- the query is the call's need, or, if no call is open, the transaction's own; without a query no call is open
abbrev pub ReadingFits : Option Query → Option Need → Type 0
ReadingFits None need = need ≡ None
ReadingFits (Some q) None = Unit {0}
ReadingFits (Some q) (Some need) = need ≡ needs.Query q

-- only the stamp 1
abbrev pub only_one : Interval
only_one = record { lo = 1; known = 1; still = false }

-- in any history: its call waits for its need; the call's answers hold at the stamp 1, by which the call knows
-- the single state that the transaction reads; and the pending query is the need
pub record IsRw (next : Next) (objects : Objects) (c : RwValue) : Type 0 where
  pub call : IsCalling next objects c.call
  pub at_one : InCall 1 c.call
  pub reading : ReadingFits c.reading c.call.need

-- In a history that has the base: each result is correct in the state of the base, and in every other state in
-- which the answered queries have the same answers. So are the answers of the open call.
pub record RwHolds (next : Next) (L : History) (objects : Objects) (c : RwValue) : Type 0 where
  pub within : c.base ≤ length L
  pub answers : (changes : List Change) → AgreeOn c.queried (state_at L c.base) (state_of changes)
      → AreRightIn next (state_of changes) c.answers
  pub call : (changes : List Change) → AgreeOn c.queried (state_at L c.base) (state_of changes)
      → CallHolds next (committed changes) objects c.call

-- ---- needs

-- the call is done, or needs a query or a function
abbrev pub needs_no_node : Option Need → Type 0
needs_no_node None = Unit {0}
needs_no_node (Some (needs.Lookup key)) = ⊥
needs_no_node (Some (needs.Query query)) = Unit {0}
needs_no_node (Some (needs.Insert entry)) = ⊥
needs_no_node (Some (needs.Value outcome)) = Unit {0}
needs_no_node (Some (needs.Begin key)) = Unit {0}
needs_no_node (Some (needs.Resume answer)) = Unit {0}

-- the call needs this query, or, without a query, it has its value
abbrev pub NeedsOnly : Option Query → Option Need → Type 0
NeedsOnly (Some q) need = need ≡ Some (needs.Query q)
NeedsOnly None need = (o : Outcome) × (need ≡ Some (needs.Value o))

-- the call has its value
abbrev pub IsDone : Option Need → Type 0
IsDone None = ⊥
IsDone (Some (needs.Lookup key)) = ⊥
IsDone (Some (needs.Query query)) = ⊥
IsDone (Some (needs.Insert entry)) = ⊥
IsDone (Some (needs.Value outcome)) = Unit {0}
IsDone (Some (needs.Begin key)) = ⊥
IsDone (Some (needs.Resume answer)) = ⊥

-- the call has its value now; or it had none before, and asked as often or more
abbrev pub HasCounted : Calling → Calling → Type 0
HasCounted old new = IsDone new.need ⊎ ((¬ (IsDone old.need)) × (old.asked ≤ new.asked))

-- ---- turns

-- of a call that makes queries
abbrev pub QueryTurn : Type 0
QueryTurn = Turn Query (List ℕ)

-- the database is asked the query that the call needs, or the call has ended
abbrev pub IsRwTurn : RwValue → QueryTurn → Type 0
IsRwTurn c (Ask q) = (c.reading ≡ Some q) × (c.call.need ≡ Some (needs.Query q))
IsRwTurn c (Ended result) = IsRwIdle c

-- a value of the call is one answer more
abbrev pub answers_after : List Given → Call → QueryTurn → List Given
answers_after answers k (Ended (Ok value)) = answers ++ given.Value k value ∷ []
answers_after answers k turn = answers

-- ---- replies

-- the answer to the query is its rows at the base, with its tag
pub record IsFoundAt (L : History) (base : ℕ) (q : Query) (found : Found) : Type 0 where
  pub rows : found.rows.items ≡ answer q (state_at L base)
  pub tag : found.tags ≡ query_tag q ∷ []

-- the reply to the query is right in the history
abbrev pub IsRightReply : History → RwValue → Result Found DbError → Type 0
IsRightReply L c (Ok found) = (q : Query) → c.reading ≡ Some q → IsFoundAt L c.base q found
IsRightReply L c (Err error) = Unit {0}

-- an answered query is one more
abbrev pub queried_after : List Query → Option Query → Result Found DbError → List Query
queried_after queried (Some q) (Ok found) = queried ++ q ∷ []
queried_after queried reading reply = queried

-- ---- errors

-- of a change: there are as many as allowed; otherwise no memory
abbrev pub IsWriteRefused : ℕ → TxnError → Type 0
IsWriteRefused count BufferFull = MAX_CHANGES ≤ count
IsWriteRefused count Memory = count < MAX_CHANGES
IsWriteRefused count error = ⊥
