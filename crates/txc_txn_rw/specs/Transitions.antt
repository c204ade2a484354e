-- The run of a call of a transaction, by its replies and their effects.
use Rattle.std.specs.Prelude.{◌≡◌, ◌⊎◌, ℕ, List, [], ◌∷◌, ◌++◌, Vec, Some, None, Result, Ok, Err}
use Rattle.std.specs.List.{flat_map}
use Rattle.std.specs.declared.alloc.Global.{Global}
use Rattle.txc_stream.specs.Names.{Name}
use Rattle.txc_tags.specs.Keys.{Call}
use Rattle.txc_rows.specs.declared.query.Query.{Query}
use Rattle.txc_rows.specs.States.{RowValue, State, answer}
use Rattle.txc_validity.specs.declared.answer.Found.{Found}
use Rattle.txc_db.specs.declared.error.DbError.{DbError}
use Rattle.txc_db.specs.Calls.{IsQueryRefused}
use Rattle.txc_db.specs.History.{state_at}
use Rattle.txc_db.specs.DatabaseReply.{MayRefuse}
use Rattle.txc_app.specs.Eval.{Next}
use Rattle.txc_call_registry.specs.Objects.{Objects}
use Rattle.txc_call.specs.declared.need.Need.{Need}
use Rattle.txc_call.specs.declared.need.Need.TheVariants as needs
use Rattle.txc_call.specs.declared.need.Outcome.{Outcome}
use Rattle.txc_call.specs.declared.reply.Reply.{Reply}
use Rattle.txc_call.specs.declared.reply.Reply.TheVariants as replies
use Rattle.txc_call.specs.CallMachine.{Calling, started}
use Rattle.txc_call.specs.MachineTurn.{Turn as CallTurn, AfterReply}
use Rattle.txc_txn_ports.specs.declared.error.TxnError.{TxnError}
use Rattle.txc_txn_ports.specs.declared.error.TxnError.TheVariants.{Memory}
use Rattle.txc_txn_ports.specs.declared.turn.Turn.TheVariants.{Ask, Ended}
use Rattle.txc_txn_ports.specs.Refusals.{refused_call, refused_request}
use Rattle.txc_txn_rw.specs.declared.given.Given.TheVariants as given
use Rattle.txc_txn_rw.specs.RwCore.{QueryTurn, RwValue}
use Rattle.txc_txn_rw.specs.RwTxn.{RwTxnValue}

-- ---- steps

-- a need of a call, and the reply
pub record Step : Type 0 where
  pub need : Need
  pub reply : Reply

-- the reply of no cache: a lookup is a miss, an insertion is passed over, and a query has its rows in the
-- state
abbrev pub IsUncached : State → Need → Reply → Type 0
IsUncached s (needs.Lookup k) reply = reply ≡ replies.Miss
IsUncached s (needs.Query q) (replies.Found found) = found.rows.items ≡ answer q s
IsUncached s (needs.Insert e) reply = reply ≡ replies.Inserted
IsUncached s need reply = ⊥

-- the call is in this state, and such a reply to its need leads it to the next
abbrev pub IsStepAt : Next → State → CallTurn → Step → CallTurn → Type 0
IsStepAt next s (Ok from) step after = (from.need ≡ Some step.need) × IsUncached s step.need step.reply
    × AfterReply next from.frames from.asked from.objects step.need step.reply after
IsStepAt next s (Err error) step after = ⊥

-- such replies lead it, one after the other, to its last state, or to its error
abbrev pub IsLedAt : Next → State → CallTurn → List Step → CallTurn → Type 0
IsLedAt next s from [] end = end ≡ from
IsLedAt next s from (step ∷ steps) end =
    (after : CallTurn) × IsStepAt next s from step after × IsLedAt next s after steps end

-- the query that was needed, if it was one
abbrev pub query_in : Need → List Query
query_in (needs.Lookup k) = []
query_in (needs.Query q) = q ∷ []
query_in (needs.Insert e) = []
query_in (needs.Value o) = []
query_in (needs.Begin k) = []
query_in (needs.Resume x) = []

-- the answered queries
abbrev pub queries_in : List Step → List Query
queries_in steps = flat_map (λ step. query_in step.need) steps

-- such replies lead it from the one state to the other, and these queries were answered on the way
pub record IsLedTo (next : Next) (s : State) (from : CallTurn) (queries : List Query) (end : CallTurn)
    : Type 0 where
  pub steps : List Step
  pub led : IsLedAt next s from steps end
  pub answered : queries_in steps ≡ queries

-- the call's state, with the state of the objects
abbrev pub standing_of : Calling → Objects → CallTurn
standing_of call objects =
    Ok (record { frames = call.frames; asked = call.asked; need = call.need; objects = objects })

-- ---- the core

-- The core's step once its call is in this state. It makes the query that the call needs, and the call stays in
-- this state; or the call's value is that of the turn; or it fails, as the call does, or for memory.
abbrev pub RwStandingTransition : CallTurn → RwValue → Objects → QueryTurn → Type 0
RwStandingTransition (Ok standing) new objects (Ask query) = standing_of new.call objects ≡ Ok standing
RwStandingTransition (Ok standing) new objects (Ended (Ok value)) = (o : Outcome)
    × (standing.need ≡ Some (needs.Value o)) × (value ≡ o.value) × (objects ≡ standing.objects)
RwStandingTransition (Ok standing) new objects (Ended (Err error)) = error ≡ Memory
RwStandingTransition (Err error) new objects turn = turn ≡ Ended (Err (refused_call error))

-- if these queries are answered on the way, the call gets into a state in which the core does this
abbrev pub RwCallTransition : Next → State → CallTurn → List Query → RwValue → Objects → QueryTurn → Type 0
RwCallTransition next s from queries new objects turn =
    (stands : CallTurn) × IsLedTo next s from queries stands × RwStandingTransition stands new objects turn

-- The effect of the database's answer to the transaction's own query. It counts as read, and its rows are one
-- more result; or it counts as read, and fails for memory; or it fails as the database does.
abbrev pub RowsTransition : RwValue → Query → Result Found DbError → RwValue → Result (Vec RowValue Global) TxnError
    → Type 0
RowsTransition old q (Ok found) new (Ok rows) = (rows.items ≡ found.rows.items) × (new ≡ record old {
  queried = old.queried ++ q ∷ [];
  answers = old.answers ++ given.Rows q rows.items ∷ [];
  reading = None;
})
RowsTransition old q (Ok found) new (Err error) = (error ≡ Memory)
    × (new ≡ record old { queried = old.queried ++ q ∷ []; reading = None })
RowsTransition old q (Err cause) new result = (result ≡ Err (refused_request cause))
    × (new ≡ record old { reading = None })

-- ---- the transaction

-- some database of the history fails so at the query at the base
abbrev pub IsQueryRefusedAt : Name → ℕ → Query → TxnError → Type 0
IsQueryRefusedAt row base q error = (cause : DbError)
    × MayRefuse row (λ d. IsQueryRefused d q base) cause × (error ≡ refused_request cause)

-- the end of a call in this state: with its value; with the call's error; or, if it needs a query, with the
-- database's error; or with no memory
abbrev pub EndsCall : Name → ℕ → CallTurn → Objects → Result (List ℕ) TxnError → Type 0
EndsCall row base (Ok standing) objects (Ok value) = (o : Outcome) × (standing.need ≡ Some (needs.Value o))
    × (value ≡ o.value) × (objects ≡ standing.objects)
EndsCall row base (Ok standing) objects (Err error) = (error ≡ Memory)
    ⊎ ((q : Query) × (standing.need ≡ Some (needs.Query q)) × IsQueryRefusedAt row base q error)
EndsCall row base (Err cause) objects result = result ≡ Err (refused_call cause)

-- a call in a state: replies of no cache led it to its last state; exactly the queries answered on the way
-- count as read; and it ended so
pub record IsUncachedRun (next : Next) (row : Name) (s : State) (from : CallTurn) (old new : RwValue)
    (objects : Objects) (result : Result (List ℕ) TxnError) : Type 0 where
  pub queries : List Query
  pub stands : CallTurn
  pub led : IsLedTo next s from queries stands
  pub queried : new.queried ≡ old.queried ++ queries
  pub ended : EndsCall row old.base stands objects result

-- the call of a transaction ran in the state of its base, from its start
abbrev pub HasRunAtBase : Next → Name → RwTxnValue → Call → RwTxnValue → Result (List ℕ) TxnError → Type 0
HasRunAtBase next row old k new result = IsUncachedRun next row (state_at old.history old.core.base)
    (standing_of (started k) old.objects) old.core new.core new.objects result

-- of a query of its own: no memory, or as the database fails
abbrev pub IsQueryRefusal : Name → ℕ → Query → TxnError → Type 0
IsQueryRefusal row base q error = (error ≡ Memory) ⊎ IsQueryRefusedAt row base q error

-- the transaction after a failed query: as before, except that it may have been answered if memory was missing
abbrev pub IsQueryLeft : RwValue → Query → RwValue → TxnError → Type 0
IsQueryLeft old q new error = (new ≡ old)
    ⊎ ((error ≡ Memory) × (new ≡ record old { queried = old.queried ++ q ∷ [] }))
