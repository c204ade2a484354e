-- A caller's transactions that write.
use Rattle.std.specs.Prelude.{◌≡◌, ◌⊎◌, ℕ, ◌<◌, Bool, true, false, List, [], ◌∷◌, ◌++◌, length, Option, Some, None, Result, Ok, Err}
use Rattle.txc_tags.specs.Keys.{Call}
use Rattle.txc_rows.specs.States.{State}
use Rattle.txc_rows.specs.declared.query.Change.{Change}
use Rattle.txc_rows.specs.declared.query.Query.{Query}
use Rattle.txc_db.specs.History.{History, state_at}
use Rattle.txc_db.specs.Calls.{IsCommittable, IsCommitRefused, IsLeft, IsQueryRefused}
use Rattle.txc_db.specs.DatabaseValue.{DatabaseValue, after_commit, newest}
use Rattle.txc_db.specs.declared.error.DbError.{DbError}
use Rattle.txc_app.specs.declared.app.Limits.{Limits}
use Rattle.txc_app.specs.Eval.{Next}
use Rattle.txc_app.specs.declared.ask.Ask.{Ask}
use Rattle.txc_app.specs.declared.ask.Ask.TheVariants as asks
use Rattle.txc_txn_ports.specs.Refusals.{refused_call, refused_request}
use Rattle.txc_txn_ports.specs.declared.turn.Turn.TheVariants.{Ask as AskTurn, Ended}
use Rattle.txc_txn_ports.specs.declared.error.TxnError.{TxnError}
use Rattle.txc_txn_ports.specs.declared.error.TxnError.TheVariants.{Memory}
use Rattle.txc_call_registry.specs.Objects.{AllIdle, Objects}
use Rattle.txc_call.specs.CallMachine.{Calling}
use Rattle.txc_call.specs.CallSteps.{AfterRan}
use Rattle.txc_call.specs.declared.error.CallError.{CallError}
use Rattle.txc_call.specs.declared.need.Need.{Need}
use Rattle.txc_validity.specs.declared.answer.Found.{Found}
use Rattle.txc_txn_rw.specs.ByHand.{IsRwByHand, RwHandTurn, RwHearTransition}
use Rattle.txc_txn_rw.specs.RwCore.{IsBegun, IsFoundAt, IsRwIdle, IsWriteRefused, RwHolds, RwValue, tags_read}
use Rattle.txc_txn_rw.specs.declared.given.Given.TheVariants as given
use Rattle.txc_txn_rw.specs.declared.rw_core.TheConstants.{MAX_CHANGES}
use Rattle.txc_caller.specs.Ports.{IsLetGo, MayHaveTaken}
use Rattle.txc_caller.specs.CallerTxn.{CallerValue}
use Rattle.txc_caller.specs.ComputedFunctions.{HaveAllFunctions, IsNextStep, IsStepOf, ended_step, top_call}
use Rattle.txc_caller.specs.declared.step.CallerError.{CallerError}
use Rattle.txc_caller.specs.declared.step.CallerError.TheVariants.{NoFunction, Txn}
use Rattle.txc_caller.specs.declared.step.Step.{Step}
use Rattle.txc_caller.specs.declared.step.WriteError.{WriteError}
use Rattle.txc_caller.specs.declared.step.WriteError.TheVariants as writes

-- its core; the objects that its functions would have; and whether the database holds its base for it
pub record CallerWriting : Type 0 where
  pub core : RwValue
  pub objects : Objects
  pub is_held : Bool

-- Between two acts there is no pending query. There is an object for each function. It states nothing about a
-- caller.
pub record IsCallerWrite (next : Next) (w : CallerWriting) : Type 0 where
  pub fits : IsRwByHand next w.objects w.core
  pub functions : HaveAllFunctions w.objects
  pub rests : w.core.reading ≡ None

-- The transaction is of this caller: its results are correct at its base, in the caller's history, and in each
-- other state in which the answered queries have the same answers. A longer history leaves that true.
abbrev pub IsWriteOf : Next → CallerValue → CallerWriting → Type 0
IsWriteOf next c w = RwHolds next c.ports.database.history w.objects w.core

-- the state that it reads
abbrev pub base_states_in : History → RwValue → List State
base_states_in L core = state_at L core.base ∷ []

abbrev pub base_states : CallerValue → RwValue → List State
base_states c core = base_states_in c.ports.database.history core

-- Nothing is read, changed or computed yet. There is an object for each function, and none runs.
pub record IsBegunWrite (base : ℕ) (held : Bool) (w : CallerWriting) : Type 0 where
  pub core : IsBegun base w.core
  pub idle : AllIdle w.objects
  pub functions : HaveAllFunctions w.objects
  pub is_held : w.is_held ≡ held

-- ---- acts

-- the reply to this query is that of the state of the stamp, or the database's error
abbrev pub IsReplyAt : DatabaseValue → ℕ → Query → Result Found DbError → Type 0
IsReplyAt d base query (Ok found) = IsFoundAt d.history base query found
IsReplyAt d base query (Err error) = IsQueryRefused d query base error

-- The query that the turn asks was asked, at the base, and the core has gone on with the reply. If it asks
-- none, all stays.
abbrev pub HasLed : DatabaseValue → RwValue → RwHandTurn → RwValue → RwHandTurn → Type 0
HasLed d old None new last = (new ≡ old) × (last ≡ None)
HasLed d old (Some (Ended outcome)) new last = (new ≡ old) × (last ≡ Some (Ended outcome))
HasLed d old (Some (AskTurn query)) new last =
    (reply : Result Found DbError) × IsReplyAt d old.base query reply × RwHearTransition old query reply new last

-- the turn asks no query
abbrev pub IsHeard : RwHandTurn → Type 0
IsHeard None = Unit {0}
IsHeard (Some (Ended outcome)) = Unit {0}
IsHeard (Some (AskTurn query)) = ⊥

-- the caller's next step after a turn that makes no query
abbrev pub IsStepAfter : Calling → RwHandTurn → Result Step CallerError → Type 0
IsStepAfter call None result = (step : Step) × (result ≡ Ok step) × IsNextStep call step
IsStepAfter call (Some (Ended outcome)) result = result ≡ ended_step outcome
IsStepAfter call (Some (AskTurn query)) result = ⊥

-- the effect of an act in this call
abbrev pub IsWritingStep : RwValue → RwValue → Call → Result Step CallerError → Type 0
IsWritingStep old new k step = IsStepOf (given.Value k) old.answers new.answers new.call k step

-- the machine of calls rejected the step, within these limits
pub record IsRefusedByCall (limits : Limits) (core : RwValue) (objects : Objects) (ask : Ask) (error : TxnError)
    : Type 0 where
  pub need : Need
  pub needed : core.call.need ≡ Some need
  pub cause : CallError
  pub after : AfterRan limits core.call.frames core.call.asked objects need ask (Err cause)
  pub is : error ≡ refused_call cause

-- the database failed at the query
abbrev pub IsAskedQueryRefused : DatabaseValue → ℕ → Ask → TxnError → Type 0
IsAskedQueryRefused d base (asks.Query query) error =
    (cause : DbError) × IsQueryRefused d query base cause × (error ≡ refused_request cause)
IsAskedQueryRefused d base ask error = ⊥

-- Errors of an act, within these limits: an allocation failed; or the machine of calls rejected the step; or
-- the database failed at the query. Or no function is being computed.
abbrev pub IsActRefused : Limits → DatabaseValue → RwValue → Objects → Ask → CallerError → Type 0
IsActRefused limits d core objects ask (Txn error) =
    (error ≡ Memory) ⊎ (IsRefusedByCall limits core objects ask error ⊎ IsAskedQueryRefused d core.base ask error)
IsActRefused limits d core objects ask NoFunction = top_call core.call ≡ None

-- the queries that count as read after this step was answered
abbrev pub queried_for : Ask → List Query
queried_for (asks.Query query) = query ∷ []
queried_for ask = []

-- of a query of the transaction itself: no memory; or the database failed
abbrev pub IsOwnReadRefused : DatabaseValue → ℕ → Query → TxnError → Type 0
IsOwnReadRefused d base query error =
    (error ≡ Memory) ⊎ ((cause : DbError) × IsQueryRefused d query base cause × (error ≡ refused_request cause))

-- ---- changes

-- the change is the last one, if there were fewer than may be; or all stays
abbrev pub ChangeLeaves : Change → CallerWriting → CallerWriting → Result (Unit {0}) TxnError → Type 0
ChangeLeaves change old new (Ok kept) = (length old.core.changes < MAX_CHANGES)
    × (new ≡ record old { core = record old.core { changes = old.core.changes ++ change ∷ [] } })
ChangeLeaves change old new (Err error) = (new ≡ old) × IsWriteRefused (length old.core.changes) error

-- ---- the end

abbrev pub hold_of : Bool → ℕ → Option ℕ
hold_of true base = Some base
hold_of false base = None

-- the hold of its base, if it has one
abbrev pub held_base : CallerWriting → Option ℕ
held_base w = hold_of w.is_held w.core.base

-- No call is open, and nothing that it read has changed: the changes are committed, the hold of its base is
-- removed, and the node may have taken the events. Everything else of the caller stays.
pub record HasCommittedWrite (old : CallerValue) (w : CallerWriting) (stamp : ℕ) (new : CallerValue) : Type 0 where
  pub idle : IsRwIdle w.core
  pub could : IsCommittable old.ports.database w.core.base (tags_read w.core) w.core.changes
  pub after : IsLetGo (held_base w) (after_commit old.ports.database w.core.changes) new.ports.database
  pub stamp_is : stamp ≡ newest new.ports.database
  pub taken : MayHaveTaken new.ports.database old.ports.node new.ports.node
  pub same : new ≡ record old {
    ports = record old.ports { database = new.ports.database; node = new.ports.node };
  }

-- a call is open; or the database failed
abbrev pub IsWriteCommitRefused : CallerValue → CallerWriting → WriteError → Type 0
IsWriteCommitRefused c w writes.MidCall = ¬ (IsRwIdle w.core)
IsWriteCommitRefused c w (writes.Database error) =
    IsCommitRefused c.ports.database w.core.base (tags_read w.core) w.core.changes error

-- the caller after an error: as before, except that the database may have found itself broken
abbrev pub IsWriteLeft : CallerValue → WriteError → CallerValue → Type 0
IsWriteLeft old writes.MidCall new = new ≡ old
IsWriteLeft old (writes.Database error) new = IsLeft old.ports.database new.ports.database error
    × (new ≡ record old { ports = record old.ports { database = new.ports.database } })

-- it is aborted: the hold of its base is removed, and everything else of the caller stays
pub record HasAbortedWrite (w : CallerWriting) (old new : CallerValue) : Type 0 where
  pub unheld : IsLetGo (held_base w) old.ports.database new.ports.database
  pub same : new ≡ record old { ports = record old.ports { database = new.ports.database } }
