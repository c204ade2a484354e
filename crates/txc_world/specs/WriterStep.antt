-- The effect of a step of a read-write transaction.
use Rattle.std.specs.Prelude.{◌≡◌, ◌⊎◌, ℕ, List, [], ◌∷◌, ◌++◌, Vec, Result, Ok, Err, Option, Some, None, IsNone, IsSome}
use Rattle.std.specs.declared.alloc.Global.{Global}
use Rattle.txc_tags.specs.Keys.{Call}
use Rattle.txc_rows.specs.declared.query.Query.{Query}
use Rattle.txc_rows.specs.declared.query.Change.{Change}
use Rattle.txc_rows.specs.States.{RowValue, State}
use Rattle.txc_validity.specs.declared.answer.Found.{Found}
use Rattle.txc_db.specs.declared.error.DbError.{DbError}
use Rattle.txc_db.specs.History.{state_at}
use Rattle.txc_app.specs.Eval.{Next}
use Rattle.txc_call_registry.specs.Objects.{activity_of, Objects}
use Rattle.txc_call.specs.declared.error.CallError.TheVariants.{NoFunction}
use Rattle.txc_call.specs.CallMachine.{started}
use Rattle.txc_txn_ports.specs.declared.error.TxnError.{TxnError}
use Rattle.txc_txn_ports.specs.declared.error.TxnError.TheVariants.{Call as CallRefused, Memory}
use Rattle.txc_txn_ports.specs.declared.turn.Turn.TheVariants as turns
use Rattle.txc_txn_ports.specs.Refusals.{refused_request}
use Rattle.txc_txn_rw.specs.declared.given.Given.{Given}
use Rattle.txc_txn_rw.specs.declared.given.Given.TheVariants as given
use Rattle.txc_txn_rw.specs.RwCore.{queried_after, tags_read, IsBegun, QueryTurn, RwValue}
use Rattle.txc_txn_rw.specs.Transitions.{standing_of, RwCallTransition}
use Rattle.txc_world.specs.declared.port_outcome.PortOutcome.{PortOutcome}
use Rattle.txc_world.specs.declared.reply.Reply.{Reply}
use Rattle.txc_world.specs.declared.reply.Reply.TheVariants.{Asked, At, Based, Ended, Kept, Refused}
use Rattle.txc_world.specs.declared.reply.Refusal.TheVariants.{Database}
use Rattle.txc_world.specs.Ports.{PortsValue}
use Rattle.txc_world.specs.PortRequests.{DoesTellFound, HoldTransition, QueryTransition}
use Rattle.txc_world.specs.KeeperAtPorts.{CommitTransition}
use Rattle.txc_world.specs.ActorValues.{call_at_turn, ActorValue, CallValue, WritingValue, resting, writes}
use Rattle.txc_world.specs.Actors.{IsGivenUp, IsNoted, IsToldQuery}

-- a transaction began at the newest stamp, which is held, with the functions unchanged; or the database failed,
-- and still nothing is open
abbrev pub BeginRwTransition : PortsValue → PortsValue → Objects → ActorValue → Reply → Type 0
BeginRwTransition old new objects (writes w) reply = (base : ℕ) × HoldTransition old new (Ok base)
    × IsBegun base w.core × (w.objects ≡ objects) × (w.call ≡ None) × (reply ≡ Based base)
BeginRwTransition old new objects (resting left) reply = (e : DbError) × HoldTransition old new (Err e)
    × (left ≡ objects) × (reply ≡ Refused (Database e))
BeginRwTransition old new objects actor reply = ⊥

-- a call is open, with the turn that its start gave, before any query; a call of an unknown function fails
pub record HasStartedRw (next : Next) (key : Call) (before : WritingValue) (actor : ActorValue) : Type 0 where
  pub core : RwValue
  pub objects : Objects
  pub turn : QueryTurn
  pub actor_is : actor ≡ writes (record { core = core; objects = objects; call = Some (call_at_turn key turn) })
  pub transition : IsSome (activity_of before.objects key.function)
      → (s : State) → RwCallTransition next s (standing_of (started key) before.objects) [] core objects turn
  pub missing : IsNone (activity_of before.objects key.function)
      → turn ≡ turns.Ended (Err (CallRefused (NoFunction key.function)))
  pub same : core ≡ record before.core { answers = core.answers; call = core.call; reading = core.reading }

-- One request of a call. Its query was made at the base, and counts as read if it was answered. The call
-- continued with the rows, or failed with the database's error.
pub record HasAskedRw (next : Next) (query : Query) (p : PortsValue) (before after : RwValue)
    (was is : Objects) (did : PortOutcome) (turn : QueryTurn) : Type 0 where
  pub found : Result Found DbError
  pub answer : QueryTransition query before.base p found
  pub tells : DoesTellFound found did
  pub queried : after.queried ≡ queried_after before.queried (Some query) found
  pub transition : (f : Found) → found ≡ Ok f
      → RwCallTransition next (state_at p.database.history before.base) (standing_of before.call was) (query ∷ [])
      after is turn
  pub refused : (e : DbError) → found ≡ Err e → turn ≡ turns.Ended (Err (refused_request e))
  pub same : after ≡ record before {
    queried = after.queried;
    answers = after.answers;
    call = after.call;
    reading = after.reading;
  }

-- the open call made the request, and is open still or has ended at the turn that came of it
pub record HasRequestedRw (next : Next) (key : Call) (query : Query) (p : PortsValue) (before : WritingValue)
    (actor : ActorValue) (reply : Reply) : Type 0 where
  pub core : RwValue
  pub objects : Objects
  pub call : Option (CallValue Query)
  pub did : PortOutcome
  pub end : Option (Result (List ℕ) TxnError)
  pub turn : QueryTurn
  pub actor_is : actor ≡ writes (record { core = core; objects = objects; call = call })
  pub reply_is : reply ≡ Asked did end
  pub asks : HasAskedRw next query p before.core core before.objects objects did turn
  pub noted : IsNoted (call_at_turn key) turn call end

-- a request at a turn of the open call: its query is asked; or the call had ended, which is shown, and nothing
-- else has changed
abbrev pub RequestTransitionRw : Next → Call → QueryTurn → PortsValue → WritingValue → ActorValue → Reply → Type 0
RequestTransitionRw next key (turns.Ask query) p before actor reply = HasRequestedRw next key query p before actor reply
RequestTransitionRw next key (turns.Ended result) p before actor reply = (actor ≡ writes (record before { call = None }))
    × (reply ≡ Ended result)

-- a query of the transaction itself: its rows are those found at the base; or it failed with the database's
-- error, or there is no memory
abbrev pub FindTransitionRw : Query → ℕ → PortsValue → Result (Vec RowValue Global) TxnError → Type 0
FindTransitionRw query base p (Ok rows) = (found : Found) × QueryTransition query base p (Ok found)
    × (rows.items ≡ found.rows.items)
FindTransitionRw query base p (Err e) = (e ≡ Memory)
    ⊎ ((cause : DbError) × QueryTransition query base p (Err cause) × (e ≡ refused_request cause))

-- a query that was answered is added to those read; one that failed may be
abbrev pub IsRead : Query → List Query → List Query → Result (Vec RowValue Global) TxnError → Type 0
IsRead query old new (Ok rows) = new ≡ old ++ query ∷ []
IsRead query old new (Err e) = (new ≡ old ++ query ∷ []) ⊎ (new ≡ old)

-- the rows of a query of its own are one answer more
abbrev pub with_rows : Query → List Given → Result (Vec RowValue Global) TxnError → List Given
with_rows query answers (Ok rows) = answers ++ given.Rows query rows.items ∷ []
with_rows query answers (Err e) = answers

-- a query of its own gave this, and no call is open
pub record HasFoundRw (query : Query) (p : PortsValue) (before : WritingValue) (actor : ActorValue)
    (reply : Reply) : Type 0 where
  pub core : RwValue
  pub result : Result (Vec RowValue Global) TxnError
  pub told : IsToldQuery result reply
  pub found : FindTransitionRw query before.core.base p result
  pub actor_is : actor ≡ writes (record { core = core; objects = before.objects; call = None })
  pub read : IsRead query before.core.queried core.queried result
  pub same : core ≡ record before.core { queried = core.queried; answers = core.answers }

-- the change is added after those before it; or nothing has changed
abbrev pub WriteTransitionRw : Change → WritingValue → ActorValue → Reply → Type 0
WriteTransitionRw change before actor Kept = actor ≡ writes (record before {
  core = record before.core { changes = before.core.changes ++ change ∷ [] };
})
WriteTransitionRw change before actor reply = actor ≡ writes before

-- a commit: the changes were committed at the base with the tags of all that was read, and the hold of the base
-- was released; or the database failed, and the transaction is unchanged
abbrev pub CommitTransitionRw : PortsValue → PortsValue → WritingValue → ActorValue → Reply → Type 0
CommitTransitionRw old new before actor (At stamp) =
    CommitTransition before.core.base (tags_read before.core) before.core.changes old new (Ok stamp)
    × IsGivenUp (Some before.core.base) before.objects actor
CommitTransitionRw old new before actor (Refused (Database e)) =
    CommitTransition before.core.base (tags_read before.core) before.core.changes old new (Err e)
    × (actor ≡ writes before)
CommitTransitionRw old new before actor reply = ⊥
