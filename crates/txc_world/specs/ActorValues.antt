-- The value of an actor in contracts.
use Rattle.std.specs.Prelude.{ℕ, List, [], Option, None, Some}
use Rattle.std.specs.Option.{option_map}
use Rattle.txc_tags.specs.Keys.{Call}
use Rattle.txc_call_registry.specs.Objects.{Objects}
use Rattle.txc_rows.specs.declared.query.Query.{Query}
use Rattle.txc_txn_ports.specs.declared.request.PortRequest.{PortRequest}
use Rattle.txc_txn_ports.specs.declared.turn.Turn.{Turn}
use Rattle.txc_txn.specs.RunningTxn.{TxnValue}
use Rattle.txc_txn_rw.specs.RwCore.{RwValue}
use Rattle.txc_world.specs.declared.actor.OpenCall.{OpenCall}
use Rattle.txc_world.specs.declared.actor.OpenTxn.{OpenTxn}
use Rattle.txc_world.specs.declared.actor.OpenRw.{OpenRw}
use Rattle.txc_world.specs.declared.actor.Actor.{Actor}
use Rattle.txc_world.specs.declared.actor.Actor.TheVariants.{Idle, Reading, Writing, Leaving}

-- a call that did not end for its caller yet: its key, and what it does next
pub record CallValue (R : Type 0) : Type 0 where
  pub key : Call
  pub turn : Turn R (List ℕ)

-- an open read-only transaction, with its call, if one is open
pub record ReadingValue : Type 0 where
  pub txn : TxnValue
  pub call : Option (CallValue PortRequest)

-- an open read-write transaction, with what its objects do and its call, if one is open
pub record WritingValue : Type 0 where
  pub core : RwValue
  pub objects : Objects
  pub call : Option (CallValue Query)

-- an actor is idle; or has a read-only or a read-write transaction open; or that has ended, and the hold of a
-- stamp must still be removed
pub data ActorValue : Type 0 where
  resting : Objects → ActorValue
  reads : ReadingValue → ActorValue
  writes : WritingValue → ActorValue
  leaves : Objects → ℕ → ActorValue

-- a call of this key, by its turn
abbrev pub call_at_turn : {R : Type 0} → Call → Turn R (List ℕ) → CallValue R
call_at_turn key turn = record { key = key; turn = turn }

-- ---- the state that they are made from

-- the same as it is kept
abbrev pub opened : {R : Type 0} → Call → Turn R (List ℕ) → OpenCall R
opened key turn = record { key = key; turn = turn }

abbrev pub call_value : {R : Type 0} → OpenCall R → CallValue R
call_value call = call_at_turn call.key call.turn

abbrev pub reading_value : {A C : Type 0} → OpenTxn A C → ReadingValue
reading_value o = record { txn = o.txn; call = option_map call_value o.call }

abbrev pub writing_value : {A C : Type 0} → OpenRw A C → WritingValue
writing_value o = record { core = o.core; objects = o.registry; call = option_map call_value o.call }

abbrev pub actor_value : {A C : Type 0} → Actor A C → ActorValue
actor_value (Idle objects) = resting objects
actor_value (Reading o) = reads (reading_value o)
actor_value (Writing o) = writes (writing_value o)
actor_value (Leaving objects stamp) = leaves objects stamp

abbrev pub actor_at : {A C : Type 0} → Option (Actor A C) → ActorValue
actor_at None = resting []
actor_at (Some actor) = actor_value actor
