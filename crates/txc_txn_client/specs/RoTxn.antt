-- The values of clients and of their transactions in contracts.
use Rattle.std.specs.Prelude.{◌≡◌, ℕ, List, [], Some, All, length, map, true}
use Rattle.txc_stream.specs.Names.{Name}
use Rattle.txc_tags.specs.Keys.{Call}
use Rattle.txc_db.specs.History.{state_at}
use Rattle.txc_cushion.specs.Cushion.{cushion_front, handed_out}
use Rattle.txc_cushion.specs.Pincushion.{CushionMayAnswer}
use Rattle.txc_app.specs.Eval.{Next, eval}
use Rattle.txc_txn_ports.specs.declared.bounds.Bounds.{Bounds}
use Rattle.txc_shared.specs.Passes.{PassValue}
use Rattle.txc_call_registry.specs.Objects.{Objects}
use Rattle.txc_txn.specs.TxnCore.{CoreValue, IsIdle}
use Rattle.txc_txn.specs.RunningTxn.{TxnValue}

-- a client: its passes, one through each node in order, after how long it renews the newest pin, and what the
-- objects of its functions do
pub record ClientValue : Type 0 where
  pub passes : List PassValue
  pub renew_after : ℕ
  pub objects : Objects

-- a transaction: its core and what its objects do, and the passes of its client
pub record RoTxnValue : Type 0 where
  pub txn : TxnValue
  pub passes : List PassValue

-- between two calls: none is open, what was seen is of the row, and there is a pass through each node
pub record IsResting (row : Name) (t : RoTxnValue) : Type 0 where
  pub idle : IsIdle t.txn.core
  pub events : t.txn.core.seen.events ≡ row
  pub nodes : t.txn.core.nodes ≡ length t.passes

-- A core has begun within these bounds, over a database of the row, with the pins that some pincushion of the
-- row issues for them. It uses each of them, has the present, and has no answer.
pub record HasBegunCore (events : Name) (asked : Bounds) (c : CoreValue) : Type 0 where
  pub bounds : c.bounds ≡ asked
  pub recorded : c.recorded ≡ []
  pub members : CushionMayAnswer events (λ cushion (core : CoreValue). (core.seen ≡ cushion_front cushion)
      × (core.pins.members ≡ handed_out cushion asked.now asked.staleness asked.at_least)) c
  pub taken : c.taken ≡ map (λ pin. pin.stamp) c.pins.members
  pub present : c.pins.has_present ≡ true
  pub row : c.seen.events ≡ events

-- the client of a transaction
abbrev pub client_of : RoTxnValue → ClientValue
client_of t =
    record { passes = t.passes; renew_after = t.txn.core.renew_after; objects = t.txn.objects }

-- at every member, this is the uncached value of the call
abbrev pub IsValueAtMembers : Next → CoreValue → Call → List ℕ → Type 0
IsValueAtMembers next c k bytes =
    All (λ p. eval next k (state_at c.seen.history p.stamp) ≡ Some bytes) c.pins.members
