-- A caller, and its transactions that only read.
use Rattle.std.specs.Prelude.{◌≡◌, ◌⊎◌, ℕ, ◌≤◌, List, [], true, map, Option, Some, None, Result}
use Rattle.std.specs.Option.{ForSome}
use mathlib.Core.List.{IsPrefix}
use Rattle.txc_tags.specs.Keys.{Call}
use Rattle.txc_tags.specs.declared.key.TheConstants.{LAST_FUNCTION}
use Rattle.txc_stream.specs.Names.{Name}
use Rattle.txc_rows.specs.States.{State}
use Rattle.txc_db.specs.History.{state_at}
use Rattle.txc_app.specs.Eval.{Next}
use Rattle.txc_cushion.specs.declared.pin.Pin.{Pin}
use Rattle.txc_cushion.specs.Cushion.{after_fresh, handed_out, CushionValue}
use Rattle.txc_pinset.specs.Members.{choice_of}
use Rattle.txc_pinset.specs.declared.choice.Choice.{Choice}
use Rattle.txc_pinset.specs.declared.choice.Choice.TheVariants.{At, Present}
use Rattle.txc_txn_ports.specs.declared.bounds.Bounds.{Bounds}
use Rattle.txc_txn_ports.specs.declared.recorded.Recorded.{Recorded}
use Rattle.txc_call_registry.specs.Objects.{numbers_of, AllIdle, Objects}
use Rattle.txc_call.specs.CallSteps.{NeedsFunction}
use Rattle.txc_txn.specs.TxnCore.{open_call, CoreHolds, CoreValue, IsCore, IsIdle, KeepsSettings}
use Rattle.txc_txn.specs.RunningTxn.{IsTxn, TxnValue}
use Rattle.txc_caller.specs.Ports.{AreGivenBack, CallerPorts}
use Rattle.txc_caller.specs.ComputedFunctions.{HaveAllFunctions, IsStepOf}
use Rattle.txc_caller.specs.declared.step.CallerError.{CallerError}
use Rattle.txc_caller.specs.declared.step.Step.{Step}

-- its database, pincushion and node, and after how long the newest pin is renewed
pub record CallerValue : Type 0 where
  pub ports : CallerPorts
  pub renew_after : ℕ

-- ---- the invariant of a transaction

-- In the history that it has seen, its pin set is correct. There is an object for each function, and one node.
-- The open call is of an existing function.
pub record IsLent (next : Next) (t : TxnValue) : Type 0 where
  pub valid : IsTxn next t
  pub functions : HaveAllFunctions t.objects
  pub top : ForSome (open_call t.core) (λ (k : Call). k.function ≤ LAST_FUNCTION)
  pub nodes : t.core.nodes ≡ 1

-- no call is open; or one of its functions must begin or continue, and no pin is being made
abbrev pub IsRestingCore : CoreValue → Type 0
IsRestingCore c = IsIdle c ⊎ ((c.pinning ≡ None) × NeedsFunction c.call.need)

-- Between two acts it has no pending request. It states nothing about a caller, so it stays true whatever
-- others do.
pub record IsCallerTxn (next : Next) (t : TxnValue) : Type 0 where
  pub lent : IsLent next t
  pub rests : IsRestingCore t.core

-- the transaction is of this caller: it has seen the caller's history, and it renews pins as the caller does
pub record IsOf (c : CallerValue) (t : TxnValue) : Type 0 where
  pub row : t.core.seen.events ≡ c.ports.database.events
  pub renew_after : t.core.renew_after ≡ c.renew_after

-- the states of the stamps at which the transaction may still be serialised
abbrev pub open_states : CoreValue → List State
open_states c = map (λ (m : Pin). state_at c.seen.history m.stamp) c.pins.members

-- the stamp at which a query made now runs; none if it pins the present first
abbrev pub chosen_stamp : Choice → Option ℕ
chosen_stamp (At stamp) = Some stamp
chosen_stamp Present = None

abbrev pub read_stamp : CoreValue → Option ℕ
read_stamp c = chosen_stamp (choice_of c.bounds.now c.renew_after c.pins)

-- ---- acts

-- an answer of a call, with this value
abbrev pub recorded_as : Call → List ℕ → Recorded
recorded_as k value = record { key = k; value = value }

-- the effect of an act in this call
abbrev pub IsReadingStep : CoreValue → CoreValue → Call → Result Step CallerError → Type 0
IsReadingStep old new k step = IsStepOf (recorded_as k) old.recorded new.recorded new.call k step

-- the invariant of its own transaction that each act keeps: the settings and the functions; and more of the
-- same history is seen
pub record KeepsTxn (old new : TxnValue) : Type 0 where
  pub settings : KeepsSettings old.core new.core
  pub functions : numbers_of new.objects ≡ numbers_of old.objects
  pub longer : IsPrefix old.core.seen.history new.core.seen.history
  pub events : new.core.seen.events ≡ old.core.seen.events

-- the invariant of the caller that each act keeps, for every open transaction: the history, and the setting
pub record KeepsCaller (old new : CallerValue) : Type 0 where
  pub row : new.ports.database.events ≡ old.ports.database.events
  pub renew_after : new.renew_after ≡ old.renew_after

-- the caller with another pincushion
abbrev pub with_cushion : CushionValue → CallerValue → CallerValue
with_cushion cushion c = record c { ports = record c.ports { cushion = cushion } }

-- ---- beginnings and ends

-- a core for those bounds, of the row, with the pins that the pincushion issues
pub record IsBegunCore (renewed : ℕ) (asked : Bounds) (row : Name) (cushion : CushionValue) (c : CoreValue) : Type 0 where
  pub fits : (next : Next) (objects : Objects) → AllIdle objects → IsCore next objects c
  pub holds : (next : Next) (objects : Objects) → CoreHolds next c.seen.history objects c
  pub idle : IsIdle c
  pub events : c.seen.events ≡ row
  pub bounds : c.bounds ≡ asked
  pub renew_after : c.renew_after ≡ renewed
  pub nodes : c.nodes ≡ 1
  pub recorded : c.recorded ≡ []
  pub members : c.pins.members ≡ handed_out cushion asked.now asked.staleness asked.at_least
  pub taken : c.taken ≡ map (λ p. p.stamp) (handed_out cushion asked.now asked.staleness asked.at_least)
  pub present : c.pins.has_present ≡ true

-- It has the newest of the pins that its bounds allow, and the present, an object for each function, and no
-- call is open. Each of its pins has one more user, which must be removed at its end, and nothing else of the
-- caller has changed.
pub record IsBegunReading (next : Next) (asked : Bounds) (old new : CallerValue) (t : TxnValue) : Type 0 where
  pub bounds : t.core.bounds ≡ asked
  pub recorded : t.core.recorded ≡ []
  pub valid : IsTxn next t
  pub functions : HaveAllFunctions t.objects
  pub idle : IsIdle t.core
  pub members : t.core.pins.members ≡ handed_out old.ports.cushion asked.now asked.staleness asked.at_least
  pub taken : t.core.taken ≡ map (λ p. p.stamp) (handed_out old.ports.cushion asked.now asked.staleness asked.at_least)
  pub present : t.core.pins.has_present ≡ true
  pub of_caller : IsOf new t
  pub users : new ≡ with_cushion (after_fresh old.ports.cushion asked.now asked.staleness asked.at_least) old

-- its pins are returned, and everything else of the caller stays
pub record HasEndedReading (t : TxnValue) (old new : CallerValue) : Type 0 where
  pub given_back : AreGivenBack t.core.taken old.ports.cushion new.ports.cushion
  pub same : new ≡ with_cushion new.ports.cushion old
