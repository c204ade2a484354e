-- The ports after an act of a read-only transaction, and its errors.
use Rattle.std.specs.Prelude.{◌≡◌, ◌⊎◌, ℕ, List, [], ◌∷◌, ◌++◌, IfSome, Option, Some, None, Result, Err}
use Rattle.txc_tags.specs.Keys.{Call}
use Rattle.txc_node.specs.declared.entry.Entry.{Entry}
use Rattle.txc_node.specs.declared.hit.HitValue.{HitValue}
use Rattle.txc_shared.specs.Nodes.{NodeValue}
use Rattle.txc_cushion.specs.Cushion.{after_add}
use Rattle.txc_cushion.specs.Refusals.{IsAddRefused}
use Rattle.txc_cushion.specs.declared.error.AddError.{AddError}
use Rattle.txc_db.specs.FrontsAndFeeds.{FrontValue}
use Rattle.txc_db.specs.declared.answered.Answered.{Answered}
use Rattle.txc_db.specs.declared.error.DbError.{DbError}
use Rattle.txc_db.specs.declared.error.DbError.TheVariants.{Full}
use Rattle.txc_db.specs.declared.pinned.Pinned.{Pinned}
use Rattle.txc_app.specs.declared.app.Limits.{Limits}
use Rattle.txc_app.specs.declared.ask.Ask.{Ask}
use Rattle.txc_app.specs.declared.ask.Ask.TheVariants as asks
use Rattle.txc_call_registry.specs.Objects.{Objects}
use Rattle.txc_call.specs.CallMachine.{Calling}
use Rattle.txc_call.specs.CallSteps.{AfterRan}
use Rattle.txc_call.specs.declared.error.CallError.{CallError}
use Rattle.txc_call.specs.declared.need.Need.{Need}
use Rattle.txc_txn_ports.specs.declared.kept.Kept.{Kept}
use Rattle.txc_txn_ports.specs.Refusals.{refused_call, refused_pin, refused_request}
use Rattle.txc_txn_ports.specs.declared.error.TxnError.{TxnError}
use Rattle.txc_txn_ports.specs.declared.error.TxnError.TheVariants.{Database, Memory}
use Rattle.txc_txn.specs.TxnCore.{least_present, CoreValue}
use Rattle.txc_txn.specs.RunningTxn.{TxnValue}
use Rattle.txc_txn.specs.Transitions.{IsBeyond}
use Rattle.txc_caller.specs.Ports.{CallerPorts, CallerInsertTransition, CallerLookupTransition, HasPinnedForCaller, HasRefusedPin, IsLetGo}
use Rattle.txc_caller.specs.CallerTxn.{read_stamp}
use Rattle.txc_caller.specs.ComputedFunctions.{computed_calls, top_call}
use Rattle.txc_caller.specs.CallerWrite.{IsAskedQueryRefused}
use Rattle.txc_caller.specs.declared.step.CallerError.{CallerError}
use Rattle.txc_caller.specs.declared.step.CallerError.TheVariants.{Txn}
use Rattle.txc_caller.specs.declared.step.Step.{Step}

-- the error of a call that failed in an act, if it did
abbrev pub step_error : Result Step CallerError → Option TxnError
step_error (Err (Txn error)) = Some error
step_error step = None

-- The step that a function's step makes at the node: a call is looked up; the innermost function's value is
-- inserted, under its call. Or the node fails, or the value is over its budget. A query makes none.
abbrev pub IsNodeStepFor : Option ℕ → List Call → Ask → NodeValue → NodeValue → Type 0
IsNodeStepFor budget computed (asks.Call k) old new =
    (lo : ℕ) × (hi : ℕ) × (hit : Option (Answered HitValue)) × CallerLookupTransition k lo hi old new hit
IsNodeStepFor budget computed (asks.Done bytes) old new = (entry : Entry) × (around : List Call) × (computed ≡ entry.key ∷ around)
    × (entry.value ≡ bytes) × ((seen : FrontValue) × (kept : Option Kept) × CallerInsertTransition budget seen entry old new kept)
IsNodeStepFor budget computed (asks.Query query) old new = new ≡ old

-- the node may have made such a step, and all else of the ports is as it was
pub record IsNodeAsked (computed : List Call) (ask : Ask) (old new : CallerPorts) : Type 0 where
  pub same : new ≡ record old { node = new.node }
  pub step : (new.node ≡ old.node) ⊎ IsNodeStepFor old.budget computed ask old.node new.node

-- ---- the pin of the present

-- The present must be pinned before any other request: for a query if the transaction has no stamp to read at,
-- for an outermost call if it has no pin.
abbrev pub PinsFirst : CoreValue → Ask → Type 0
PinsFirst c (asks.Query query) = read_stamp c ≡ None
PinsFirst c (asks.Call k) = (top_call c.call ≡ None) × (c.pins.members ≡ [])
PinsFirst c (asks.Done bytes) = ⊥

-- the database gave this pin of the transaction's moment, which is one event more
abbrev pub HasGivenPin : CoreValue → CallerPorts → CallerPorts → Pinned → Type 0
HasGivenPin c old new pinned = HasPinnedForCaller c.bounds.now (least_present c.bounds c.pins.members) old new pinned

-- the present was pinned, and the pincushion has the pin, with one user
pub record HasAddedPresent (c : CoreValue) (old : CallerPorts) (pinned : Pinned) (new : CallerPorts) : Type 0 where
  pub given : CallerPorts
  pub gives : HasGivenPin c old given pinned
  pub added : new ≡ record given { cushion = after_add given.cushion pinned }

-- the pincushion did not add a pin that the database had made: its hold is removed
pub record HasDroppedPin (given : CallerPorts) (pinned : Pinned) (cause : AddError) (new : CallerPorts) : Type 0 where
  pub refused : IsAddRefused given.cushion pinned.stamp cause
  pub unheld : IsLetGo (Some pinned.stamp) given.database new.database
  pub same : new ≡ record given { database = new.database }

-- The present was not pinned, for this reason: the database made no pin; or the pincushion did not add it.
abbrev pub HasNotPinnedPresent : CoreValue → CallerPorts → TxnError → CallerPorts → Type 0
HasNotPinnedPresent c old error new =
    ((cause : DbError) × HasRefusedPin (least_present c.bounds c.pins.members) old new cause × (error ≡ refused_request cause))
    ⊎ ((given : CallerPorts) × (pinned : Pinned) × (cause : AddError) × HasGivenPin c old given pinned
    × HasDroppedPin given pinned cause new × (error ≡ refused_pin cause))

-- ---- errors

-- the machine of calls rejected the step, within these limits
pub record IsAskNotRun (limits : Limits) (call : Calling) (objects : Objects) (ask : Ask) (error : TxnError) : Type 0 where
  pub need : Need
  pub needed : call.need ≡ Some need
  pub cause : CallError
  pub after : AfterRan limits call.frames call.asked objects need ask (Err cause)
  pub is : error ≡ refused_call cause

-- Errors of an act that needed no pin of the present: memory was missing; or the machine of calls rejected the
-- step; or the database failed at the query, at the stamp at which the transaction reads. Or the query needs a
-- pin of the present that would be beyond the last stamp.
abbrev pub IsRefusedUnpinned : Limits → CallerPorts → TxnValue → Ask → TxnError → Type 0
IsRefusedUnpinned limits p t ask error = (error ≡ Memory) ⊎ (IsAskNotRun limits t.core.call t.objects ask error
    ⊎ (((stamp : ℕ) × (read_stamp t.core ≡ Some stamp) × IsAskedQueryRefused p.database stamp ask error)
    ⊎ (PinsFirst t.core ask × IsBeyond t.core × (error ≡ Database Full))))

-- .. and of one that made it: memory was missing, or the database failed at the query at the pin
abbrev pub IsRefusedPinned : CallerPorts → Pinned → Ask → TxnError → Type 0
IsRefusedPinned p pinned ask error = (error ≡ Memory) ⊎ IsAskedQueryRefused p.database pinned.stamp ask error

-- ---- the effect of an act

-- No pin of the present was requested. Only the node may have been used, and the transaction has no more pins
-- to return.
pub record HasActedUnpinned (limits : Limits) (old : CallerPorts) (t : TxnValue) (ask : Ask) (new : CallerPorts) (taken : List ℕ)
    (failed : Option TxnError) : Type 0 where
  pub ports : IsNodeAsked (computed_calls t.core.call) ask old new
  pub taken_is : taken ≡ t.core.taken
  pub refused : IfSome failed (IsRefusedUnpinned limits old t ask)

-- The present was pinned if that was due, once, and the transaction must return the pin. Then only the node may
-- have been used.
pub record HasActedPinned (old : CallerPorts) (t : TxnValue) (ask : Ask) (new : CallerPorts) (taken : List ℕ)
    (failed : Option TxnError) : Type 0 where
  pub due : PinsFirst t.core ask
  pub pinned : Pinned
  pub between : CallerPorts
  pub pins : HasAddedPresent t.core old pinned between
  pub ports : IsNodeAsked (computed_calls t.core.call) ask between new
  pub taken_is : taken ≡ t.core.taken ++ pinned.stamp ∷ []
  pub refused : IfSome failed (IsRefusedPinned between pinned ask)

-- The present was to be pinned, and was not: the act failed for that reason, and the transaction has no more
-- pins to return.
pub record HasNotActed (old : CallerPorts) (t : TxnValue) (ask : Ask) (new : CallerPorts) (taken : List ℕ)
    (failed : Option TxnError) : Type 0 where
  pub due : PinsFirst t.core ask
  pub error : TxnError
  pub failed_so : failed ≡ Some error
  pub ports : HasNotPinnedPresent t.core old error new
  pub taken_is : taken ≡ t.core.taken

-- The ports after an act, and the pins that the transaction must return; and the error of its call, if it
-- failed.
abbrev pub CallerActTransition : Limits → CallerPorts → TxnValue → Ask → CallerPorts → List ℕ → Option TxnError → Type 0
CallerActTransition limits old t ask new taken failed = HasActedUnpinned limits old t ask new taken failed
    ⊎ (HasActedPinned old t ask new taken failed ⊎ HasNotActed old t ask new taken failed)
