-- The calls of a page, and the client after them.
use Rattle.std.specs.Prelude.{◌≡◌, ℕ, ◌-◌, ◌^◌, List, [], ◌∷◌, ◌++◌, slice_get, Some, Result, Ok, Err}
use Rattle.std.specs.List.{filter}
use Rattle.txc_stream.specs.Names.{Name}
use Rattle.txc_tags.specs.Keys.{Call}
use Rattle.txc_app.specs.Eval.{Next}
use Rattle.txc_shared.specs.Passes.{PassValue}
use Rattle.txc_txn_ports.specs.declared.bounds.Bounds.{Bounds}
use Rattle.txc_txn_ports.specs.declared.recorded.Recorded.{Recorded}
use Rattle.txc_txn_ports.specs.declared.error.TxnError.{TxnError}
use Rattle.txc_txn_ports.specs.Exchanges.{Exchange}
use Rattle.txc_txn.specs.TxnCore.{KeepsSettings}
use Rattle.txc_txn_client.specs.Laws.{asks, HasAdded}
use Rattle.txc_txn_client.specs.Ports.{HaveGrown}
use Rattle.txc_txn_client.specs.Run.{HasRun}
use Rattle.txc_txn_client.specs.RoTxn.{ClientValue, RoTxnValue, client_of}
use Rattle.txc_site_pages.specs.declared.error.ReadError.{ReadError}
use Rattle.txc_site_pages.specs.declared.error.ReadError.TheVariants as reads
use Rattle.txc_site_ledger.specs.declared.run_error.RunError.{RunError}
use Rattle.txc_site_ledger.specs.declared.run_error.RunError.TheVariants as runs

-- a call and its result: its value, or an error
abbrev pub MadeCall : Type 0
MadeCall = Call × Result (List ℕ) TxnError

-- the recorded result of a call, if it returned a value
abbrev pub answer_of : MadeCall → List Recorded
answer_of (key, Ok value) = record { key = key; value = value } ∷ []
answer_of (key, Err error) = []

-- the results of these calls, listed from the latest, in the order in which they were made; a call that failed
-- has none
abbrev pub answers_of : List MadeCall → List Recorded
answers_of [] = []
answers_of (call ∷ earlier) = answers_of earlier ++ answer_of call

-- These calls of the transaction were made, one after the other, the latest first. Each ran from what the one
-- before it left, and no pass has seen less of its node since.
abbrev pub HaveCalled : Next → Name → (ℕ → Name) → RoTxnValue → List MadeCall → RoTxnValue → Type 0
HaveCalled next row histories old [] new = new ≡ old
HaveCalled next row histories old (call ∷ earlier) new = (before : RoTxnValue) × HaveCalled next row histories old earlier before
    × HasRun next row histories before call.0 new call.1 × HaveGrown before.passes new.passes

-- A transaction of the client began with these bounds and no results. Since then it has made exactly these
-- calls, and the results of those that returned a value are its results.
pub record HasCalled (next : Next) (row : Name) (histories : ℕ → Name) (client : ClientValue) (bounds : Bounds) (t : RoTxnValue) : Type 0 where
  pub first : RoTxnValue
  pub calls : List MadeCall
  pub began : client_of first ≡ client
  pub bounded : first.txn.core.bounds ≡ bounds
  pub none : first.txn.core.recorded ≡ []
  pub made : HaveCalled next row histories first calls t
  pub answered : t.txn.core.recorded ≡ answers_of calls
  pub settings : KeepsSettings first.txn.core t.txn.core
  pub functions : t.txn.objects ≡ first.txn.objects

-- such a transaction, which has these answers, was ended, and left the client so
pub record IsPageRun (next : Next) (row : Name) (histories : ℕ → Name) (client : ClientValue) (bounds : Bounds) (answers : List Recorded)
    (left : ClientValue) : Type 0 where
  pub last : RoTxnValue
  pub called : HasCalled next row histories client bounds last
  pub answered : last.txn.core.recorded ≡ answers
  pub ended : left ≡ client_of last

-- the client after a page that failed: unchanged if the page did not run; otherwise as its transaction left it
abbrev pub IsLeftByRefused : Next → Name → (ℕ → Name) → ClientValue → Bounds → ReadError → ClientValue → Type 0
IsLeftByRefused next row histories client bounds reads.Memory left = left ≡ client
IsLeftByRefused next row histories client bounds (reads.Page cause) left =
    (answers : List Recorded) × IsPageRun next row histories client bounds answers left

-- the requests of these calls and their replies, in order
abbrev pub exchanges_of : (next : Next) (row : Name) (histories : ℕ → Name) (old : RoTxnValue) (calls : List MadeCall) (new : RoTxnValue)
    → HaveCalled next row histories old calls new → List Exchange
exchanges_of next row histories old [] new h = []
exchanges_of next row histories old (call ∷ earlier) new h = exchanges_of next row histories old earlier h.0 h.1 ++ h.2.exchanges

-- After the calls of a page, the client's own records in the history of a node are those before the page, and
-- then those of the calls' exchanges with the node, in order. There is one of each hit and of each entry that
-- the node keeps, at most one of each miss and of each other insertion, and no other.
abbrev pub PageStepsAreItsCalls : Type 0
PageStepsAreItsCalls = (next : Next) (row : Name) (histories : ℕ → Name) (old : RoTxnValue) (calls : List MadeCall) (new : RoTxnValue)
    (made : HaveCalled next row histories old calls new) (node : ℕ) (before after : PassValue)
    → slice_get old.passes node ≡ Some before → slice_get new.passes node ≡ Some after
    → HasAdded (filter (asks node) (exchanges_of next row histories old calls new made)) before after

-- the bounds of a page of the last state: nothing is too old that is not before this stamp
abbrev pub last_bounds : ℕ → Bounds
last_bounds newest = record { now = 2 ^ 64 - 1; staleness = 2 ^ 64 - 1; at_least = newest }

-- the error is the transaction's, not the page's own
abbrev pub IsOfTxn : RunError → Type 0
IsOfTxn (runs.Txn cause) = Unit {0}
IsOfTxn refusal = ⊥

-- of a page: there was no memory before it began; or the page's own error
abbrev pub IsPageRefused : (RunError → Type 0) → ReadError → Type 0
IsPageRefused refuses reads.Memory = Unit {0}
IsPageRefused refuses (reads.Page cause) = refuses cause
