-- The run of a call of a transaction: its requests and replies, the effect of each request on the passes, and
-- the effect of each reply.
use Rattle.txc_stream.specs.Names.{Name}
use Rattle.std.specs.Prelude.{◌≡◌, ℕ, List, [], ◌∷◌, length, Some, Result, Ok, Err}
use Rattle.txc_rows.specs.RowTags.{query_tag}
use Rattle.txc_tags.specs.Keys.{Call}
use Rattle.txc_db.specs.Calls.{IsPinRefused, IsQueryRefused, IsUnpinRefused}
use Rattle.txc_db.specs.DatabaseReply.{IsQueryAnswer, MayAnswer, MayRefuse}
use Rattle.txc_cushion.specs.Refusals.{IsAddRefused}
use Rattle.txc_cushion.specs.Pincushion.{CushionMayAnswer}
use Rattle.txc_app.specs.Eval.{Next}
use Rattle.txc_call_registry.specs.Objects.{numbers_of}
use Rattle.txc_txn_ports.specs.declared.error.TxnError.{TxnError}
use Rattle.txc_txn_ports.specs.declared.turn.Turn.TheVariants.{Ask, Ended}
use Rattle.txc_txn_ports.specs.Exchanges.{Exchange, reply_of, request_of}
use Rattle.txc_txn_ports.specs.Exchanges as exchanges
use Rattle.txc_txn_ports.specs.PortRequests.{IsAnsweredRight, IsOfRow}
use Rattle.txc_txn.specs.TxnCore.{open_call, IsTurn}
use Rattle.txc_txn_ports.specs.Turns.{PortTurn, IsAsk}
use Rattle.txc_txn.specs.RunningTxn.{HasGoneOn}
use Rattle.txc_txn.specs.Transitions.{StartTransition}
use Rattle.txc_txn_client.specs.Ports.{PassesAfter}
use Rattle.txc_txn_client.specs.RoTxn.{RoTxnValue}

-- An error of the database or the pincushion is one of some database or some pincushion of the history. A pin
-- is the newest event of the history that it shows. An answer to a query is one of some database of the
-- history, over the largest reach that it can return, and with only the query's tag.
abbrev pub IsToldSo : Name → Exchange → Type 0
IsToldSo row (exchanges.Pin now at_least (Ok pinned)) = pinned.stamp ≡ length pinned.front.history
IsToldSo row (exchanges.Pin now at_least (Err error)) = MayRefuse row (λ d. IsPinRefused d at_least) error
IsToldSo row (exchanges.AddPin pinned given (Err error)) =
    CushionMayAnswer row (λ c. IsAddRefused c pinned.stamp) error
IsToldSo row (exchanges.Unpin stamp (Err error)) = MayRefuse row (λ d. IsUnpinRefused d stamp) error
IsToldSo row (exchanges.Query query stamp (Ok found)) =
    MayAnswer row (λ d. IsQueryAnswer d query stamp) found × (found.answer.tags ≡ query_tag query ∷ [])
IsToldSo row (exchanges.Query query stamp (Err error)) =
    MayRefuse row (λ d. IsQueryRefused d query stamp) error
IsToldSo row exchange = Unit {0}

-- the reply is one of the ports of the row, right in the history that it shows
pub record IsGiven (next : Next) (row : Name) (x : Exchange) : Type 0 where
  pub right : IsAnsweredRight next x
  pub of_row : IsOfRow row (reply_of x)
  pub told : IsToldSo row x

-- the call has begun, with this turn, and no pass was used
pub record HasBegun (old : RoTxnValue) (k : Call) (new : RoTxnValue) (turn : PortTurn) : Type 0 where
  pub turn_fits : IsTurn new.txn.core turn
  pub transition : StartTransition old.txn.core old.txn.objects k new.txn.core new.txn.objects turn
  pub begins : IsAsk turn → open_call new.txn.core ≡ Some k
  pub functions : numbers_of new.txn.objects ≡ numbers_of old.txn.objects
  pub same : new.txn.core ≡ record old.txn.core { call = new.txn.core.call; pinning = new.txn.core.pinning }
  pub passes : new.passes ≡ old.passes

-- the turn asks, the request leaves the passes so, and the reply to it leads on to the next turn
pub record ExchangeTransition (next : Next) (row : Name) (node_histories : ℕ → Name) (old : RoTxnValue) (asking : PortTurn)
    (x : Exchange) (new : RoTxnValue) (turn : PortTurn) : Type 0 where
  pub asks : asking ≡ Ask (request_of x)
  pub given : IsGiven next row x
  pub passes : PassesAfter node_histories old.passes x new.passes
  pub goes_on : HasGoneOn next old.txn (reply_of x) new.txn turn

-- the exchanges lead on, one after the other, to the last turn
abbrev pub ExchangesTransition : Next → Name → (ℕ → Name) → RoTxnValue → PortTurn → List Exchange → RoTxnValue → PortTurn → Type 0
ExchangesTransition next row node_histories old asking [] new turn = (new ≡ old) × (turn ≡ asking)
ExchangesTransition next row node_histories old asking (x ∷ exchanges) new turn = (after : RoTxnValue) × (then : PortTurn)
    × ExchangeTransition next row node_histories old asking x after then × ExchangesTransition next row node_histories after then exchanges new turn

-- the call of a transaction ran from its beginning, by such exchanges, until it ended with this
pub record HasRun (next : Next) (row : Name) (node_histories : ℕ → Name) (old : RoTxnValue) (k : Call)
    (new : RoTxnValue) (result : Result (List ℕ) TxnError) : Type 0 where
  pub first : RoTxnValue
  pub first_turn : PortTurn
  pub exchanges : List Exchange
  pub begun : HasBegun old k first first_turn
  pub led : ExchangesTransition next row node_histories first first_turn exchanges new (Ended result)
