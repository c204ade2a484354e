-- A run of a call, exchange by exchange.
use Rattle.txc_stream.specs.Names.{Name}
use Rattle.std.proofs.Common.{◌≡◌, ℕ, List, [], ◌∷◌, ◌++◌, refl, subst}
use Rattle.std.specs.Prelude.{Result}
use Rattle.txc_tags.specs.Keys.{Call}
use Rattle.txc_app.specs.Eval.{Next}
use Rattle.txc_txn_ports.specs.declared.request.PortRequest.{PortRequest}
use Rattle.txc_txn_ports.specs.declared.reply.PortReply.{PortReply}
use Rattle.txc_txn_ports.specs.Turns.{PortTurn}
use Rattle.txc_txn_ports.specs.declared.error.TxnError.{TxnError}
use Rattle.txc_txn_ports.specs.declared.turn.Turn.TheVariants.{Ask, Ended}
use Rattle.txc_txn_ports.specs.PortRequests.{IsAnsweredRight, IsOfRow, IsReplyTo}
use Rattle.txc_txn_ports.specs.Exchanges.{Exchange, IsExchange}
use Rattle.txc_txn_ports.proofs.Offered.{both_exchange, by_exchange}
use Rattle.txc_txn.specs.RunningTxn.{HasGoneOn}
use Rattle.txc_txn_client.specs.Ports.{PassesAfter}
use Rattle.txc_txn_client.specs.Run.{ExchangeTransition, ExchangesTransition, HasBegun, HasRun, IsToldSo}
use Rattle.txc_txn_client.specs.RoTxn.{RoTxnValue}

module _ (next : Next) (row : Name) (node_histories : ℕ → Name) where
  led_more : (old mid new : RoTxnValue) (asking then turn : PortTurn) (exchanges : List Exchange) (x : Exchange)
      → ExchangesTransition next row node_histories old asking exchanges mid then → ExchangeTransition next row node_histories mid then x new turn
      → ExchangesTransition next row node_histories old asking (exchanges ++ x ∷ []) new turn
  led_more old mid new asking then turn [] x led step = (
    new,
    turn,
    subst (λ (v : RoTxnValue). ExchangeTransition next row node_histories v asking x new turn) led.0 (subst (λ (t : PortTurn). ExchangeTransition next row node_histories mid t x new turn) led.1 step),
    (refl, refl),
  )
  led_more old mid new asking then turn (first ∷ exchanges) x led step =
      (led.0, led.1, led.2, led_more led.0 mid new led.1 then turn exchanges x led.3 step)

  -- the call ran so far, to this turn
  pub record HasRunTo (old : RoTxnValue) (k : Call) (new : RoTxnValue) (turn : PortTurn) : Type 0 where
    pub first : RoTxnValue
    pub first_turn : PortTurn
    pub exchanges : List Exchange
    pub begun : HasBegun old k first first_turn
    pub led : ExchangesTransition next row node_histories first first_turn exchanges new turn

  module _ (old : RoTxnValue) (k : Call) where
    -- it has ended
    pub run_ended : (new : RoTxnValue) (result : Result (List ℕ) TxnError) → HasRunTo old k new (Ended result) → HasRun next row node_histories old k new result
    run_ended new result run =
        record { first = run.first; first_turn = run.first_turn; exchanges = run.exchanges; begun = run.begun; led = run.led }

    -- no exchange yet
    pub run_begun : (new : RoTxnValue) (turn : PortTurn) → HasBegun old k new turn → HasRunTo old k new turn
    run_begun new turn begun =
        record { first = new; first_turn = turn; exchanges = []; begun = begun; led = (refl, refl) }

    -- an exchange more
    pub run_on : (mid new : RoTxnValue) (then turn : PortTurn) (x : Exchange)
        → HasRunTo old k mid then → ExchangeTransition next row node_histories mid then x new turn → HasRunTo old k new turn
    run_on mid new then turn x run step = record {
      first = run.first;
      first_turn = run.first_turn;
      exchanges = run.exchanges ++ x ∷ [];
      begun = run.begun;
      led = led_more run.first mid new run.first_turn then turn run.exchanges x run.led step;
    }

    -- a request that was answered, and what came of the reply, is an exchange more
    pub run_asked : (mid new : RoTxnValue) (then turn : PortTurn) (request : PortRequest) (reply : PortReply) → then ≡ Ask request
        → IsReplyTo next request reply → IsOfRow row reply → IsExchange (IsToldSo row) request reply
        → IsExchange (λ x. PassesAfter node_histories mid.passes x new.passes) request reply → HasGoneOn next mid.txn reply new.txn turn
        → HasRunTo old k mid then → HasRunTo old k new turn
    run_asked mid new then turn request reply asks to of_row told passes goes_on run =
        let given : Exchange → Type 0 = λ x. IsAnsweredRight next x × IsToldSo row x in
        let left : Exchange → Type 0 = λ x. PassesAfter node_histories mid.passes x new.passes in
        by_exchange (λ x. given x × left x)
        (λ q r. then ≡ Ask q → IsOfRow row r → HasGoneOn next mid.txn r new.txn turn → HasRunTo old k new turn)
        (λ x h asks of_row goes_on. run_on mid new then turn x run (record {
          asks = asks;
          given = record { right = h.0.0; of_row = of_row; told = h.0.1 };
          passes = h.1;
          goes_on = goes_on;
        }))
        request reply
        (both_exchange given left request reply (both_exchange (IsAnsweredRight next) (IsToldSo row) request reply to told) passes)
        asks of_row goes_on
