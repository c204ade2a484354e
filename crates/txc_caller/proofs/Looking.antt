-- What the node had of a call.
use Rattle.std.proofs.Common.{◌≡◌, true, Ok, Err, ap}
use Rattle.txc_db.specs.FrontsAndFeeds.{FrontValue}
use Rattle.txc_txn_ports.specs.declared.request.PortRequest.{PortRequest}
use Rattle.txc_txn_ports.specs.declared.reply.PortReply.{PortReply}
use Rattle.txc_txn_ports.specs.Exchanges.{Exchange, IsExchange, reply_of, request_of}
use Rattle.txc_txn_ports.specs.Exchanges as exchanges
use Rattle.txc_txn_ports.proofs.Offered.{by_exchange}
use Rattle.txc_txn.specs.TxnCore.{CoreAsks, CoreValue}
use Rattle.txc_caller.specs.NodeLookup.{IsLookedUp}
use Rattle.txc_caller.specs.Ports.{is_of_pin, CallerExchangeTransition, CallerPorts}

module _ (seen : FrontValue) (old new : CallerPorts) where
  node_in : (x : Exchange) → CallerExchangeTransition seen old new x → is_of_pin (request_of x) ≡ true → new.node ≡ old.node
  node_in (exchanges.Pin now at_least (Ok pinned)) transition of = ap (λ (p : CallerPorts). p.node) transition.after
  node_in (exchanges.Pin now at_least (Err error)) transition of = ap (λ (p : CallerPorts). p.node) transition.is
  node_in (exchanges.AddPin pinned given (Ok added)) transition of = ap (λ (p : CallerPorts). p.node) transition
  node_in (exchanges.AddPin pinned given (Err error)) transition of = ap (λ (p : CallerPorts). p.node) transition.0
  node_in (exchanges.Unpin stamp (Ok unpinned)) transition of = ap (λ (p : CallerPorts). p.node) transition.0
  node_in (exchanges.Unpin stamp (Err error)) transition of = ap (λ (p : CallerPorts). p.node) transition.0
  node_in (exchanges.Lookup number key lo hi hit) transition of = absurd (cc of)
  node_in (exchanges.Query query stamp found) transition of = absurd (cc of)
  node_in (exchanges.Insert number entry kept) transition of = absurd (cc of)

  -- what is about the pin of the present leaves the node
  pub node_kept : (request : PortRequest) (reply : PortReply) → is_of_pin request ≡ true
      → IsExchange (CallerExchangeTransition seen old new) request reply → new.node ≡ old.node
  node_kept request reply of transition =
      by_exchange (CallerExchangeTransition seen old new) (λ (q : PortRequest) (r : PortReply). is_of_pin q ≡ true → new.node ≡ old.node) node_in request reply transition of

  module _ (c : CoreValue) where
    looked_up_in : (x : Exchange) → CallerExchangeTransition seen old new x → CoreAsks c (request_of x) → IsLookedUp c old.node new.node (reply_of x)
    looked_up_in (exchanges.Lookup number key lo hi hit) transition asks =
        (key, asks.0.1, record { lo = lo; hi = hi; bounds = asks.2; transition = transition.1 })
    looked_up_in (exchanges.Pin now at_least pinned) transition asks = tt
    looked_up_in (exchanges.AddPin pinned given added) transition asks = tt
    looked_up_in (exchanges.Unpin stamp unpinned) transition asks = tt
    looked_up_in (exchanges.Query query stamp found) transition asks = tt
    looked_up_in (exchanges.Insert number entry kept) transition asks = tt

    -- a lookup that the core asks is made
    pub lookup_made : (request : PortRequest) (reply : PortReply) → CoreAsks c request
        → IsExchange (CallerExchangeTransition seen old new) request reply → IsLookedUp c old.node new.node reply
    lookup_made request reply asks transition =
        by_exchange (CallerExchangeTransition seen old new) (λ (q : PortRequest) (r : PortReply). CoreAsks c q → IsLookedUp c old.node new.node r) looked_up_in request reply transition asks
