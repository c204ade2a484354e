-- Exchanges, by their requests and replies.
use Rattle.std.proofs.Common.{Option, Some, None}
use Rattle.std.specs.Prelude.{MatchOption}
use Rattle.txc_txn_ports.specs.declared.request.PortRequest.{PortRequest}
use Rattle.txc_txn_ports.specs.declared.request.PortRequest.TheVariants as requests
use Rattle.txc_txn_ports.specs.declared.reply.PortReply.{PortReply}
use Rattle.txc_txn_ports.specs.declared.reply.PortReply.TheVariants as replies
use Rattle.txc_txn_ports.specs.Exchanges.{Exchange, pair, reply_of, request_of, IsExchange}
use Rattle.txc_txn_ports.specs.Exchanges as exchanges

-- what comes of each exchange that is such comes of a request and its reply
module _ (P : Exchange → Type 0) (Q : PortRequest → PortReply → Type 0) (each : (x : Exchange) → P x → Q (request_of x) (reply_of x)) where
  pub by_exchange : (request : PortRequest) (reply : PortReply) → IsExchange P request reply → Q request reply
  by_exchange (requests.Pin now at_least) (replies.Pin pinned) h = each (exchanges.Pin now at_least pinned) h
  by_exchange (requests.AddPin pinned) (replies.AddPin given added) h = each (exchanges.AddPin pinned given added) h
  by_exchange (requests.Unpin stamp) (replies.Unpin unpinned) h = each (exchanges.Unpin stamp unpinned) h
  by_exchange (requests.Lookup node key lo hi) (replies.Lookup hit) h = each (exchanges.Lookup node key lo hi hit) h
  by_exchange (requests.Query query stamp) (replies.Query found) h = each (exchanges.Query query stamp found) h
  by_exchange (requests.Insert node entry) (replies.Insert kept) h = each (exchanges.Insert node entry kept) h
  by_exchange request reply h = absurd h

-- two things that are true of one exchange
module _ (P Q : Exchange → Type 0) where
  both : (o : Option Exchange) → MatchOption o ⊥ P → MatchOption o ⊥ Q → MatchOption o ⊥ (λ x. P x × Q x)
  both None p q = p
  both (Some x) p q = (p, q)

  pub both_exchange : (request : PortRequest) (reply : PortReply) → IsExchange P request reply → IsExchange Q request reply
      → IsExchange (λ x. P x × Q x) request reply
  both_exchange request reply p q = both (pair request reply) p q
