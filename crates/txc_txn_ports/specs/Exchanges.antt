-- A request and the reply to it, of one kind.
use Rattle.std.specs.Prelude.{ℕ, Option, Some, None, Result, MatchOption}
use Rattle.txc_tags.specs.Keys.{Call}
use Rattle.txc_rows.specs.declared.query.Query.{Query as RowQuery}
use Rattle.txc_validity.specs.declared.answer.Found.{Found}
use Rattle.txc_node.specs.declared.entry.Entry.{Entry}
use Rattle.txc_node.specs.declared.hit.HitValue.{HitValue}
use Rattle.txc_db.specs.declared.answered.Answered.{Answered}
use Rattle.txc_db.specs.declared.error.DbError.{DbError}
use Rattle.txc_db.specs.declared.pinned.Pinned.{Pinned}
use Rattle.txc_cushion.specs.declared.error.AddError.{AddError}
use Rattle.txc_txn_ports.specs.declared.kept.Kept.{Kept}
use Rattle.txc_txn_ports.specs.declared.request.PortRequest.{PortRequest}
use Rattle.txc_txn_ports.specs.declared.request.PortRequest.TheVariants as requests
use Rattle.txc_txn_ports.specs.declared.reply.PortReply.{PortReply}
use Rattle.txc_txn_ports.specs.declared.reply.PortReply.TheVariants as replies

-- a request, and a reply of its kind
pub data Exchange : Type 0 where
  Pin : ℕ → ℕ → Result Pinned DbError → Exchange
  AddPin : Pinned → Pinned → Result (Unit {0}) AddError → Exchange
  Unpin : ℕ → Result (Unit {0}) DbError → Exchange
  Lookup : ℕ → Call → ℕ → ℕ → Option (Answered HitValue) → Exchange
  Query : RowQuery → ℕ → Result (Answered Found) DbError → Exchange
  Insert : ℕ → Entry → Option Kept → Exchange

abbrev pub request_of : Exchange → PortRequest
request_of (Pin now at_least pinned) = requests.Pin now at_least
request_of (AddPin pinned given added) = requests.AddPin pinned
request_of (Unpin stamp unpinned) = requests.Unpin stamp
request_of (Lookup node key lo hi hit) = requests.Lookup node key lo hi
request_of (Query query stamp found) = requests.Query query stamp
request_of (Insert node entry kept) = requests.Insert node entry

abbrev pub reply_of : Exchange → PortReply
reply_of (Pin now at_least pinned) = replies.Pin pinned
reply_of (AddPin pinned given added) = replies.AddPin given added
reply_of (Unpin stamp unpinned) = replies.Unpin unpinned
reply_of (Lookup node key lo hi hit) = replies.Lookup hit
reply_of (Query query stamp found) = replies.Query found
reply_of (Insert node entry kept) = replies.Insert kept

-- the exchange of the two, if the reply is of the request's kind
abbrev pub pair : PortRequest → PortReply → Option Exchange
pair (requests.Pin now at_least) (replies.Pin pinned) = Some (Pin now at_least pinned)
pair (requests.AddPin pinned) (replies.AddPin given added) = Some (AddPin pinned given added)
pair (requests.Unpin stamp) (replies.Unpin unpinned) = Some (Unpin stamp unpinned)
pair (requests.Lookup node key lo hi) (replies.Lookup hit) = Some (Lookup node key lo hi hit)
pair (requests.Query query stamp) (replies.Query found) = Some (Query query stamp found)
pair (requests.Insert node entry) (replies.Insert kept) = Some (Insert node entry kept)
pair request reply = None

-- the reply is of the request's kind, and this is true of their exchange
abbrev pub IsExchange : (Exchange → Type 0) → PortRequest → PortReply → Type 0
IsExchange P request reply = MatchOption (pair request reply) ⊥ P
