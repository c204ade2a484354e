-- Requests that a transaction may make at the ports, and their replies.
use Rattle.std.specs.Prelude.{◌≡◌, ℕ, ◌<◌, ◌≤◌, Some, Ok}
use Rattle.std.specs.Option.{ForSome}
use Rattle.txc_stamp.specs.Interval.{Holds}
use Rattle.txc_rows.specs.declared.query.Query.{Query}
use Rattle.txc_validity.specs.declared.answer.Found.{Found}
use Rattle.txc_db.specs.History.{History, moment_at}
use Rattle.txc_db.specs.FrontsAndFeeds.{FrontValue}
use Rattle.txc_stream.specs.Names.{Name}
use Rattle.txc_app.specs.Eval.{Next}
use Rattle.txc_app.specs.Claims.{IsTrueIn, RowsHold, entry_shown}
use Rattle.txc_txn_ports.specs.declared.request.PortRequest.{PortRequest}
use Rattle.txc_txn_ports.specs.declared.request.PortRequest.TheVariants as requests
use Rattle.txc_txn_ports.specs.declared.reply.PortReply.{PortReply}
use Rattle.txc_txn_ports.specs.declared.turn.Turn.TheVariants.{Ask}
use Rattle.txc_txn_ports.specs.Exchanges.{Exchange, IsExchange}
use Rattle.txc_txn_ports.specs.Exchanges as exchanges
use Rattle.txc_txn_ports.specs.Fronts.{front_of_reply}
use Rattle.txc_txn_ports.specs.Turns.{PortTurn}

-- allowed requests at ports with `nodes` nodes: to add a pin of the history, to look up at an existing node,
-- and to insert only an entry that is true in the history
abbrev pub MayAsk : Next → Name → ℕ → History → PortRequest → Type 0
MayAsk next row nodes L (requests.Pin now at_least) = Unit {0}
MayAsk next row nodes L (requests.AddPin pinned) = pinned.front.events ≡ row
MayAsk next row nodes L (requests.Unpin stamp) = Unit {0}
MayAsk next row nodes L (requests.Lookup node key lo hi) = node < nodes
MayAsk next row nodes L (requests.Query query stamp) = Unit {0}
MayAsk next row nodes L (requests.Insert node entry) = (node < nodes) × IsTrueIn next L entry

-- the answer to the query at the stamp, over a reach that holds it
pub record IsFoundOver (L : History) (query : Query) (stamp : ℕ) (found : Found) : Type 0 where
  pub around : Holds found.reach stamp
  pub rows : RowsHold L query found.rows.items (Some found.reach) found.tags

-- The reply is correct in the history that it shows. It is a pin of that time, late enough; or the pin to be
-- added. A node's entry is true of the call, and the answer is the query's.
abbrev pub IsAnsweredRight : Next → Exchange → Type 0
IsAnsweredRight next (exchanges.Pin now at_least (Ok pinned)) = (pinned.moment ≡ now) × (at_least ≤ pinned.stamp)
    × (moment_at pinned.front.history pinned.stamp ≡ Some pinned.moment)
IsAnsweredRight next (exchanges.AddPin pinned given added) = given ≡ pinned
IsAnsweredRight next (exchanges.Lookup node key lo hi (Some hit)) =
    IsTrueIn next hit.front.history (entry_shown key hit.answer)
IsAnsweredRight next (exchanges.Query query stamp (Ok found)) =
    IsFoundOver found.front.history query stamp found.answer
IsAnsweredRight next exchange = Unit {0}

-- the reply is one to the request, and right in the history that it shows
abbrev pub IsReplyTo : Next → PortRequest → PortReply → Type 0
IsReplyTo next request reply = IsExchange (IsAnsweredRight next) request reply

-- a pin that will be added has such a front
abbrev pub AddsSuch : (FrontValue → Type 0) → PortRequest → Type 0
AddsSuch P (requests.AddPin pinned) = P pinned.front
AddsSuch P request = Unit {0}

-- the same of a pin that the turn asks to add
abbrev pub TurnAddsSuch : (FrontValue → Type 0) → PortTurn → Type 0
TurnAddsSuch P (Ask request) = AddsSuch P request
TurnAddsSuch P turn = Unit {0}

-- the history in the reply is the named one
abbrev pub IsOfRow : Name → PortReply → Type 0
IsOfRow row reply = ForSome (front_of_reply reply) (λ front. front.events ≡ row)
