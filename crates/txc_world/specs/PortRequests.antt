-- The effect of a transaction's request at the plain ports, and its report.
use Rattle.std.specs.Prelude.{◌≡◌, ◌⊎◌, ℕ, ◌≤◌, Result, Ok, Err, Option, Some, None, [], ◌∷◌, map, true}
use Rattle.std.specs.Option.{option_map, ForSome}
use Rattle.txc_rows.specs.declared.query.Query.{Query}
use Rattle.txc_rows.specs.RowTags.{query_tag}
use Rattle.txc_validity.specs.declared.answer.Found.{Found}
use Rattle.txc_validity.specs.Answers.{IsAnswer}
use Rattle.txc_db.specs.declared.answered.Answered.{Answered}
use Rattle.txc_db.specs.declared.error.DbError.{DbError}
use Rattle.txc_db.specs.declared.error.DbError.TheVariants.{Memory}
use Rattle.txc_db.specs.declared.pinned.Pinned.{Pinned}
use Rattle.txc_db.specs.History.{moment_at, state_at}
use Rattle.txc_db.specs.FrontsAndFeeds.{FrontValue}
use Rattle.txc_db.specs.DatabaseValue.{after_hold, after_pin, after_unpin, front_of, is_held, newest}
use Rattle.txc_db.specs.Calls.{IsAnswerable, IsHoldable, IsHoldRefused, IsPinnable, IsPinRefused, IsQueryRefused, IsUnpinRefused}
use Rattle.txc_cushion.specs.declared.error.AddError.{AddError}
use Rattle.txc_cushion.specs.Cushion.{after_add, after_fresh, handed_out}
use Rattle.txc_cushion.specs.declared.pins.Pins.{Pins}
use Rattle.txc_cushion.specs.Refusals.{IsAddable, IsAddRefused}
use Rattle.txc_app.specs.Eval.{Next}
use Rattle.txc_shared.specs.declared.insertion.Insertion.{Insertion}
use Rattle.txc_shared.specs.declared.insertion.Insertion.TheVariants as insertions
use Rattle.txc_txn_ports.specs.declared.kept.Kept.{Kept}
use Rattle.txc_txn_ports.specs.declared.kept.Kept.TheVariants as kepts
use Rattle.txc_txn_ports.specs.declared.request.PortRequest.{PortRequest}
use Rattle.txc_txn_ports.specs.declared.request.PortRequest.TheVariants as requests
use Rattle.txc_txn_ports.specs.declared.reply.PortReply.{PortReply}
use Rattle.txc_txn_ports.specs.declared.reply.PortReply.TheVariants as replies
use Rattle.txc_txn_ports.specs.PortRequests.{IsFoundOver, IsOfRow, IsReplyTo}
use Rattle.txc_txn_ports.specs.Fronts.{front_of_reply as shown_by}
use Rattle.txc_world.specs.declared.port_outcome.RowsFound.{RowsFound}
use Rattle.txc_world.specs.declared.port_outcome.PortOutcome.{PortOutcome}
use Rattle.txc_world.specs.declared.port_outcome.PortOutcome.TheVariants as dids
use Rattle.txc_world.specs.Holdings.{AskCounts}
use Rattle.txc_world.specs.Parts.{IsPartOf}
use Rattle.txc_world.specs.NodeSteps.{LookupTransition, InsertTransition}
use Rattle.txc_world.specs.Ports.{PortsValue, whole_of, KeepsRow, HasRefused, HasLedNode}

-- ---- pins

-- a pin of the moment is one event more, and its front shows it
pub record HasPinned (now at_least : ℕ) (old new : PortsValue) (pinned : Pinned) : Type 0 where
  pub after : new ≡ record old { database = after_pin old.database now }
  pub only_if : IsPinnable old.database at_least
  pub stamp : pinned.stamp ≡ newest new.database
  pub moment : pinned.moment ≡ now
  pub late : at_least ≤ pinned.stamp
  pub front : pinned.front ≡ front_of new.database
  pub shown : moment_at pinned.front.history pinned.stamp ≡ Some pinned.moment

-- of a pin: it was made, or the database failed
abbrev pub PinTransition : ℕ → ℕ → PortsValue → PortsValue → Result Pinned DbError → Type 0
PinTransition now at_least old new (Ok pinned) = HasPinned now at_least old new pinned
PinTransition now at_least old new (Err e) = HasRefused old new e × IsPinRefused old.database at_least e

-- of adding a pin: it is in the pincushion, or was not added, and nothing has changed
abbrev pub AddTransition : {A : Type 0} → Pinned → PortsValue → PortsValue → Result A AddError → Type 0
AddTransition pinned old new (Ok added) = (new ≡ record old { cushion = after_add old.cushion pinned })
    × IsAddable old.cushion pinned.stamp
AddTransition pinned old new (Err e) = (new ≡ old) × IsAddRefused old.cushion pinned.stamp e

-- of a hold: there is one fewer of the stamp, or the database failed, and nothing has changed
abbrev pub UnpinTransition : {A : Type 0} → ℕ → PortsValue → PortsValue → Result A DbError → Type 0
UnpinTransition stamp old new (Ok unpinned) = (new ≡ record old { database = after_unpin old.database stamp })
    × (is_held stamp old.database.holds ≡ true)
UnpinTransition stamp old new (Err e) = (new ≡ old) × IsUnpinRefused old.database stamp e

-- of a beginning: the newest of the fresh pins are issued, each with one more user; or nothing has changed
abbrev pub FreshTransition : {A : Type 0} → ℕ → ℕ → ℕ → PortsValue → PortsValue → Result Pins A → Type 0
FreshTransition now staleness at_least old new (Ok pins) =
    (new ≡ record old { cushion = after_fresh old.cushion now staleness at_least })
    × (pins.pins.items ≡ handed_out old.cushion now staleness at_least)
FreshTransition now staleness at_least old new (Err e) = new ≡ old

-- of a beginning: the newest stamp has one hold more; or the database failed, and nothing has changed
abbrev pub HoldTransition : PortsValue → PortsValue → Result ℕ DbError → Type 0
HoldTransition old new (Ok base) = (new ≡ record old { database = after_hold old.database })
    × (base ≡ newest old.database) × IsHoldable old.database
HoldTransition old new (Err e) = (new ≡ old) × IsHoldRefused old.database e

-- ---- queries

-- the answer of the query at the stamp, with its validity and its tag
pub record IsAnswerOf (query : Query) (stamp : ℕ) (p : PortsValue) (found : Found) : Type 0 where
  pub answer : IsAnswer (state_at p.database.history) query stamp p.database.horizon (newest p.database) found
  pub tag : found.tags ≡ query_tag query ∷ []

abbrev pub QueryTransition : Query → ℕ → PortsValue → Result Found DbError → Type 0
QueryTransition query stamp p (Ok found) = IsAnswerOf query stamp p found × IsAnswerable p.database stamp
QueryTransition query stamp p (Err e) = IsQueryRefused p.database query stamp e

-- the answer of the query at the stamp, with its validity and its tag, and a front of the whole history
pub record IsAnswerWithFront (query : Query) (stamp : ℕ) (p : PortsValue) (found : Answered Found) : Type 0 where
  pub answer : IsAnswer (state_at p.database.history) query stamp p.database.horizon (newest p.database)
      found.answer
  pub tag : found.answer.tags ≡ query_tag query ∷ []
  pub front : found.front ≡ whole_of p
  pub over : IsFoundOver found.front.history query stamp found.answer

abbrev pub FindTransition : Query → ℕ → PortsValue → Result (Answered Found) DbError → Type 0
FindTransition query stamp p (Ok found) = IsAnswerWithFront query stamp p found × IsAnswerable p.database stamp
FindTransition query stamp p (Err e) = IsQueryRefused p.database query stamp e

-- the report of the found rows: their ids, in order, with their reach and tags
pub record IsToldOf (found : Found) (rows : RowsFound) : Type 0 where
  pub ids : rows.ids.items ≡ map (λ r. r.id) found.rows.items
  pub reach : rows.reach ≡ found.reach
  pub tags : rows.tags ≡ found.tags

-- the report of an answer, or of an error
abbrev pub DoesTellFound : Result Found DbError → PortOutcome → Type 0
DoesTellFound (Ok found) did = (rows : RowsFound) × (did ≡ dids.Rows rows) × IsToldOf found rows
DoesTellFound (Err e) did = did ≡ dids.Refused e

-- ---- requests

-- the result of a node's insertion; none if it failed
abbrev pub kept_after : Option Insertion → Option Kept
kept_after (Some (insertions.Stored reach)) = Some (kepts.Stored reach)
kept_after (Some insertions.Kept) = Some kepts.Earlier
kept_after None = None

-- the report of a port is its reply to the transaction; of found rows, their ids with their reach and tags
abbrev pub DoesTell : PortReply → PortOutcome → Type 0
DoesTell (replies.Pin (Ok pinned)) did = did ≡ dids.Pinned pinned.stamp
DoesTell (replies.Pin (Err e)) did = did ≡ dids.Refused e
DoesTell (replies.AddPin pinned (Ok added)) did = did ≡ dids.Added
DoesTell (replies.AddPin pinned (Err e)) did = did ≡ dids.NotAdded e
DoesTell (replies.Unpin (Ok unpinned)) did = did ≡ dids.Unpinned
DoesTell (replies.Unpin (Err e)) did = did ≡ dids.Refused e
DoesTell (replies.Lookup (Some hit)) did = did ≡ dids.Hit hit.answer.reach
DoesTell (replies.Lookup None) did = did ≡ dids.Miss
DoesTell (replies.Query (Ok found)) did = (rows : RowsFound) × (did ≡ dids.Rows rows)
    × IsToldOf found.answer rows
DoesTell (replies.Query (Err e)) did = did ≡ dids.Refused e
DoesTell (replies.Insert (Some (kepts.Stored reach))) did = did ≡ dids.Stored reach
DoesTell (replies.Insert (Some kepts.Earlier)) did = did ≡ dids.Kept
DoesTell (replies.Insert None) did = did ≡ dids.Dropped

-- the reply answers a query
abbrev pub AnswersRows : PortReply → Type 0
AnswersRows (replies.Query (Ok found)) = Unit {0}
AnswersRows reply = ⊥

-- the reported reply: itself, or, for a query without memory for the report, that error
abbrev pub IsTold : PortReply → PortReply → Type 0
IsTold reply told = (told ≡ reply) ⊎ (AnswersRows reply × (told ≡ replies.Query (Err Memory)))

-- of a hold, by the report
abbrev pub UnpinTold : ℕ → PortsValue → PortsValue → PortOutcome → Type 0
UnpinTold stamp old new dids.Unpinned = (new ≡ record old { database = after_unpin old.database stamp })
    × (is_held stamp old.database.holds ≡ true)
UnpinTold stamp old new (dids.Refused e) = (new ≡ old) × IsUnpinRefused old.database stamp e
UnpinTold stamp old new did = ⊥

-- The effect of a request: a pin, or the removal of a hold; an added pin; a lookup or an insertion at the node
-- of its number, as a step of the pass; or a query, which changes nothing.
abbrev pub PortRequestTransition : ℕ → FrontValue → PortRequest → PortsValue → PortsValue → PortReply → Type 0
PortRequestTransition pass seen (requests.Pin now at_least) old new (replies.Pin pinned) =
    PinTransition now at_least old new pinned
PortRequestTransition pass seen (requests.AddPin pinned) old new (replies.AddPin given added) =
    AddTransition pinned old new added
PortRequestTransition pass seen (requests.Unpin stamp) old new (replies.Unpin unpinned) =
    UnpinTransition stamp old new unpinned
PortRequestTransition pass seen (requests.Lookup node key lo hi) old new (replies.Lookup hit) =
    HasLedNode node (λ was is. LookupTransition pass key lo hi was is (option_map (λ h. h.answer) hit)) old new
PortRequestTransition pass seen (requests.Query query stamp) old new (replies.Query found) =
    (new ≡ old) × FindTransition query stamp old found
PortRequestTransition pass seen (requests.Insert node entry) old new (replies.Insert kept) = (made : Option Insertion)
    × (kept ≡ kept_after made)
    × HasLedNode node (λ was is. InsertTransition pass seen entry was is made) old new
PortRequestTransition pass seen request old new reply = ⊥

-- the request has this time, if it is one for a pin
abbrev pub IsAskedAt : ℕ → PortRequest → Type 0
IsAskedAt now (requests.Pin moment at_least) = moment ≡ now
IsAskedAt now request = Unit {0}

-- The reply is one to the request, correct in the history that it shows, which is a prefix of the whole. This
-- is the effect on the port, as a step of the pass; and no other actor lost holds or users.
pub record IsAsked (next : Next) (pass : ℕ) (seen : FrontValue) (request : PortRequest) (old new : PortsValue)
    (reply : PortReply) : Type 0 where
  pub to : IsReplyTo next request reply
  pub row : IsOfRow old.database.events reply
  pub shown : ForSome (shown_by reply) (λ front. IsPartOf (whole_of new) front)
  pub transition : PortRequestTransition pass seen request old new reply
  pub keeps : KeepsRow old new
  pub spare : new.spare ≡ old.spare
  pub counts : AskCounts request old new reply
