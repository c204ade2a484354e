-- What a running transaction asks, at the ports: it may be asked, and a reply to it answers the core, and is
-- right in the history that it shows.
use Rattle.std.proofs.Common.{◌≡◌, ℕ, ◌+◌, ◌<◌, ◌≤◌, Bool, true, false, List, [], ◌∷◌, Option, Some, None, Ok, Err, refl, sym, subst, ◌∙◌}
use Rattle.std.proofs.lemmas.Nat.{mod_below}
use Rattle.std.specs.Prelude.{◌&&◌, sum}
use Rattle.std.specs.Option.{ForSome}
use Rattle.txc_stream.specs.Names.{Name}
use Rattle.txc_stamp.specs.Interval.{Interval, Holds}
use Rattle.txc_tags.specs.Keys.{Call, node_of}
use Rattle.txc_db.specs.History.{moment_at}
use Rattle.txc_db.specs.FrontsAndFeeds.{FrontValue}
use Rattle.txc_cushion.specs.declared.pin.Pin.{Pin}
use Rattle.txc_cushion.specs.Pin.{is_older}
use Rattle.txc_pinset.specs.declared.choice.Choice.TheVariants.{Present, At}
use Rattle.txc_pinset.specs.Members.{choice_among}
use Rattle.txc_app.specs.Eval.{Next}
use Rattle.txc_call.specs.declared.need.Need.{Need}
use Rattle.txc_call.specs.declared.need.Need.TheVariants as needs
use Rattle.txc_call.specs.declared.reply.Reply.TheVariants as calls
use Rattle.txc_call.specs.Needs.{NeedHolds, ReplyHolds}
use Rattle.txc_txn_ports.specs.declared.request.PortRequest.{PortRequest}
use Rattle.txc_txn_ports.specs.declared.request.PortRequest.TheVariants as requests
use Rattle.txc_txn_ports.specs.declared.reply.PortReply.{PortReply}
use Rattle.txc_txn_ports.specs.declared.reply.PortReply.TheVariants as replies
use Rattle.txc_txn_ports.specs.Turns.{PortTurn}
use Rattle.txc_txn_ports.specs.declared.turn.Turn.TheVariants as turns
use Rattle.txc_txn_ports.specs.Fronts.{front_of_reply}
use Rattle.txc_txn.specs.TxnCore.{CoreValue, AddsOnly, HoldsNewest, IsAnswered, CoreAsks, IsNoAdding, IsNoValue, recorded_after}
use Rattle.txc_txn.specs.Transitions.{ReplyTransition}
use Rattle.txc_txn.specs.RunningTxn.{TxnValue, IsTxn, IsShownRight}
use Rattle.txc_txn_ports.specs.PortRequests.{AddsSuch, TurnAddsSuch, IsAnsweredRight, IsReplyTo, MayAsk}
use Rattle.txc_txn_ports.specs.Exchanges.{Exchange, reply_of, request_of}
use Rattle.txc_txn_ports.specs.Exchanges as exchanges
use Rattle.txc_txn_ports.proofs.Offered.{by_exchange}
use Rattle.txc_txn_ports.specs.declared.recorded.Recorded.{Recorded}

-- ---- a pin that is to be added

module _ (P Q : FrontValue → Type 0) (weaker : (front : FrontValue) → P front → Q front) where
  pub adds_weaker : (turn : PortTurn) → TurnAddsSuch P turn → TurnAddsSuch Q turn
  adds_weaker (turns.Ask (requests.AddPin pinned)) adds = weaker pinned.front adds
  adds_weaker (turns.Ask (requests.Pin now at_least)) adds = tt
  adds_weaker (turns.Ask (requests.Unpin stamp)) adds = tt
  adds_weaker (turns.Ask (requests.Lookup node key lo hi)) adds = tt
  adds_weaker (turns.Ask (requests.Query query stamp)) adds = tt
  adds_weaker (turns.Ask (requests.Insert node entry)) adds = tt
  adds_weaker (turns.Ended result) adds = tt

module _ (P : FrontValue → Type 0) where
  pub adds_none : (turn : PortTurn) → IsNoAdding turn → TurnAddsSuch P turn
  adds_none turn none = adds_weaker (λ front. ⊥) P (λ front no. absurd no) turn none

  -- it is the one of the reply
  module _ (next : Next) (old new : TxnValue) (turn : PortTurn) where
    pub adds_next : (reply : PortReply) → ForSome (front_of_reply reply) P → AddsOnly reply turn
        → ReplyTransition next old.core old.objects reply new.core new.objects turn → TurnAddsSuch P turn
    adds_next (replies.Pin (Ok pinned)) of only transition = subst (TurnAddsSuch P) (sym transition) (of pinned.front refl)
    adds_next (replies.Pin (Err error)) of only transition = adds_none turn only
    adds_next (replies.AddPin pinned added) of only transition = adds_none turn only
    adds_next (replies.Unpin unpinned) of only transition = adds_none turn only
    adds_next (replies.Lookup hit) of only transition = adds_none turn only
    adds_next (replies.Query found) of only transition = adds_none turn only
    adds_next (replies.Insert kept) of only transition = adds_none turn only

-- ---- what is asked may be asked

module _ (next : Next) (row : Name) (t : TxnValue) (kept : IsTxn next t) where
  node_there : (key : Call) (node nodes : ℕ) → node ≡ node_of t.core.nodes key → t.core.nodes ≡ nodes → node < nodes
  node_there key node nodes is same =
      subst (λ (n : ℕ). node < n) same (subst (λ (n : ℕ). n < t.core.nodes) (sym is) (mod_below (key.function + sum key.args) t.core.nodes kept.fits.nodes))

  pub may_ask : (nodes : ℕ) → t.core.nodes ≡ nodes → (request : PortRequest) → CoreAsks t.core request
      → AddsSuch (λ front. front.events ≡ row) request → MayAsk next row nodes t.core.seen.history request
  may_ask nodes same (requests.Pin now at_least) asking adds = tt
  may_ask nodes same (requests.AddPin pinned) asking adds = adds
  may_ask nodes same (requests.Unpin stamp) asking adds = tt
  may_ask nodes same (requests.Lookup node key lo hi) asking adds = node_there key node nodes asking.1 same
  may_ask nodes same (requests.Query query stamp) asking adds = tt
  may_ask nodes same (requests.Insert node entry) asking adds = (
    node_there entry.key node nodes asking.1 same,
    (subst (λ (n : Option Need). NeedHolds next t.core.seen.history t.objects n t.core.call.frames) asking.0.1 kept.holds.valid.right).0,
  )

-- ---- the reply is one to it

-- where the next query runs at a stamp, that is the newest member's
chosen : (now renew_after : ℕ) (present : Bool) (members : List Pin) (stamp : ℕ) (reach : Interval)
    → choice_among now renew_after present members ≡ At stamp → Holds reach stamp → HoldsNewest reach members
chosen now renew_after present [] stamp reach is around = cc is
chosen now renew_after present (newest ∷ older) stamp reach is around = go (present && is_older renew_after now newest) refl
  where
    go : (b : Bool) → (present && is_older renew_after now newest) ≡ b → Holds reach newest.stamp
    go true due = let no : Present ≡ At stamp = rw due at is in cc no
    go false due = let same : At newest.stamp ≡ At stamp = rw due at is in let at : newest.stamp ≡ stamp = cc in subst (Holds reach) (sym at) around

module _ (next : Next) (c : CoreValue) where
  answered : (x : Exchange) → IsAnsweredRight next x → CoreAsks c (request_of x) → IsAnswered c (reply_of x)
  answered (exchanges.Pin now at_least (Ok pinned)) right asking =
      (asking.0, right.0 ∙ asking.2, subst (λ (n : ℕ). n ≤ pinned.stamp) asking.3 right.1)
  answered (exchanges.Pin now at_least (Err error)) right asking = asking.0
  answered (exchanges.AddPin pinned given added) right asking = subst (λ p. IsAnswered c (replies.AddPin p added)) (sym right) asking
  answered (exchanges.Unpin stamp unpinned) right asking = (stamp, asking.0, asking.1)
  answered (exchanges.Lookup node key lo hi hit) right asking = (key, asking.0)
  answered (exchanges.Query query stamp (Ok found)) right asking =
      (query, asking.0, chosen c.bounds.now c.renew_after c.pins.has_present c.pins.members stamp found.answer.reach asking.1 right.around)
  answered (exchanges.Query query stamp (Err error)) right asking = (query, asking.0)
  answered (exchanges.Insert node entry kept) right asking = (entry, asking.0)

  pub is_answered : (request : PortRequest) (reply : PortReply) → CoreAsks c request → IsReplyTo next request reply → IsAnswered c reply
  is_answered request reply asking to =
      by_exchange (IsAnsweredRight next) (λ (q : PortRequest) (r : PortReply). CoreAsks c q → IsAnswered c r) answered request reply to asking

-- ---- it is right in the history that it shows

module _ (next : Next) (t : TxnValue) where
  needs_this : (n m : Need) → t.core.call.need ≡ Some n → t.core.call.need ≡ Some m → n ≡ m
  needs_this n m is at = let same : Some n ≡ Some m = sym is ∙ at in cc

  shown_right : (x : Exchange) → IsAnsweredRight next x → CoreAsks t.core (request_of x) → IsShownRight next t (reply_of x)
  shown_right (exchanges.Pin now at_least (Ok pinned)) right asking = λ front is.
      let same : pinned.front ≡ front = cc in
      subst (λ (f : FrontValue). moment_at f.history pinned.stamp ≡ Some pinned.moment) same right.2
  shown_right (exchanges.Pin now at_least (Err error)) right asking = λ front is. cc is
  shown_right (exchanges.AddPin pinned given added) right asking = λ front is. tt
  shown_right (exchanges.Unpin stamp unpinned) right asking = λ front is. cc is
  shown_right (exchanges.Lookup node key lo hi None) right asking = λ front is. cc is
  shown_right (exchanges.Lookup node key lo hi (Some hit)) right asking = λ front is n at.
      let same : hit.front ≡ front = cc in
      subst (λ (f : FrontValue). ReplyHolds next f.history n (calls.Hit hit.answer)) same
      (subst (λ (m : Need). ReplyHolds next hit.front.history m (calls.Hit hit.answer)) (needs_this (needs.Lookup key) n asking.0.1 at) right)
  shown_right (exchanges.Query query stamp (Ok found)) right asking = λ front is n at.
      let same : found.front ≡ front = cc in
      subst (λ (f : FrontValue). ReplyHolds next f.history n (calls.Found found.answer)) same
      (subst (λ (m : Need). ReplyHolds next found.front.history m (calls.Found found.answer)) (needs_this (needs.Query query) n asking.0.1 at) right.rows)
  shown_right (exchanges.Query query stamp (Err error)) right asking = λ front is. cc is
  shown_right (exchanges.Insert node entry kept) right asking = λ front is. cc is

  pub is_right : (request : PortRequest) (reply : PortReply) → CoreAsks t.core request → IsReplyTo next request reply → IsShownRight next t reply
  is_right request reply asking to =
      by_exchange (IsAnsweredRight next) (λ (q : PortRequest) (r : PortReply). CoreAsks t.core q → IsShownRight next t r) shown_right request reply to asking

-- ---- what is recorded

-- only a value is
pub none_recorded : (recorded : List Recorded) (turn : PortTurn) (k : Option Call) → IsNoValue turn → recorded_after recorded turn k ≡ recorded
none_recorded recorded (turns.Ask request) k none = refl
none_recorded recorded (turns.Ended (Ok value)) k none = absurd none
none_recorded recorded (turns.Ended (Err error)) k none = refl
