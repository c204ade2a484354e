-- What a core does whose caller runs the functions of its calls.
use Rattle.std.proofs.Common.{◌≡◌, ◌≢◌, List, [], ◌∷◌, Some, None, Ok, Err, sym, subst}
use Rattle.txc_call.specs.declared.frame.Frame.{Frame}
use Rattle.txc_call.specs.declared.need.Outcome.{Outcome}
use Rattle.txc_call.specs.declared.reply.Reply.{Reply}
use Rattle.txc_call.specs.CallSteps.{need_after, value_need}
use Rattle.txc_call.specs.MachineTurn.{outcome_of}
use Rattle.txc_db.specs.History.{History}
use Rattle.txc_db.specs.FrontsAndFeeds.{FrontValue}
use Rattle.txc_call_registry.specs.Objects.{Objects}
use Rattle.txc_app.specs.Eval.{Next}
use Rattle.txc_call.specs.declared.need.Need.{Need}
use Rattle.txc_call.specs.declared.need.Need.TheVariants as needs
use Rattle.txc_call.specs.declared.reply.Reply.TheVariants as replies
use Rattle.txc_call.specs.Needs.{ReplyFits, ReplyHolds}
use Rattle.txc_txn_ports.specs.declared.reply.PortReply.{PortReply}
use Rattle.txc_txn_ports.specs.declared.reply.PortReply.TheVariants as ports
use Rattle.txc_txn.specs.TxnCore.{CoreValue, first_call}
use Rattle.txc_txn.specs.ByHand.{HandTurn, HearTransition}
use Rattle.txc_txn.proofs.Cores.{pin_seen}

-- a port serves the need
abbrev pub ReachesPort : Need → Type 0
ReachesPort (needs.Lookup k) = Unit {0}
ReachesPort (needs.Query q) = Unit {0}
ReachesPort (needs.Insert e) = Unit {0}
ReachesPort (needs.Value o) = ⊥
ReachesPort (needs.Begin k) = ⊥
ReachesPort (needs.Resume x) = ⊥

-- what comes of a reply does not depend on what was seen of the history
pub hear_seen : (c : CoreValue) (seen : FrontValue) (reply : PortReply) (new : CoreValue) (turn : HandTurn)
    → HearTransition (record c { seen = seen }) reply new turn → HearTransition c reply new turn
hear_seen c seen (ports.Pin (Ok pinned)) new turn h = (h.0, record { call = h.1.call; first = h.1.first })
hear_seen c seen (ports.Pin (Err error)) new turn h = h
hear_seen c seen (ports.AddPin pinned (Ok added)) new turn h = λ objects there.
    let t = h objects there in (t.0, t.1, pin_seen c seen objects (first_call c.pinning) new objects t.0 t.2)
hear_seen c seen (ports.AddPin pinned (Err error)) new turn h = (h.0, h.1, record { call = h.2.call; first = h.2.first })
hear_seen c seen (ports.Unpin unpinned) new turn h = h
hear_seen c seen (ports.Lookup None) new turn h = h
hear_seen c seen (ports.Lookup (Some hit)) new turn h = λ k is. record { held = (h k is).held; none = (h k is).none }
hear_seen c seen (ports.Query (Ok found)) new turn h = h
hear_seen c seen (ports.Query (Err error)) new turn h = h
hear_seen c seen (ports.Insert kept) new turn h = h

-- ---- what is needed after a reply

module _ (frames : List Frame) where
  value_served : (o : Outcome) (n : Need) → ReachesPort n → value_need frames o ≢ n
  value_served o n port is = go frames is
    where
      go : (fs : List Frame) → value_need fs o ≡ n → ⊥
      go [] at = subst ReachesPort (sym at) port
      go (x ∷ xs) at = subst ReachesPort (sym at) port

  -- no need after a reply is one that a port serves
  pub served : (need : Need) (reply : Reply) (n : Need) → ReplyFits need reply → ReachesPort n → need_after frames need reply ≢ n
  served (needs.Lookup k) replies.Miss n fits port is = subst ReachesPort (sym is) port
  served (needs.Lookup k) (replies.Hit hit) n fits port is = value_served (outcome_of k hit.value hit.reach hit.tags) n port is
  served (needs.Query q) (replies.Found found) n fits port is = subst ReachesPort (sym is) port
  served (needs.Insert e) replies.Inserted n fits port is = value_served (outcome_of e.key e.value e.reach e.tags) n port is
  served need reply n fits port is = absurd fits

-- ---- replies that hand in nothing

pub miss_holds : (next : Next) (L : History) (need : Need) → ReplyHolds next L need replies.Miss
miss_holds next L (needs.Lookup k) = tt
miss_holds next L (needs.Query q) = tt
miss_holds next L (needs.Insert e) = tt
miss_holds next L (needs.Value o) = tt
miss_holds next L (needs.Begin k) = tt
miss_holds next L (needs.Resume x) = tt

pub inserted_holds : (next : Next) (L : History) (need : Need) → ReplyHolds next L need replies.Inserted
inserted_holds next L (needs.Lookup k) = tt
inserted_holds next L (needs.Query q) = tt
inserted_holds next L (needs.Insert e) = tt
inserted_holds next L (needs.Value o) = tt
inserted_holds next L (needs.Begin k) = tt
inserted_holds next L (needs.Resume x) = tt
