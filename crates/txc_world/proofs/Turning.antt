-- What a transaction asks, and how its call stands after a reply.
use Rattle.std.proofs.Common.{◌≡◌, ◌∙◌, ⊎_elim, ℕ, Bool, true, false, List, Option, Some, None, Ok, Err, ap, refl, sym, subst}
use Rattle.std.specs.Prelude.{if◌then◌else◌, option_map, Result}
use Rattle.std.specs.Option.{ForSome}
use Rattle.txc_tags.specs.Keys.{Call}
use Rattle.txc_cushion.specs.declared.pin.Pin.{Pin}
use Rattle.txc_db.specs.History.{History}
use Rattle.txc_db.specs.FrontsAndFeeds.{FrontValue}
use Rattle.txc_txn_ports.specs.declared.request.PortRequest.{PortRequest}
use Rattle.txc_txn_ports.specs.declared.request.PortRequest.TheVariants as requests
use Rattle.txc_txn_ports.specs.declared.error.TxnError.{TxnError}
use Rattle.txc_txn_ports.specs.declared.turn.Turn.TheVariants as turns
use Rattle.txc_txn_ports.specs.declared.bounds.Bounds.{Bounds}
use Rattle.txc_txn_ports.specs.Turns.{IsAsk, PortTurn}
use Rattle.txc_txn_ports.specs.declared.recorded.Recorded.{Recorded}
use Rattle.txc_txn.specs.TxnCore.{open_call, recorded_after, CoreAsks, CoreValue, IsNoValue, IsOneOf, IsTurn}
use Rattle.txc_world.specs.Parts.{IsPartOf}
use Rattle.txc_world.specs.Ports.{PortsValue, whole_of, KeepsRow}
use Rattle.txc_world.specs.PortRequests.{IsAskedAt}
use Rattle.txc_world.specs.declared.port_outcome.PortOutcome.{PortOutcome}
use Rattle.txc_world.specs.declared.port_outcome.PortOutcome.TheVariants as dids
use Rattle.txc_world.specs.declared.actor.OpenCall.{OpenCall}
use Rattle.txc_world.specs.ActorValues.{opened}
use Rattle.txc_world.specs.Observation.{after_end, did_in, reading, with_answered_call, Reading}
use Rattle.txc_world.specs.Actors.{counted, holds_any, AddsPart, DropsNone, HasCall, IsNoted}
use Rattle.txc_world.proofs.Whole.{part_kept}

-- ---- what is asked

-- a pin is asked for at the moment of the bounds
pub asked_at : (c : CoreValue) (request : PortRequest) → CoreAsks c request → IsAskedAt c.bounds.now request
asked_at c (requests.Pin now at_least) asking = asking.2
asked_at c request asking = tt

-- ---- what comes of a reply

-- what a transaction has seen after a reply is part of the whole after it
pub seen_next : (old new : PortsValue) (before now : FrontValue) (shown : Option FrontValue) → KeepsRow old new → IsPartOf (whole_of old) before
    → ForSome shown (λ f. IsPartOf (whole_of new) f) → IsOneOf before shown now → IsPartOf (whole_of new) now
seen_next old new before now shown keeps was part one =
    ⊎_elim
    (λ (same : now ≡ before). subst (λ (f : FrontValue). IsPartOf (whole_of new) f) (sym same) (part_kept old new before keeps was))
    (λ (is : shown ≡ Some now). part now is)
    one

-- a hit that holds no member is no pin either
pub counted_in : (members : List Pin) (did : PortOutcome) (now : ℕ) (L : History) → did_in (counted members did) now L ≡ did_in did now L
counted_in members (dids.Hit reach) now L = go (holds_any reach members)
  where
    go : (b : Bool) → did_in (if b then dids.Hit reach else dids.Miss) now L ≡ L
    go true = refl
    go false = refl
counted_in members did now L = refl

-- a call that ended before any request ended with a refusal, and tells no answer
pub ended_observed : (r : Reading) (result : Result (List ℕ) TxnError) → IsNoValue (turns.Ended result) → reading (record r { call = None }) ≡ reading (after_end (Some result) r)
ended_observed r (Ok value) none = absurd none
ended_observed r (Err error) none = refl

-- ---- what comes of a turn

pub reading_same : (b b' : Bounds) (k k' : Option Call) (a a' : List Recorded) → b ≡ b' → k ≡ k' → a ≡ a'
    → reading (record { bounds = b; call = k; answers = a }) ≡ reading (record { bounds = b'; call = k'; answers = a' })
reading_same b b' k k' a a' p q r = rw (p, q, r) refl

-- a call that asks is open with its turn; else none is open
pub call_noted : (whole : FrontValue) (c : CoreValue) (key : Call) (turn : PortTurn) (call : Option (OpenCall PortRequest)) (end : Option (Result (List ℕ) TxnError))
    → IsNoted (opened key) turn call end → IsTurn c turn → (IsAsk turn → open_call c ≡ Some key) → AddsPart whole turn → DropsNone c → HasCall whole c call
call_noted whole c key (turns.Ask request) call end noted turn goes_on adds drops =
    subst (HasCall whole c) (sym noted.0) (record { turn = turn; no_value = tt; key = goes_on; adds = adds; not_lost = tt; drops = drops })
call_noted whole c key (turns.Ended result) call end noted turn goes_on adds drops = subst (HasCall whole c) (sym noted.0) turn

-- what is shown of it
pub observed_noted : (r : Reading) (bounds : Bounds) (answers : List Recorded) (key : Call) (turn : PortTurn) (call : Option (OpenCall PortRequest)) (end : Option (Result (List ℕ) TxnError))
    → IsNoted (opened key) turn call end → bounds ≡ r.bounds → r.call ≡ Some key → answers ≡ recorded_after r.answers turn (Some key)
    → reading (record { bounds = bounds; call = option_map (λ (c : OpenCall PortRequest). c.key) call; answers = answers }) ≡ reading (after_end end r)
observed_noted r bounds answers key (turns.Ask request) call end noted b k a =
    rw (noted.0, noted.1) (reading_same bounds r.bounds (Some key) r.call answers r.answers b (sym k) a)
observed_noted r bounds answers key (turns.Ended (Ok value)) call end noted b k a =
    rw (noted.0, noted.1) (reading_same bounds r.bounds None None answers (with_answered_call r.call value r.answers) b refl
    (a ∙ sym (ap (λ (o : Option Call). with_answered_call o value r.answers) k)))
observed_noted r bounds answers key (turns.Ended (Err error)) call end noted b k a =
    rw (noted.0, noted.1) (reading_same bounds r.bounds None None answers r.answers b refl a)
