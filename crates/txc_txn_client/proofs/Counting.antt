-- How many requests of a call may follow at most.
use Rattle.std.proofs.Common.{◌≡◌, ◌≢◌, ⊎_elim, ℕ, suc, ◌+◌, ◌-◌, ◌<◌, ◌≤◌, Bool, true, false, List, [], ◌∷◌, Option, Some, None, Ok, Err, refl, sym, ap, subst, ◌∙◌, arith}
use Rattle.txc_stamp.specs.Interval.{Interval}
use Rattle.txc_tags.specs.Keys.{Call}
use Rattle.txc_node.specs.declared.hit.HitValue.{HitValue}
use Rattle.txc_cushion.specs.declared.pin.Pin.{Pin}
use Rattle.txc_pinset.specs.Members.{PinSetValue, kept, narrowed}
use Rattle.txc_app.specs.Eval.{Next}
use Rattle.txc_call.specs.declared.frames.TheConstants.{MAX_CALL_ASKS}
use Rattle.txc_call.specs.declared.need.Need.{Need}
use Rattle.txc_call.specs.declared.need.Need.TheVariants as needs
use Rattle.txc_call.specs.declared.need.Outcome.{Outcome}
use Rattle.txc_call.specs.declared.reply.Reply.{Reply}
use Rattle.txc_call.specs.declared.reply.Reply.TheVariants as replies
use Rattle.txc_call.specs.MachineTurn.{AfterReply}
use Rattle.txc_call.proofs.Offered.{reply_counts}
use Rattle.txc_cushion.specs.Pin.{pin_of}
use Rattle.txc_call.specs.MachineTurn.{Turn as CallTurn}
use Rattle.txc_txn.specs.TxnCore.{CoreAsks, CoreValue, IsAnswered, IsNarrowed, IsPinningAt, IsTurn, PinningFits, PinsAfter, WaitsForPin}
use Rattle.txc_txn.specs.RunningTxn.{TxnValue, IsTxn, HasGoneOn}
use Rattle.txc_txn.specs.Transitions.{CallTransition, HitTransition, ReplyTransition, StandingTransition}
use Rattle.txc_txn_ports.specs.Refusals.{refused_pin}
use Rattle.txc_txn_ports.specs.declared.request.PortRequest.{PortRequest}
use Rattle.txc_txn_ports.specs.declared.request.PortRequest.TheVariants as requests
use Rattle.txc_txn_ports.specs.declared.reply.PortReply.{PortReply}
use Rattle.txc_txn_ports.specs.declared.reply.PortReply.TheVariants as ports
use Rattle.txc_txn_ports.specs.Turns.{PortTurn}
use Rattle.txc_txn_ports.specs.declared.turn.Turn.TheVariants as turns
use Rattle.txc_txn.specs.declared.pinning.Pinning.{Pinning}
use Rattle.txc_txn.specs.declared.pinning.PinStep.{PinStep}
use Rattle.txc_txn.specs.declared.pinning.PinStep.TheVariants.{Asked, Adding, Dropping}

-- ---- requests that may follow

-- how far a pin of the present still has to go
abbrev pub steps_of : PinStep → ℕ
steps_of Asked = 3
steps_of (Adding pin) = 2
steps_of (Dropping stamp error) = 1

-- the present may still be pinned, once, and the call ask so often
abbrev pub left : Bool → Option Pinning → ℕ → ℕ
left false pinning asked = MAX_CALL_ASKS - asked
left true None asked = MAX_CALL_ASKS + 4 + (MAX_CALL_ASKS - asked)
left true (Some p) asked = MAX_CALL_ASKS + steps_of p.step

abbrev pub left_of : CoreValue → ℕ
left_of c = left c.pins.has_present c.pinning c.call.asked

-- none where the call has ended
abbrev pub requests_left : PortTurn → CoreValue → ℕ
requests_left (turns.Ask request) c = suc (left_of c)
requests_left (turns.Ended result) c = 0

steps_few : (step : PinStep) → steps_of step ≤ 3
steps_few Asked = omega arith
steps_few (Adding pin) = omega arith
steps_few (Dropping stamp error) = omega arith

-- after a reply to the call that was counted
counted_down : (before after : Bool) (pinning : Option Pinning) (a b : ℕ) → (after ≡ true → before ≡ true) → a < b → b ≤ MAX_CALL_ASKS
    → left after pinning b < left before None a
counted_down true true None a b keeps less most = omega (arith, less, most)
counted_down true true (Some p) a b keeps less most = let few = steps_few p.step in omega (arith, few)
counted_down true false pinning a b keeps less most = omega (arith, less, most)
counted_down false true pinning a b keeps less most = let no : false ≡ true = keeps refl in cc no
counted_down false false pinning a b keeps less most = omega (arith, less, most)

-- ---- a core that asks

waits_for_no_value : (first : Option Call) (need : Option Need) (members : List Pin) (o : Outcome) → need ≡ Some (needs.Value o) → ¬ (WaitsForPin first need members)
waits_for_no_value (Some k) need members o is waits = let no : None ≡ Some (needs.Value o) = sym waits.0 ∙ is in cc no
waits_for_no_value None need members o is waits = let no : Some (needs.Query waits.0) ≡ Some (needs.Value o) = sym waits.1 ∙ is in cc no

module _ (c : CoreValue) (fits : PinningFits c.pinning c.pins c.call.need) where
  pinned_fits : (step : PinStep) (at : IsPinningAt c step) → PinningFits (Some (record { step = step; first = at.0 })) c.pins c.call.need
  pinned_fits step at = subst (λ (p : Option Pinning). PinningFits p c.pins c.call.need) at.1 fits

  pinning_waits : (step : PinStep) (o : Outcome) → IsPinningAt c step → c.call.need ≢ Some (needs.Value o)
  pinning_waits step o at is = waits_for_no_value at.0 c.call.need c.pins.members o is (pinned_fits step at).1

  -- its call has no value yet
  asking_waits : (request : PortRequest) (o : Outcome) → CoreAsks c request → c.call.need ≢ Some (needs.Value o)
  asking_waits (requests.Pin now at_least) o asking is = pinning_waits Asked o asking.0 is
  asking_waits (requests.AddPin pinned) o asking is = pinning_waits (Adding (pin_of pinned)) o asking is
  asking_waits (requests.Unpin stamp) o asking is = pinning_waits (Dropping stamp asking.0) o asking.1 is
  asking_waits (requests.Lookup node key lo hi) o asking is = let no : Some (needs.Lookup key) ≡ Some (needs.Value o) = sym asking.0.1 ∙ is in cc no
  asking_waits (requests.Query query stamp) o asking is = let no : Some (needs.Query query) ≡ Some (needs.Value o) = sym asking.0.1 ∙ is in cc no
  asking_waits (requests.Insert node entry) o asking is = let no : Some (needs.Insert entry) ≡ Some (needs.Value o) = sym asking.0.1 ∙ is in cc no

  -- how many follow while the present is pinned
  pinning_left : (step : PinStep) → IsPinningAt c step → left_of c ≡ MAX_CALL_ASKS + steps_of step
  pinning_left step at =
      subst (λ (b : Bool). left b c.pinning c.call.asked ≡ MAX_CALL_ASKS + steps_of step) (sym (pinned_fits step at).0)
      (subst (λ (p : Option Pinning). left true p c.call.asked ≡ MAX_CALL_ASKS + steps_of step) (sym at.1) refl)

-- without the present, no more than a call may ask
few_left : (c : CoreValue) → c.pins.has_present ≡ false → left_of c ≤ MAX_CALL_ASKS
few_left c none =
    subst (λ (b : Bool). left b c.pinning c.call.asked ≤ MAX_CALL_ASKS) (sym none) (omega arith)

kept_present : (old new : PinSetValue) → new ≡ old → new.has_present ≡ true → old.has_present ≡ true
kept_present old new same is = sym (ap (λ (p : PinSetValue). p.has_present) same) ∙ is

lost_present : (reach : Interval) (old new : PinSetValue) → new ≡ narrowed reach old → new.has_present ≡ true → old.has_present ≡ true
lost_present reach old new same is = let no : false ≡ true = sym (ap (λ (p : PinSetValue). p.has_present) same) ∙ is in cc no

-- ---- what comes of a reply

module _ (next : Next) (old new : TxnValue) (was : IsTxn next old) (now : IsTxn next new) (request : PortRequest) (asking : CoreAsks new.core request) where
  -- to what the call needs
  call_leads_less : (need : Need) (reply : Reply) → old.core.pinning ≡ None → (new.core.pins.has_present ≡ true → old.core.pins.has_present ≡ true)
      → CallTransition next old.core old.objects need reply new.core new.objects (turns.Ask request) → left_of new.core < left_of old.core
  call_leads_less need reply none keeps transition = go transition.0 transition.1 transition.2
    where
      go : (stands : CallTurn) → AfterReply next old.core.call.frames old.core.call.asked old.objects need reply stands
          → StandingTransition stands new.core new.objects (turns.Ask request) → left_of new.core < left_of old.core
      go (Err error) after stand = cc stand
      go (Ok s) after stand =
          ⊎_elim
          (λ (done : (o : Outcome) × (s.need ≡ Some (needs.Value o))). absurd (asking_waits new.core now.fits.pinning request done.0 asking (stand.2 ∙ done.1)))
          (λ (more : (old.core.call.asked < s.asked) × (s.asked ≤ MAX_CALL_ASKS)).
          let less : old.core.call.asked < new.core.call.asked = subst (λ (n : ℕ). old.core.call.asked < n) (sym stand.1) more.0 in
          let most : new.core.call.asked ≤ MAX_CALL_ASKS = subst (λ (n : ℕ). n ≤ MAX_CALL_ASKS) (sym stand.1) more.1 in
          subst (λ (p : Option Pinning). left_of new.core < left old.core.pins.has_present p old.core.call.asked) (sym none)
          (counted_down old.core.pins.has_present new.core.pins.has_present new.core.pinning old.core.call.asked new.core.call.asked keeps less most))
          (reply_counts next s old.core.call.frames old.core.call.asked old.objects need reply after)

  hit_less : (k : Call) (hit : HitValue) → old.core.pinning ≡ None → IsNarrowed hit.reach old.core.pins new.core.pins
      → HitTransition next old.core old.objects k hit new.core new.objects (turns.Ask request) → left_of new.core < left_of old.core
  hit_less k hit none pins transition = go (kept hit.reach old.core.pins.members) refl
    where
      go : (members : List Pin) → kept hit.reach old.core.pins.members ≡ members → left_of new.core < left_of old.core
      go [] is = call_leads_less (needs.Lookup k) replies.Miss none (kept_present old.core.pins new.core.pins (pins.none is)) (transition.none is)
      go (m ∷ ms) is =
          let some : kept hit.reach old.core.pins.members ≢ [] = λ no. let both : m ∷ ms ≡ [] = sym is ∙ no in cc both in
          call_leads_less (needs.Lookup k) (replies.Hit hit) none (lost_present hit.reach old.core.pins new.core.pins (pins.held some)) (transition.held some)

  asks_less : (reply : PortReply) → IsAnswered old.core reply → ReplyTransition next old.core old.objects reply new.core new.objects (turns.Ask request)
      → PinsAfter old.core reply new.core.pins → left_of new.core < left_of old.core
  asks_less (ports.Pin (Ok pinned)) answered transition pins =
      let same : request ≡ requests.AddPin pinned = cc in
      let before = pinning_left old.core was.fits.pinning Asked answered.0 in
      let after = pinning_left new.core now.fits.pinning (Adding (pin_of pinned)) (subst (CoreAsks new.core) same asking) in
      omega (arith, before, after)
  asks_less (ports.Pin (Err error)) answered transition pins = cc transition
  asks_less (ports.AddPin pinned (Ok added)) answered transition pins =
      let before = pinning_left old.core was.fits.pinning (Adding (pin_of pinned)) answered in
      let after = few_left new.core (ap (λ (p : PinSetValue). p.has_present) pins) in
      omega (arith, before, after)
  asks_less (ports.AddPin pinned (Err error)) answered transition pins =
      let before = pinning_left old.core was.fits.pinning (Adding (pin_of pinned)) answered in
      let after = pinning_left new.core now.fits.pinning (Dropping pinned.stamp (refused_pin error)) transition.1 in
      omega (arith, before, after)
  asks_less (ports.Unpin unpinned) answered transition pins =
      let no : turns.Ask request ≡ turns.Ended (Err answered.1) = transition answered.0 answered.1 answered.2 in cc no
  asks_less (ports.Lookup None) answered transition pins =
      call_leads_less (needs.Lookup answered.0) replies.Miss answered.1.0 (kept_present old.core.pins new.core.pins pins) (transition answered.0 answered.1.1)
  asks_less (ports.Lookup (Some hit)) answered transition pins = hit_less answered.0 hit.answer answered.1.0 pins (transition answered.0 answered.1.1)
  asks_less (ports.Query (Ok found)) answered transition pins =
      call_leads_less (needs.Query answered.0) (replies.Found found.answer) answered.1.0
      (lost_present found.answer.reach old.core.pins new.core.pins pins) (transition answered.0 answered.1.1)
  asks_less (ports.Query (Err error)) answered transition pins = cc transition
  asks_less (ports.Insert keeps) answered transition pins =
      call_leads_less (needs.Insert answered.0) replies.Inserted answered.1.0 (kept_present old.core.pins new.core.pins pins) (transition answered.0 answered.1.1)

sucs_less : (a b : ℕ) → a < b → suc a < suc b
sucs_less a b less = omega (arith, less)

none_less : (b : ℕ) → 0 < suc b
none_less b = omega arith

-- each reply leaves fewer requests to come
pub goes_down : (next : Next) (old new : TxnValue) (reply : PortReply) (turn : PortTurn) → IsTxn next old → IsTxn next new → IsAnswered old.core reply
    → HasGoneOn next old reply new turn → requests_left turn new.core < suc (left_of old.core)
goes_down next old new reply turn was now answered on = go turn on.turn_fits on.transition
  where
    go : (turn : PortTurn) → IsTurn new.core turn → ReplyTransition next old.core old.objects reply new.core new.objects turn → requests_left turn new.core < suc (left_of old.core)
    go (turns.Ask request) fits transition = sucs_less (left_of new.core) (left_of old.core) (asks_less next old new was now request fits reply answered transition on.pins)
    go (turns.Ended result) fits transition = none_less (left_of old.core)
