-- What the requests of an act leave of the ports, and why an act was refused.
use Rattle.std.proofs.Common.{◌≡◌, ◌≢◌, ◌∙◌, ◌⊎◌, ℕ, ◌++◌, true, List, [], ◌∷◌, Option, Some, None, Ok, Err, inl, inr, refl, ap, sym, subst}
use Rattle.std.specs.Prelude.{IfSome, IsSome, Result}
use Rattle.txc_tags.specs.Keys.{Call}
use Rattle.txc_rows.specs.declared.query.Query.{Query}
use Rattle.txc_node.specs.declared.hit.HitValue.{HitValue}
use Rattle.txc_cushion.specs.declared.pin.Pin.{Pin}
use Rattle.txc_cushion.specs.Cushion.{after_add}
use Rattle.txc_db.specs.Calls.{IsQueryRefused, IsUnpinRefused}
use Rattle.txc_db.specs.DatabaseValue.{DatabaseValue}
use Rattle.txc_db.specs.FrontsAndFeeds.{FrontValue}
use Rattle.txc_db.specs.declared.answered.Answered.{Answered}
use Rattle.txc_db.specs.declared.error.DbError.{DbError}
use Rattle.txc_db.specs.declared.pinned.Pinned.{Pinned}
use Rattle.txc_pinset.specs.Members.{choice_of, kept, PinSetValue}
use Rattle.txc_pinset.specs.declared.choice.Choice.TheVariants.{Present}
use Rattle.txc_txn_ports.specs.declared.recorded.Recorded.{Recorded}
use Rattle.txc_app.specs.declared.app.Limits.{Limits}
use Rattle.txc_app.specs.declared.ask.Ask.{Ask}
use Rattle.txc_app.specs.declared.ask.Ask.TheVariants as asks
use Rattle.txc_app.specs.Eval.{Next}
use Rattle.txc_call_registry.specs.Objects.{activity_of, Objects}
use Rattle.txc_shared.specs.Nodes.{NodeValue}
use Rattle.txc_call.specs.CallMachine.{Calling}
use Rattle.txc_call.specs.CallSteps.{need_after, value_need, AfterRan, NeedsFunction}
use Rattle.txc_call.specs.MachineTurn.{Turn as CallTurn}
use Rattle.txc_call.specs.declared.error.CallError.{CallError}
use Rattle.txc_call.specs.declared.frame.Frame.{Frame}
use Rattle.txc_call.specs.declared.need.Need.{Need}
use Rattle.txc_call.specs.declared.need.Need.TheVariants as needs
use Rattle.txc_call.specs.declared.need.Outcome.{Outcome}
use Rattle.txc_call.specs.declared.reply.Reply.{Reply}
use Rattle.txc_call.specs.declared.reply.Reply.TheVariants as replies
use Rattle.txc_txn_ports.specs.PortRequests.{IsAnsweredRight}
use Rattle.txc_txn_ports.specs.Exchanges.{Exchange, reply_of, request_of}
use Rattle.txc_txn_ports.specs.Exchanges as exchanges
use Rattle.txc_txn_ports.proofs.Offered.{both_exchange, by_exchange}
use Rattle.txc_txn_ports.specs.Refusals.{refused_call, refused_pin, refused_request}
use Rattle.txc_txn_ports.specs.Turns.{PortTurn, IsAsk}
use Rattle.txc_txn_ports.specs.declared.error.TxnError.{TxnError}
use Rattle.txc_txn_ports.specs.declared.error.TxnError.TheVariants.{Memory}
use Rattle.txc_txn_ports.specs.declared.request.PortRequest.{PortRequest}
use Rattle.txc_txn_ports.specs.declared.request.PortRequest.TheVariants as requests
use Rattle.txc_txn_ports.specs.declared.reply.PortReply.{PortReply}
use Rattle.txc_txn_ports.specs.declared.turn.Turn.TheVariants.{Ask as Asks, Ended}
use Rattle.txc_txn.specs.declared.pinning.Pinning.{Pinning}
use Rattle.txc_txn.specs.declared.pinning.PinStep.{PinStep}
use Rattle.txc_txn.specs.declared.pinning.PinStep.TheVariants.{Asked, Dropping}
use Rattle.txc_txn.specs.ByHand.{FirstExists, HandTransition, HandTurn, HasAskedByHand, HasGoneOnByHand, HasSameCall, HitByHand, IsHandTurn, IsUnended, TakeTransition}
use Rattle.txc_txn.specs.TxnCore.{first_call, least_present, left_pin, running_call, CoreAsks, CoreValue, IsCore, IsIdle, IsNoAdding, IsTurn, PinningFits, WaitsForPin}
use Rattle.txc_txn.specs.RunningTxn.{HasBegunCall, TxnValue}
use Rattle.txc_txn.specs.Transitions.{AsksLookup, AsksPin, IsBeyond, IsWanting, PresentPinTransition}
use Rattle.txc_caller.specs.CallerAct.{step_error, CallerActTransition, HasGivenPin, IsNodeAsked, IsNodeStepFor, IsRefusedPinned, IsRefusedUnpinned, PinsFirst}
use Rattle.txc_caller.specs.Ports.{is_of_pin, CallerExchangeTransition, CallerPorts, CallerUnpinTransition, HasAskedPorts, HasPinnedForCaller, HasRefusedPin, IsLetGo}
use Rattle.txc_caller.specs.CallerTxn.{chosen_stamp, read_stamp}
use Rattle.txc_caller.specs.ActRequests.{coming_need, need_to_come, pins_to_come, turn_error, AddedTransition, ActAddTransition, GivenTransition, IsNeedRefused, IsNeedStep, LastTransition, TransitionBy, StillTransition, TurnTransition, UngivenTransition}
use Rattle.txc_caller.specs.ComputedFunctions.{calls_of, computed_calls, computed_in, ended_step}
use Rattle.txc_caller.specs.CallerWrite.{IsAskedQueryRefused}
use Rattle.txc_caller.proofs.Lent.{some_need}
use Rattle.txc_caller.proofs.Making.{not_pinning}
use Rattle.txc_caller.proofs.Requests.{both_pinning, one_step}
use Rattle.txc_caller.proofs.Telling.{no_value_lookup, ran_next, stands_next, IsValueNeed, NeedsNext, StandsNext}

-- what holds of the value that there may be, if something stronger does
if_weaker : {X : Type 0} (P Q : X → Type 0) (o : Option X) → ((x : X) → P x → Q x) → IfSome o P → IfSome o Q
if_weaker P Q None weaker h = tt
if_weaker P Q (Some x) weaker h = weaker x h

if_some : {X : Type 0} (P : X → Type 0) (o : Option X) (x : X) → o ≡ Some x → P x → IfSome o P
if_some {X} P o x is h = subst (λ (y : Option X). IfSome y P) (sym is) h

-- ---- the node alone

-- all but the node stays if all does
all_same : (old new : CallerPorts) → new ≡ old → new ≡ record old { node = new.node }
all_same old new is = is ∙ ap (λ (n : NodeValue). record old { node = n }) (sym (ap (λ (p : CallerPorts). p.node) is))

node_unasked : (computed : List Call) (ask : Ask) (old new : CallerPorts) → new ≡ old → IsNodeAsked computed ask old new
node_unasked computed ask old new is = record { same = all_same old new is; step = inl (ap (λ (p : CallerPorts). p.node) is) }

-- ---- a request about the pin of the present

-- a hold was taken away, or the database refused
unpinned_so : {A : Type 0} (stamp : ℕ) (old new : CallerPorts) (r : Result A DbError) → CallerUnpinTransition stamp old new r
    → IsLetGo (Some stamp) old.database new.database × (new ≡ record old { database = new.database })
unpinned_so stamp old new (Ok it) transition = (
  inl (ap (λ (p : CallerPorts). p.database) transition.0),
  transition.0 ∙ ap (λ (d : DatabaseValue). record old { database = d }) (sym (ap (λ (p : CallerPorts). p.database) transition.0)),
)
unpinned_so stamp old new (Err e) transition = (
  inr (ap (λ (p : CallerPorts). p.database) transition.0, (e, transition.1)),
  transition.0 ∙ ap (λ (d : DatabaseValue). record old { database = d }) (sym (ap (λ (p : CallerPorts). p.database) transition.0)),
)

-- the turn that asks what a node has of a call asks
asks_lookup : (k : Call) (t : PortTurn) → AsksLookup k t → IsAsk t
asks_lookup k (Asks request) asks = tt
asks_lookup k (Ended outcome) asks = absurd asks

-- with no pin under way it is the last request
last_turn : (d : CoreValue) (q : CallerPorts) (t : PortTurn) → d.pinning ≡ None → IsTurn d t → IsAsk t → (new : CallerPorts) (taken : List ℕ) (failed : Option TxnError)
    → TurnTransition d q (Some t) new taken failed → LastTransition d q new taken failed
last_turn d q (Asks (requests.Pin now at_least)) none fits on new taken failed h = absurd (both_pinning d _ fits.0 none)
last_turn d q (Asks (requests.AddPin pinned)) none fits on new taken failed h = absurd (both_pinning d _ fits none)
last_turn d q (Asks (requests.Unpin stamp)) none fits on new taken failed h = absurd (both_pinning d _ fits.1 none)
last_turn d q (Asks (requests.Lookup node key lo hi)) none fits on new taken failed h = h
last_turn d q (Asks (requests.Query query stamp)) none fits on new taken failed h = h
last_turn d q (Asks (requests.Insert node entry)) none fits on new taken failed h = h
last_turn d q (Ended outcome) none fits on new taken failed h = absurd on

module _ (c d : CoreValue) (p q : CallerPorts) (objects : Objects) where
  -- the last request that comes after a pin is for what was to come
  present_last : (first : Option Call) (t : PortTurn) → FirstExists objects first → IsTurn d t → PresentPinTransition first c objects d objects t
      → (new : CallerPorts) (taken : List ℕ) (failed : Option TxnError) → TurnTransition d q (Some t) new taken failed
      → LastTransition d q new taken failed × (d.call.need ≡ coming_need first c.call.need)
  present_last None t there fits transition new taken failed h = (
    last_turn d q t transition.0.none fits transition.1 new taken failed h,
    ap (λ (m : Calling). m.need) transition.0.same_call,
  )
  present_last (Some k) t there fits transition new taken failed h =
      let start = transition.there (there k refl) in
      (last_turn d q t start.0.none fits (asks_lookup k t start.1) new taken failed h, ap (λ (m : Calling). m.need) start.0.call)

  -- a pin that was added is the one at which the query runs
  added_leads : (pinned given : Pinned) → given ≡ pinned → q ≡ record p { cushion = after_add p.cushion pinned } → d.taken ≡ c.taken ++ given.stamp ∷ []
      → read_stamp d ≡ Some given.stamp → (new : CallerPorts) (taken : List ℕ) (failed : Option TxnError)
      → LastTransition d q new taken failed × (d.call.need ≡ need_to_come c) → AddedTransition c.taken (need_to_come c) p pinned new taken failed
  added_leads pinned given one added more reads new taken failed h = record {
    between = q;
    added = added;
    same = h.0.same;
    step = subst (λ (n : Option Need). IsNeedStep q.budget n q.node new.node) h.1 h.0.step;
    taken_is = h.0.taken_is ∙ more ∙ ap (λ (x : Pinned). c.taken ++ x.stamp ∷ []) one;
    refused = if_weaker _ (λ (e : TxnError). (e ≡ Memory) ⊎ IsNeedRefused (need_to_come c) pinned.stamp q.database e) failed because h.0.refused;
  }
    where
      because : (e : TxnError) → (e ≡ Memory) ⊎ ((stamp : ℕ) × (read_stamp d ≡ Some stamp) × IsNeedRefused d.call.need stamp q.database e)
          → (e ≡ Memory) ⊎ IsNeedRefused (need_to_come c) pinned.stamp q.database e
      because e (inl out) = inl out
      because e (inr r) =
          let two : Some r.0 ≡ Some given.stamp = sym r.1 ∙ reads in
          let at : r.0 ≡ given.stamp = cc two in
          inr (subst (λ (s : ℕ). IsNeedRefused (need_to_come c) s q.database e) (at ∙ ap (λ (x : Pinned). x.stamp) one)
          (subst (λ (n : Option Need). IsNeedRefused n r.0 q.database e) h.1 r.2))

module _ (next : Next) (objects : Objects) (c d : CoreValue) (turn : HandTurn) (seen : FrontValue) (p q : CallerPorts) (there : FirstExists objects (first_call c.pinning)) where
  -- such a request and the reply to it
  abbrev Exchanged : Exchange → Type 0
  Exchanged x = CallerExchangeTransition seen p q x × IsAnsweredRight next x

  -- what it leaves, with what comes after it
  abbrev Passes : PortRequest → PortReply → Type 0
  Passes request reply =
      CoreAsks c request → is_of_pin request ≡ true → HasGoneOnByHand c reply d turn → TransitionBy c p (Some (Asks request)) d q turn

  pin_given : (now at_least : ℕ) (pinned : Pinned) → HasPinnedForCaller now at_least p q pinned → now ≡ c.bounds.now → at_least ≡ least_present c.bounds c.pins.members
      → HasGivenPin c p q pinned
  pin_given now at_least pinned h moment least =
      subst (λ (n : ℕ). HasPinnedForCaller n (least_present c.bounds c.pins.members) p q pinned) moment (subst (λ (n : ℕ). HasPinnedForCaller now n p q pinned) least h)

  add_from : (pinned : Pinned) (new : CallerPorts) (taken : List ℕ) (failed : Option TxnError) → d.taken ≡ c.taken → HasSameCall c d
      → ActAddTransition d.taken (need_to_come d) q pinned new taken failed → ActAddTransition c.taken (need_to_come c) q pinned new taken failed
  add_from pinned new taken failed same call h =
      let need : need_to_come d ≡ need_to_come c =
      ap (λ (o : Option Call). coming_need o d.call.need) call.first ∙ ap (λ (m : Calling). coming_need (first_call c.pinning) m.need) call.call in
      subst (λ (n : Option Need). ActAddTransition c.taken n q pinned new taken failed) need (subst (λ (ts : List ℕ). ActAddTransition ts (need_to_come d) q pinned new taken failed) same h)

  passed_in : (x : Exchange) → Exchanged x → Passes (request_of x) (reply_of x)
  passed_in (exchanges.Pin now at_least (Ok pinned)) h asking of gone new taken failed after =
      inr (record {
        given = q;
        pinned = pinned;
        gives = pin_given now at_least pinned h.0 asking.2 asking.3;
        adds = add_from pinned new taken failed gone.taken gone.transition.1 (subst (λ (t : HandTurn). TurnTransition d q t new taken failed) gone.transition.0 after);
      })
  passed_in (exchanges.Pin now at_least (Err e)) h asking of gone new taken failed after =
      let still = subst (λ (t : HandTurn). TurnTransition d q t new taken failed) gone.transition after in
      inl (record {
        cause = e;
        refused = subst (λ (n : ℕ). HasRefusedPin n p new e) asking.3 (subst (λ (r : CallerPorts). HasRefusedPin at_least p r e) (sym still.ports) h.0);
        taken_is = still.taken_is ∙ gone.taken;
        failed_so = still.failed_so;
      })
  passed_in (exchanges.AddPin pinned given (Ok added)) h asking of gone new taken failed after =
      let at = gone.transition objects there in
      let reads : read_stamp d ≡ Some given.stamp = ap (λ (s : PinSetValue). chosen_stamp (choice_of d.bounds.now d.renew_after s)) gone.pins in
      inl (added_leads c d p q objects pinned given h.1 h.0 gone.taken reads new taken failed
      (present_last c d p q objects (first_call c.pinning) at.0 there (subst (λ (t : HandTurn). IsHandTurn d t) at.1 gone.turn_fits) at.2 new taken failed
      (subst (λ (t : HandTurn). TurnTransition d q t new taken failed) at.1 after)))
  passed_in (exchanges.AddPin pinned given (Err e)) h asking of gone new taken failed after =
      let unpin = subst (λ (t : HandTurn). TurnTransition d q t new taken failed) gone.transition.0 after in
      let one : Dropping given.stamp (refused_pin e) ≡ Dropping given.stamp unpin.error = one_step d _ _ gone.transition.1 unpin.due in
      let error : refused_pin e ≡ unpin.error = cc one in
      inr (record {
        cause = e;
        dropped = record {
          refused = h.0.1;
          unheld = subst (λ (r : CallerPorts). IsLetGo (Some pinned.stamp) r.database new.database) h.0.0
              (subst (λ (x : Pinned). IsLetGo (Some x.stamp) q.database new.database) h.1 unpin.unheld);
          same = subst (λ (r : CallerPorts). new ≡ record r { database = new.database }) h.0.0 unpin.same;
        };
        taken_is = unpin.taken_is ∙ gone.taken;
        failed_so = unpin.failed_so ∙ ap Some (sym error);
      })
  passed_in (exchanges.Unpin stamp unpinned) h asking of gone new taken failed after =
      let still = subst (λ (t : HandTurn). TurnTransition d q t new taken failed) (gone.transition stamp asking.0 asking.1) after in
      let so = unpinned_so stamp p q unpinned h.0 in
      record {
        error = asking.0;
        due = asking.1;
        unheld = subst (λ (r : CallerPorts). IsLetGo (Some stamp) p.database r.database) (sym still.ports) so.0;
        same = subst (λ (r : CallerPorts). r ≡ record p { database = r.database }) (sym still.ports) so.1;
        taken_is = still.taken_is ∙ gone.taken;
        failed_so = still.failed_so;
      }
  passed_in (exchanges.Lookup number key lo hi hit) h asking of gone new taken failed after = absurd (cc of)
  passed_in (exchanges.Query query stamp found) h asking of gone new taken failed after = absurd (cc of)
  passed_in (exchanges.Insert number entry stored) h asking of gone new taken failed after = absurd (cc of)

  pub passed_leads : (request : PortRequest) (reply : PortReply) → HasAskedPorts next seen request p q reply → Passes request reply
  passed_leads request reply asked =
      by_exchange Exchanged Passes passed_in request reply
      (both_exchange (CallerExchangeTransition seen p q) (IsAnsweredRight next) request reply asked.transition asked.answer)

-- ---- the last request

-- the need for which a value is held is no query
no_value_query : (frames : List Frame) (o : Outcome) (query : Query) → value_need frames o ≢ needs.Query query
no_value_query [] o query is = absurd (cc is)
no_value_query (frame ∷ frames) o query is = absurd (cc is)

module _ (c d : CoreValue) where
  -- a reply that was taken leads to no refusal but for memory
  take_fails : (need : Need) (reply : Reply) → ((query : Query) → need_after c.call.frames need reply ≢ needs.Query query) → (t : HandTurn)
      → TakeTransition c need reply d t → IfSome (turn_error t) (λ (e : TxnError). e ≡ Memory)
  take_fails need reply apart None transition = tt
  take_fails need reply apart (Some (Asks request)) transition = tt
  take_fails need reply apart (Some (Ended (Ok value))) transition = tt
  take_fails need reply apart (Some (Ended (Err e))) transition = go (transition []).1
    where
      go : IsWanting (Some (need_after c.call.frames need reply)) d e → e ≡ Memory
      go (inl out) = out
      go (inr w) = absurd (apart w.0 (let one : Some (need_after c.call.frames need reply) ≡ Some (needs.Query w.0) = w.1 in cc one))

  hit_fails : (k : Call) (hit : HitValue) (t : HandTurn) (members : List Pin) → kept hit.reach c.pins.members ≡ members → HitByHand c k hit d t
      → IfSome (turn_error t) (λ (e : TxnError). e ≡ Memory)
  hit_fails k hit t [] is by = take_fails (needs.Lookup k) replies.Miss (λ query no. absurd (cc no)) t (by.none is)
  hit_fails k hit t (m ∷ ms) is by =
      take_fails (needs.Lookup k) (replies.Hit hit) (λ query. no_value_query c.call.frames _ query) t
      (by.held (λ no. let one : m ∷ ms ≡ [] = sym is ∙ no in absurd (cc one)))

module _ (c d : CoreValue) (turn : HandTurn) (seen : FrontValue) (p q : CallerPorts) where
  abbrev IsBecause : TxnError → Type 0
  IsBecause error = (error ≡ Memory) ⊎ ((stamp : ℕ) × (read_stamp c ≡ Some stamp) × IsNeedRefused c.call.need stamp p.database error)

  memory_alone : IfSome (turn_error turn) (λ (e : TxnError). e ≡ Memory) → IfSome (turn_error turn) IsBecause
  memory_alone h = if_weaker (λ (e : TxnError). e ≡ Memory) IsBecause (turn_error turn) (λ e out. inl out) h

  abbrev Makes : PortRequest → PortReply → Type 0
  Makes request reply =
      CoreAsks c request → pins_to_come (Some (Asks request)) ≡ 0 → HasGoneOnByHand c reply d turn → TurnTransition c p (Some (Asks request)) q d.taken (turn_error turn)

  for_need : (need : Option Need) → c.call.need ≡ need → IsNeedStep p.budget need p.node q.node → IsNeedStep p.budget c.call.need p.node q.node
  for_need need is h = subst (λ (n : Option Need). IsNeedStep p.budget n p.node q.node) (sym is) h

  made_in : (x : Exchange) → CallerExchangeTransition seen p q x → Makes (request_of x) (reply_of x)
  made_in (exchanges.Pin now at_least pinned) transition asking last gone = absurd (cc last)
  made_in (exchanges.AddPin pinned given added) transition asking last gone = absurd (cc last)
  made_in (exchanges.Unpin stamp unpinned) transition asking last gone = absurd (cc last)
  made_in (exchanges.Lookup number key lo hi None) transition asking last gone = record {
    same = transition.0;
    step = for_need (Some (needs.Lookup key)) asking.0.1 (lo, hi, None, transition.1);
    taken_is = gone.taken;
    refused = memory_alone (take_fails c d (needs.Lookup key) replies.Miss (λ query no. absurd (cc no)) turn (gone.transition key asking.0.1));
  }
  made_in (exchanges.Lookup number key lo hi (Some hit)) transition asking last gone = record {
    same = transition.0;
    step = for_need (Some (needs.Lookup key)) asking.0.1 (lo, hi, Some hit, transition.1);
    taken_is = gone.taken;
    refused = memory_alone (hit_fails c d key hit.answer turn _ refl (gone.transition key asking.0.1));
  }
  made_in (exchanges.Query query stamp (Ok found)) transition asking last gone = record {
    same = all_same p q transition.0;
    step = for_need (Some (needs.Query query)) asking.0.1 (ap (λ (r : CallerPorts). r.node) transition.0);
    taken_is = gone.taken;
    refused = memory_alone (take_fails c d (needs.Query query) (replies.Found found.answer) (λ other no. absurd (cc no)) turn (gone.transition query asking.0.1));
  }
  made_in (exchanges.Query query stamp (Err e)) transition asking last gone = record {
    same = all_same p q transition.0;
    step = for_need (Some (needs.Query query)) asking.0.1 (ap (λ (r : CallerPorts). r.node) transition.0);
    taken_is = gone.taken;
    refused = if_some IsBecause (turn_error turn) (refused_request e) (ap turn_error gone.transition) (inr (stamp, ap chosen_stamp asking.1, (query, asking.0.1, (e, transition.1, refl))));
  }
  made_in (exchanges.Insert number entry stored) transition asking last gone = record {
    same = transition.0;
    step = for_need (Some (needs.Insert entry)) asking.0.1 (seen, stored, transition.1);
    taken_is = gone.taken;
    refused = memory_alone (take_fails c d (needs.Insert entry) replies.Inserted (λ query. no_value_query c.call.frames _ query) turn (gone.transition entry asking.0.1));
  }

  pub made_leads : (next : Next) (request : PortRequest) (reply : PortReply) → HasAskedPorts next seen request p q reply → Makes request reply
  made_leads next request reply asked = by_exchange (CallerExchangeTransition seen p q) Makes made_in request reply asked.transition

pub still_leads : (c : CoreValue) (p : CallerPorts) (turn : HandTurn) → StillTransition c p turn p c.taken (turn_error turn)
still_leads c p turn = record { ports = refl; taken_is = refl; failed_so = refl }

-- the error of the act is that of its last turn
pub ended_error : (outcome : Result (List ℕ) TxnError) → turn_error (Some (Ended outcome)) ≡ step_error (ended_step outcome)
ended_error (Ok value) = refl
ended_error (Err error) = refl

-- ---- an act

-- if a query is needed next, one was asked
query_next : (computed : List Call) (ask : Ask) (frames : List Frame) (query : Query) → NeedsNext computed ask frames (needs.Query query) → ask ≡ asks.Query query
query_next computed (asks.Query other) frames query h = let same : query ≡ other = cc (h.1) in ap asks.Query (sym same)
query_next computed (asks.Call k) frames query h = absurd (cc (h.1))
query_next computed (asks.Done bytes) frames query h = absurd (no_value_query frames h.2.0 query (sym h.2.3))

-- the database refused what was asked, if it refused what is needed
need_refused : (need : Option Need) (ask : Ask) (stamp : ℕ) (d : DatabaseValue) (e : TxnError) → ((query : Query) → need ≡ Some (needs.Query query) → ask ≡ asks.Query query)
    → IsNeedRefused need stamp d e → IsAskedQueryRefused d stamp ask e
need_refused need ask stamp d e asked r = subst (λ (a : Ask). IsAskedQueryRefused d stamp a e) (sym (asked r.0 r.1)) r.2

-- the step of the node is for what was asked
need_step : (computed : List Call) (ask : Ask) (frames : List Frame) (need : Need) → NeedsNext computed ask frames need → (budget : Option ℕ) (was is : NodeValue) → IsNeedStep budget (Some need) was is
    → (is ≡ was) ⊎ IsNodeStepFor budget computed ask was is
need_step computed (asks.Query query) frames need h budget was is step = inl (subst (λ (n : Need). IsNeedStep budget (Some n) was is) h.1 step)
need_step computed (asks.Call k) frames need h budget was is step = inr (subst (λ (n : Need). IsNeedStep budget (Some n) was is) h.1 step)
need_step computed (asks.Done bytes) frames need h budget was is step = done_step need h.2 step
  where
    done_step : (n : Need) → IsValueNeed h.0 frames bytes n → IsNeedStep budget (Some n) was is → (is ≡ was) ⊎ IsNodeStepFor budget computed (asks.Done bytes) was is
    done_step (needs.Insert e) v s = inr (e, calls_of frames, h.1 ∙ ap (λ (k : Call). k ∷ calls_of frames) (sym v.0), v.1, s)
    done_step (needs.Lookup k) v s = absurd (no_value_lookup frames v.0 k v.3)
    done_step (needs.Query q) v s = inl s
    done_step (needs.Value o) v s = inl s
    done_step (needs.Begin k) v s = inl s
    done_step (needs.Resume x) v s = inl s

-- A core whose settings, pins and stamps are those of another.
module _ (next : Next) (old mid : TxnValue) (ask : Ask) (same : mid.core ≡ record old.core { recorded = mid.core.recorded; call = mid.core.call; pinning = mid.core.pinning })
    (p new : CallerPorts) (taken : List ℕ) (failed : Option TxnError) where
  reads_same : read_stamp old.core ≡ read_stamp mid.core
  reads_same = sym (ap (λ (c : CoreValue). read_stamp c) same)

  taken_same : mid.core.taken ≡ old.core.taken
  taken_same = ap (λ (c : CoreValue). c.taken) same

  -- nothing was asked
  still_acts : (turn : HandTurn) → ((e : TxnError) → turn_error turn ≡ Some e → IsRefusedUnpinned next.limits p old ask e) → StillTransition mid.core p turn new taken failed
      → CallerActTransition next.limits p old ask new taken failed
  still_acts turn because h = inl (record {
    ports = node_unasked (computed_calls old.core.call) ask p new h.ports;
    taken_is = h.taken_is ∙ taken_same;
    refused = go failed h.failed_so;
  })
    where
      go : (f : Option TxnError) → f ≡ turn_error turn → IfSome f (IsRefusedUnpinned next.limits p old ask)
      go None is = tt
      go (Some e) is = because e (sym is)

  -- what comes last is for what was asked
  module _ (asked : (query : Query) → need_to_come mid.core ≡ Some (needs.Query query) → ask ≡ asks.Query query)
      (steps : (budget : Option ℕ) (was is : NodeValue) → IsNeedStep budget (need_to_come mid.core) was is → (is ≡ was) ⊎ IsNodeStepFor budget (computed_calls old.core.call) ask was is) where
    -- the last request was made, and no pin before it
    last_acts : need_to_come mid.core ≡ mid.core.call.need → LastTransition mid.core p new taken failed → CallerActTransition next.limits p old ask new taken failed
    last_acts free h = inl (record {
      ports = record { same = h.same; step = steps p.budget p.node new.node (subst (λ (n : Option Need). IsNeedStep p.budget n p.node new.node) (sym free) h.step) };
      taken_is = h.taken_is ∙ taken_same;
      refused = if_weaker _ (IsRefusedUnpinned next.limits p old ask) failed because h.refused;
    })
      where
        because : (e : TxnError) → (e ≡ Memory) ⊎ ((stamp : ℕ) × (read_stamp mid.core ≡ Some stamp) × IsNeedRefused mid.core.call.need stamp p.database e)
            → IsRefusedUnpinned next.limits p old ask e
        because e (inl out) = inl out
        because e (inr r) =
            inr (inr (inl (
              r.0,
              reads_same ∙ r.1,
              need_refused (need_to_come mid.core) ask r.0 p.database e asked (subst (λ (n : Option Need). IsNeedRefused n r.0 p.database e) (sym free) r.2),
            )))

    -- the present was due
    pin_acts : PinsFirst old.core ask → UngivenTransition mid.core p new taken failed ⊎ GivenTransition mid.core p new taken failed → CallerActTransition next.limits p old ask new taken failed
    pin_acts due (inl h) =
        inr (inr (record {
          due = due;
          error = refused_request h.cause;
          failed_so = h.failed_so;
          ports = inl (h.cause, subst (λ (c : CoreValue). HasRefusedPin (least_present c.bounds c.pins.members) p new h.cause) same h.refused, refl);
          taken_is = h.taken_is ∙ taken_same;
        }))
    pin_acts due (inr h) = go h.adds
      where
        gives : HasGivenPin old.core p h.given h.pinned
        gives = subst (λ (c : CoreValue). HasGivenPin c p h.given h.pinned) same h.gives

        because : (between : CallerPorts) (e : TxnError) → (e ≡ Memory) ⊎ IsNeedRefused (need_to_come mid.core) h.pinned.stamp between.database e
            → IsRefusedPinned between h.pinned ask e
        because between e (inl out) = inl out
        because between e (inr r) = inr (need_refused (need_to_come mid.core) ask h.pinned.stamp between.database e asked r)

        go : ActAddTransition mid.core.taken (need_to_come mid.core) h.given h.pinned new taken failed → CallerActTransition next.limits p old ask new taken failed
        go (inl a) =
            inr (inl (record {
              due = due;
              pinned = h.pinned;
              between = a.between;
              pins = record { given = h.given; gives = gives; added = a.added };
              ports = record { same = a.same; step = steps a.between.budget a.between.node new.node a.step };
              taken_is = a.taken_is ∙ ap (λ (ts : List ℕ). ts ++ h.pinned.stamp ∷ []) taken_same;
              refused = if_weaker _ (IsRefusedPinned a.between h.pinned ask) failed (because a.between) a.refused;
            }))
        go (inr a) =
            inr (inr (record {
              due = due;
              error = refused_pin a.cause;
              failed_so = a.failed_so;
              ports = inr (h.given, h.pinned, a.cause, gives, a.dropped, refl);
              taken_is = a.taken_is ∙ taken_same;
            }))

-- an act of a function
module _ (next : Next) (old mid : TxnValue) (ask : Ask) (turn : HandTurn) (asked : HasAskedByHand next.limits old.core ask mid.core turn) (runs : NeedsFunction old.core.call.need)
    (fits : IsCore next mid.objects mid.core) (p new : CallerPorts) (taken : List ℕ) (failed : Option TxnError) where
  -- what waits for the pin is the open call, if one does
  waits_open : IsUnended turn → (first : Option Call) → WaitsForPin first mid.core.call.need mid.core.pins.members → first ≡ None
  waits_open on None w = refl
  waits_open on (Some k) w =
      let n = stands_next next old mid ask turn asked runs on in
      let no : None ≡ Some n.0 = sym w.0 ∙ n.1 in absurd (cc no)

  first_none : IsUnended turn → first_call mid.core.pinning ≡ None
  first_none on = go mid.core.pinning refl
    where
      go : (o : Option Pinning) → mid.core.pinning ≡ o → first_call o ≡ None
      go None at = refl
      go (Some w) at = waits_open on w.first (subst (λ (o : Option Pinning). PinningFits o mid.core.pins mid.core.call.need) at fits.pinning).1

  need_same : IsUnended turn → need_to_come mid.core ≡ mid.core.call.need
  need_same on = ap (λ (o : Option Call). coming_need o mid.core.call.need) (first_none on)

  -- a query is needed only if one was asked
  query_asked : IsUnended turn → (query : Query) → need_to_come mid.core ≡ Some (needs.Query query) → ask ≡ asks.Query query
  query_asked on query is =
      let n = stands_next next old mid ask turn asked runs on in
      let one : Some n.0 ≡ Some (needs.Query query) = sym n.1 ∙ sym (need_same on) ∙ is in
      let same : n.0 ≡ needs.Query query = cc one in
      query_next (computed_calls old.core.call) ask mid.core.call.frames query (subst (NeedsNext (computed_calls old.core.call) ask mid.core.call.frames) same n.2)

  node_steps : IsUnended turn → (budget : Option ℕ) (was is : NodeValue) → IsNeedStep budget (need_to_come mid.core) was is → (is ≡ was) ⊎ IsNodeStepFor budget (computed_calls old.core.call) ask was is
  node_steps on budget was is h =
      let n = stands_next next old mid ask turn asked runs on in
      need_step (computed_calls old.core.call) ask mid.core.call.frames n.0 n.2 budget was is (subst (λ (o : Option Need). IsNeedStep budget o was is) (need_same on ∙ n.1) h)

  -- where the present is due, the transaction has no stamp to read at
  unread : choice_of mid.core.bounds.now mid.core.renew_after mid.core.pins ≡ Present → read_stamp old.core ≡ None
  unread due = sym (ap (λ (c : CoreValue). read_stamp c) asked.same) ∙ ap chosen_stamp due

  beyond_too : IsBeyond mid.core → IsBeyond old.core
  beyond_too b = let s = subst IsBeyond asked.same b in record { due = s.due; beyond = s.beyond }

  -- the ask was refused, or what it needs next is wanting
  ended_because : (e : TxnError) (need : Need) → old.core.call.need ≡ Some need → (stands : CallTurn)
      → AfterRan next.limits old.core.call.frames old.core.call.asked old.objects need ask stands → HandTransition stands mid.core (Some (Ended (Err e)))
      → IsRefusedUnpinned next.limits p old ask e
  ended_because e need needed (Err cause) after transition =
      let one : ◌≡◌ {A = HandTurn} (Some (Ended (Err e))) (Some (Ended (Err (refused_call cause)))) = transition in
      let is : e ≡ refused_call cause = cc one in
      inr (inl (record { need = need; needed = needed; cause = cause; after = after; is = is }))
  ended_because e need needed (Ok s) after transition = go transition.1
    where
      go : IsWanting s.need mid.core e → IsRefusedUnpinned next.limits p old ask e
      go (inl out) = inl out
      go (inr w) =
          let computed = computed_in old.core.call.frames (Some need) in
          let n : StandsNext computed ask (Ok s) = ran_next next.limits old.core.call.frames old.core.call.asked old.objects need ask (Ok s) after in
          let one : Some n.0 ≡ Some (needs.Query w.0) = sym n.1 ∙ w.1 in
          let same : n.0 ≡ needs.Query w.0 = cc one in
          let is : ask ≡ asks.Query w.0 = query_next computed ask s.frames w.0 (subst (NeedsNext computed ask s.frames) same n.2) in
          inr (inr (inr (subst (PinsFirst old.core) (sym is) (unread w.2.due), beyond_too w.2, w.3)))

  -- the pin of the present is for a query
  pin_due : IsUnended turn → (now at_least : ℕ) → CoreAsks mid.core (requests.Pin now at_least) → PinsFirst old.core ask
  pin_due on now at_least asking =
      let waits = (subst (λ (o : Option Pinning). PinningFits o mid.core.pins mid.core.call.need) asking.0.1 fits.pinning).1 in
      let q = subst (λ (o : Option Call). WaitsForPin o mid.core.call.need mid.core.pins.members) (waits_open on asking.0.0 waits) waits in
      subst (PinsFirst old.core) (sym (query_asked on q.0 (need_same on ∙ q.1))) (unread asking.1)

  ran_at : (t : HandTurn) → turn ≡ t → IsHandTurn mid.core t → TurnTransition mid.core p t new taken failed → CallerActTransition next.limits p old ask new taken failed
  ran_at None is at h =
      still_acts next old mid ask asked.same p new taken failed None (λ e no. absurd (cc no)) h
  ran_at (Some (Ended (Ok value))) is at h =
      still_acts next old mid ask asked.same p new taken failed (Some (Ended (Ok value))) (λ e no. absurd (cc no)) h
  ran_at (Some (Ended (Err e))) is at h =
      still_acts next old mid ask asked.same p new taken failed (Some (Ended (Err e))) because h
    where
      because : (f : TxnError) → Some e ≡ Some f → IsRefusedUnpinned next.limits p old ask f
      because f one =
          let same : e ≡ f = cc one in
          let n = some_need old.core.call.need runs in
          let transition = asked.transition n.0 n.1 old.objects in
          subst (IsRefusedUnpinned next.limits p old ask) same
          (ended_because e n.0 n.1 transition.0 transition.1 (subst (λ (t : HandTurn). HandTransition transition.0 mid.core t) is transition.2))
  ran_at (Some (Asks (requests.Pin now at_least))) is at h =
      let on : IsUnended turn = subst IsUnended (sym is) tt in
      pin_acts next old mid ask asked.same p new taken failed (query_asked on) (node_steps on) (pin_due on now at_least at) h
  ran_at (Some (Asks (requests.AddPin pinned))) is at h = absurd (subst (λ (t : HandTurn). IfSome t IsNoAdding) is asked.adds)
  ran_at (Some (Asks (requests.Unpin stamp))) is at h = let no : Some stamp ≡ None = sym (ap left_pin at.1.1) ∙ asked.left in absurd (cc no)
  ran_at (Some (Asks (requests.Lookup node key lo hi))) is at h =
      let on : IsUnended turn = subst IsUnended (sym is) tt in
      last_acts next old mid ask asked.same p new taken failed (query_asked on) (node_steps on) (need_same on) h
  ran_at (Some (Asks (requests.Query query stamp))) is at h =
      let on : IsUnended turn = subst IsUnended (sym is) tt in
      last_acts next old mid ask asked.same p new taken failed (query_asked on) (node_steps on) (need_same on) h
  ran_at (Some (Asks (requests.Insert node entry))) is at h =
      let on : IsUnended turn = subst IsUnended (sym is) tt in
      last_acts next old mid ask asked.same p new taken failed (query_asked on) (node_steps on) (need_same on) h

  pub ran_leads : TurnTransition mid.core p turn new taken failed → CallerActTransition next.limits p old ask new taken failed
  ran_leads h = ran_at turn refl asked.turn_fits h

-- a call by no function
module _ (next : Next) (old mid : TxnValue) (key : Call) (turn : PortTurn) (begun : HasBegunCall old key mid turn) (idle : IsIdle old.core)
    (there : IsSome (activity_of old.objects key.function)) (p new : CallerPorts) (taken : List ℕ) (failed : Option TxnError) where
  begun_same : mid.core ≡ record old.core { recorded = mid.core.recorded; call = mid.core.call; pinning = mid.core.pinning }
  begun_same =
      begun.same ∙ ap (λ (rs : List Recorded). record old.core { recorded = rs; call = mid.core.call; pinning = mid.core.pinning }) (sym (ap (λ (c : CoreValue). c.recorded) begun.same))

  no_query : need_to_come mid.core ≡ Some (needs.Lookup key) → (query : Query) → need_to_come mid.core ≡ Some (needs.Query query) → asks.Call key ≡ asks.Query query
  no_query coming query is = let no : Some (needs.Lookup key) ≡ Some (needs.Query query) = sym coming ∙ is in absurd (cc no)

  looks_up : need_to_come mid.core ≡ Some (needs.Lookup key) → (budget : Option ℕ) (was is : NodeValue) → IsNeedStep budget (need_to_come mid.core) was is
      → (is ≡ was) ⊎ IsNodeStepFor budget (computed_calls old.core.call) (asks.Call key) was is
  looks_up coming budget was is h = inr (subst (λ (o : Option Need). IsNeedStep budget o was is) coming h)

  -- it begins with the pin
  pin_first : (t : PortTurn) → AsksPin t → PinsFirst old.core (asks.Call key) → need_to_come mid.core ≡ Some (needs.Lookup key) → TurnTransition mid.core p (Some t) new taken failed
      → CallerActTransition next.limits p old (asks.Call key) new taken failed
  pin_first (Asks (requests.Pin now at_least)) asking due coming h =
      pin_acts next old mid (asks.Call key) begun_same p new taken failed (no_query coming) (looks_up coming) due h
  pin_first (Asks (requests.AddPin pinned)) asking due coming h = absurd asking
  pin_first (Asks (requests.Unpin stamp)) asking due coming h = absurd asking
  pin_first (Asks (requests.Lookup node k lo hi)) asking due coming h = absurd asking
  pin_first (Asks (requests.Query query stamp)) asking due coming h = absurd asking
  pin_first (Asks (requests.Insert node entry)) asking due coming h = absurd asking
  pin_first (Ended outcome) asking due coming h = absurd asking

  -- .. or with the lookup
  lookup_first : (t : PortTurn) → AsksLookup key t → need_to_come mid.core ≡ Some (needs.Lookup key) → mid.core.call.need ≡ Some (needs.Lookup key) → TurnTransition mid.core p (Some t) new taken failed
      → CallerActTransition next.limits p old (asks.Call key) new taken failed
  lookup_first (Asks (requests.Lookup node k lo hi)) asking coming need h =
      last_acts next old mid (asks.Call key) begun_same p new taken failed (no_query coming) (looks_up coming) (coming ∙ sym need) h
  lookup_first (Asks (requests.Pin now at_least)) asking coming need h = absurd asking
  lookup_first (Asks (requests.AddPin pinned)) asking coming need h = absurd asking
  lookup_first (Asks (requests.Unpin stamp)) asking coming need h = absurd asking
  lookup_first (Asks (requests.Query query stamp)) asking coming need h = absurd asking
  lookup_first (Asks (requests.Insert node entry)) asking coming need h = absurd asking
  lookup_first (Ended outcome) asking coming need h = absurd asking

  begun_at : (members : List Pin) → old.core.pins.members ≡ members → TurnTransition mid.core p (Some turn) new taken failed → CallerActTransition next.limits p old (asks.Call key) new taken failed
  begun_at [] is h =
      let waits = begun.transition.pins is in
      pin_first turn waits.asks (ap (λ (n : Option Need). running_call n old.core.call.top) idle.0, is)
      (ap (λ (o : Option Pinning). coming_need (first_call o) mid.core.call.need) waits.waits) h
  begun_at (m ∷ ms) is h =
      let start = (begun.transition.begins (λ no. let one : m ∷ ms ≡ [] = sym is ∙ no in absurd (cc one))).there there in
      let need : mid.core.call.need ≡ Some (needs.Lookup key) = ap (λ (m : Calling). m.need) start.0.call in
      lookup_first turn start.1 (ap (λ (o : Option Pinning). coming_need (first_call o) mid.core.call.need) start.0.none ∙ need) need h

  pub begun_leads : TurnTransition mid.core p (Some turn) new taken failed → CallerActTransition next.limits p old (asks.Call key) new taken failed
  begun_leads h = begun_at old.core.pins.members refl h

-- no function is computed, and nothing was done
pub none_acts : (limits : Limits) (p : CallerPorts) (old new : TxnValue) (ask : Ask) → new ≡ old → CallerActTransition limits p old ask p new.core.taken None
none_acts limits p old new ask is = inl (record { ports = node_unasked (computed_calls old.core.call) ask p p refl; taken_is = ap (λ (t : TxnValue). t.core.taken) is; refused = tt })
