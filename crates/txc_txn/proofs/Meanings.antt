-- The steps of the meaning of a pin set.
use Rattle.std.proofs.Common.{◌≡◌, ℕ, suc, true, slice_get, take, append-nil, append_assoc, List, [], ◌∷◌, ◌++◌, Option, Some, None, refl, sym, ap, subst, ◌∙◌, arith, All, Contains}
use Rattle.std.proofs.lemmas.List.Elements.{All-cons, All-push, All-weaker, All-contains, All-nil, All-head, Contains-get_or}
use Rattle.txc_stamp.specs.Interval.{Interval, Holds}
use Rattle.txc_tags.specs.Keys.{Call}
use Rattle.txc_rows.specs.States.{State}
use Rattle.txc_db.specs.History.{History, state_at}
use Rattle.txc_db.specs.Laws.{StatesStay}
use Rattle.txc_db.proofs.Histories.{pin_within}
use Rattle.txc_cushion.specs.declared.pin.Pin.{Pin}
use Rattle.txc_pinset.specs.Members.{PinSetValue, kept, narrowed}
use Rattle.txc_pinset.specs.Laws.{KeepsExactlyTheHeld, NeverIsEmpty}
use Rattle.txc_app.specs.Eval.{Next, eval}
use Rattle.txc_app.specs.Claims.{HoldsOver, ValueHolds}
use Rattle.std.specs.List.{AllByRecursion}
use Rattle.txc_app.specs.declared.ask.Ask.{Ask}
use Rattle.txc_app.specs.declared.ask.Ask.TheVariants as asks
use Rattle.txc_app.specs.declared.ask.Answer.{Answer}
use Rattle.txc_app.specs.declared.ask.Answer.TheVariants as answers
use Rattle.txc_app.specs.AnswersSoFar.{AreRight, IsRight, queries_after, queries_for, queries_of}
use Rattle.txc_call_registry.specs.Objects.{Objects}
use Rattle.txc_call.specs.declared.frame.Frame.{Frame}
use Rattle.txc_call.specs.declared.need.Need.{Need}
use Rattle.txc_call.specs.declared.need.Need.TheVariants as needs
use Rattle.txc_call.specs.declared.need.Outcome.{Outcome}
use Rattle.txc_call.specs.Reaches.{InReach}
use Rattle.txc_call.specs.Frames.{answers_in, FramesHold, InAll, AreUnreached}
use Rattle.txc_call.specs.Needs.{NeedHolds, reach_of}
use Rattle.txc_call.specs.CallMachine.{Calling, InCall, CallHolds, CallIsUnreached}
use Rattle.txc_txn_ports.specs.declared.bounds.Bounds.{Bounds}
use Rattle.txc_txn_ports.specs.declared.recorded.Recorded.{Recorded}
use Rattle.txc_txn_ports.specs.Answers.{IsFresh, AreConsistent}
use Rattle.txc_txn.specs.Meaning.{PinSetInvariant, LieWithin}
use Rattle.txc_txn.specs.Laws.{MeaningStays, MeaningBegins, FindingNarrows, QueryLeavesAMember, PresentJoins, PresentIsFresh, FewerMembersMeanTheSame, CallBegins, CallIsGivenUp, ValueIsRecorded, FramesAreRight, OpenAnswersAreRight, NewestExplains, UnreachedAnswersAreValues, IsValueAnswer}
use Rattle.txc_txn.proofs.Longer.{same_state, fresh_later, need_later}

-- ---- lists

-- two facts on each give a third
all_both : {X : Type 0} (P Q R : X → Type 0) → ((x : X) → P x → Q x → R x) → (xs : List X) → All P xs → All Q xs → All R xs
all_both P Q R step xs h k = λ i d below. step _ (h i d below) (k i d below)

-- ---- longer histories

pub meaning_stays : StatesStay → MeaningStays
meaning_stays stay next L M bounds pins recorded objects call begins h = record {
  set = h.set;
  fresh = All-weaker (IsFresh L bounds) (IsFresh M bounds) (fresh_later stay L M begins bounds) pins.members h.fresh;
  consistent = all_both (IsFresh L bounds) (λ (p : Pin). AreConsistent next recorded (state_at L p.stamp)) (λ (p : Pin). AreConsistent next recorded (state_at M p.stamp))
      (λ p fresh right. subst (AreConsistent next recorded) (sym (same_state stay L M begins p.stamp (pin_within L p.stamp p.moment fresh.shown))) right) pins.members h.fresh h.consistent;
  right = need_later stay L M begins next objects call.need call.frames h.right;
  within = h.within;
  unreached = h.unreached;
  everywhere = h.everywhere;
}

-- ---- beginnings

-- a call without frames, which needs nothing or is looked up
module _ (next : Next) (L : History) (objects : Objects) (call : Calling) (empty : call.frames ≡ []) (none : reach_of call.need ≡ None) where
  pub no_frames_within : (t : ℕ) → InCall t call
  no_frames_within t = (subst (λ (r : Option Interval). InReach t r) (sym none) tt, subst (InAll t) (sym empty) tt)

  pub no_frames_unreached : CallIsUnreached call
  no_frames_unreached = (none, subst AreUnreached (sym empty) tt)

at_rest_holds : (next : Next) (L : History) (objects : Objects) (call : Calling) → call.frames ≡ [] → call.need ≡ None → CallHolds next L objects call
at_rest_holds next L objects call empty none = rw (none, empty) tt

pub meaning_begins : MeaningBegins
meaning_begins next L bounds pins objects call falls fresh empty none = record {
  set = record { falls = falls; some = λ _. refl };
  fresh = fresh;
  consistent = λ i d below. All-nil _;
  right = at_rest_holds next L objects call empty none;
  within = λ i d below. no_frames_within next L objects call empty (ap reach_of none) _;
  unreached = λ present. no_frames_unreached next L objects call empty (ap reach_of none);
  everywhere = λ present s. All-nil _;
}

pub call_begins : CallBegins
call_begins next L bounds pins recorded objects objects' call k h = record {
  set = h.set;
  fresh = h.fresh;
  consistent = h.consistent;
  right = tt;
  within = λ i d below. (tt, tt);
  unreached = λ present. (refl, tt);
  everywhere = h.everywhere;
}

pub call_is_given_up : CallIsGivenUp
call_is_given_up next L bounds pins recorded objects objects' call call' h empty none = record {
  set = h.set;
  fresh = h.fresh;
  consistent = h.consistent;
  right = at_rest_holds next L objects' call' empty none;
  within = λ i d below. no_frames_within next L objects' call' empty (ap reach_of none) _;
  unreached = λ present. no_frames_unreached next L objects' call' empty (ap reach_of none);
  everywhere = h.everywhere;
}

-- ---- a call goes on

pub call_goes_on : (next : Next) (L : History) (bounds : Bounds) (pins : PinSetValue) (recorded : List Recorded) (objects objects' : Objects) (call call' : Calling)
    → PinSetInvariant next L bounds pins recorded objects call → CallHolds next L objects' call' → LieWithin pins call' → (pins.has_present ≡ true → CallIsUnreached call')
    → PinSetInvariant next L bounds pins recorded objects' call'
call_goes_on next L bounds pins recorded objects objects' call call' h right within unreached = record {
  set = h.set;
  fresh = h.fresh;
  consistent = h.consistent;
  right = right;
  within = within;
  unreached = unreached;
  everywhere = h.everywhere;
}

-- a member that is kept was there, and the reach holds it
pub kept_all : KeepsExactlyTheHeld → (P Q : Pin → Type 0) (reach : Interval) (pins : PinSetValue) → ((p : Pin) → Holds reach p.stamp → P p → Q p)
    → All P pins.members → All Q (narrowed reach pins).members
kept_all keeps P Q reach pins step h =
    All-weaker (λ (p : Pin). Holds reach p.stamp × P p) Q (λ p both. step p both.0 both.1) (kept reach pins.members)
    (λ i d below.
    let there = (keeps pins reach _).0 (Contains-get_or (kept reach pins.members) i d below) in
    (there.1, All-contains P pins.members _ h there.0))

pub finding_narrows : KeepsExactlyTheHeld → FindingNarrows
finding_narrows keeps next L bounds pins recorded objects objects' call call' None h on set = record {
  set = set;
  fresh = h.fresh;
  consistent = h.consistent;
  right = on.right;
  within = All-weaker (λ (p : Pin). InCall p.stamp call) (λ (p : Pin). InCall p.stamp call') (λ p inside. on.within p.stamp tt inside) pins.members h.within;
  unreached = λ present. on.unreached refl (h.unreached present);
  everywhere = h.everywhere;
}
finding_narrows keeps next L bounds pins recorded objects objects' call call' (Some reach) h on set = record {
  set = set;
  fresh = kept_all keeps (IsFresh L bounds) (IsFresh L bounds) reach pins (λ p inside fresh. fresh) h.fresh;
  consistent = kept_all keeps (λ (p : Pin). AreConsistent next recorded (state_at L p.stamp)) (λ (p : Pin). AreConsistent next recorded (state_at L p.stamp)) reach pins (λ p inside right. right) h.consistent;
  right = on.right;
  within = kept_all keeps (λ (p : Pin). InCall p.stamp call) (λ (p : Pin). InCall p.stamp call') reach pins (λ p held inside. on.within p.stamp held inside) h.within;
  unreached = λ present. cc present;
  everywhere = λ present. cc present;
}

pub query_leaves_a_member : KeepsExactlyTheHeld → QueryLeavesAMember
query_leaves_a_member keeps pins newest older reach is held none =
    let there : Contains pins.members newest = subst (λ (ms : List Pin). Contains ms newest) (sym is) (Contains-get_or (newest ∷ older) 0 newest (omega arith)) in
    let stays : Contains (kept reach pins.members) newest = (keeps pins reach newest).1 (there, held) in
    let gone : Contains [] newest = subst (λ (ms : List Pin). Contains ms newest) none stays in
    absurd (let below = gone.1 in omega (arith, below))

-- ---- members come and go

pub in_unreached : (t : ℕ) (frames : List Frame) → AreUnreached frames → InAll t frames
in_unreached t [] h = tt
in_unreached t (f ∷ frames) h = (subst (λ (r : Option Interval). InReach t r) (sym h.0) tt, in_unreached t frames h.1)

pub present_joins : NeverIsEmpty → PresentJoins
present_joins never next L bounds pins recorded objects call pin h present fresh above =
    let none = h.unreached present in
    record {
      set = never.joins pins pin h.set above;
      fresh = All-cons (IsFresh L bounds) pin pins.members fresh h.fresh;
      consistent = All-cons (λ (p : Pin). AreConsistent next recorded (state_at L p.stamp)) pin pins.members (h.everywhere present (state_at L pin.stamp)) h.consistent;
      right = h.right;
      within = All-cons (λ (p : Pin). InCall p.stamp call) pin pins.members (subst (λ (r : Option Interval). InReach pin.stamp r) (sym none.0) tt, in_unreached pin.stamp call.frames none.1) h.within;
      unreached = λ again. cc again;
      everywhere = λ again. cc again;
    }

pub present_is_fresh : PresentIsFresh
present_is_fresh L bounds pin shown now late = record {
  shown = shown;
  allowed = record { moment = pin.moment; pinned = shown; fresh = omega (arith, now); late = late };
}

pub fewer_members_mean_the_same : FewerMembersMeanTheSame
fewer_members_mean_the_same next L bounds old new recorded objects call h lost =
    let fewer : (P : Pin → Type 0) → All P old.members → All P new.members = λ P all. All-weaker (Contains old.members) P (λ p there. All-contains P old.members p all there) new.members lost.members in
    record {
      set = lost.set;
      fresh = fewer (IsFresh L bounds) h.fresh;
      consistent = fewer (λ (p : Pin). AreConsistent next recorded (state_at L p.stamp)) h.consistent;
      right = h.right;
      within = fewer (λ (p : Pin). InCall p.stamp call) h.within;
      unreached = λ present. h.unreached (lost.present present);
      everywhere = λ present. h.everywhere (lost.present present);
    }

-- ---- values

value_at : (next : Next) (L : History) (o : Outcome) (reach : Option Interval) (t : ℕ) → ValueHolds next L o.key o.value reach o.tags → InReach t reach → eval next o.key (state_at L t) ≡ Some o.value
value_at next L o None t h inside = (h (state_at L t)).0
value_at next L o (Some reach) t h inside = h.holds t inside

value_anywhere : (next : Next) (L : History) (o : Outcome) (reach : Option Interval) (s : State) → ValueHolds next L o.key o.value reach o.tags → reach ≡ None → eval next o.key s ≡ Some o.value
value_anywhere next L o None s h none = (h s).0
value_anywhere next L o (Some reach) s h none = cc none

pub value_is_recorded : ValueIsRecorded
value_is_recorded next L bounds pins recorded objects call o h is =
    let new : Recorded = record { key = o.key; value = o.value } in
    let right : ValueHolds next L o.key o.value o.reach o.tags × FramesHold next L objects call.frames = subst (λ (need : Option Need). NeedHolds next L objects need call.frames) is h.right in
    record {
      set = h.set;
      fresh = h.fresh;
      consistent = all_both (λ (p : Pin). AreConsistent next recorded (state_at L p.stamp)) (λ (p : Pin). InCall p.stamp call) (λ (p : Pin). AreConsistent next (recorded ++ new ∷ []) (state_at L p.stamp))
          (λ p all inside. All-push (λ (r : Recorded). eval next r.key (state_at L p.stamp) ≡ Some r.value) recorded new all
          (value_at next L o o.reach p.stamp right.0 (subst (λ (need : Option Need). InReach p.stamp (reach_of need)) is inside.0))) pins.members h.consistent h.within;
      right = right.1;
      within = All-weaker (λ (p : Pin). InCall p.stamp call) (λ (p : Pin). InCall p.stamp (record call { need = None })) (λ p inside. (tt, inside.1)) pins.members h.within;
      unreached = λ present. (refl, (h.unreached present).1);
      everywhere = λ present s. All-push (λ (r : Recorded). eval next r.key s ≡ Some r.value) recorded new (h.everywhere present s)
          (value_anywhere next L o o.reach s right.0 (sym (ap reach_of is) ∙ (h.unreached present).0));
    }

-- ---- what it gives

frame_at : (next : Next) (L : History) (objects : Objects) (f : Frame) (reach : Option Interval) (t : ℕ)
    → HoldsOver L (λ s. AreRight next f.key s (answers_in objects f.key.function)) (λ s. queries_for next f.key s (answers_in objects f.key.function)) reach f.tags
    → InReach t reach → AreRight next f.key (state_at L t) (answers_in objects f.key.function)
frame_at next L objects f None t h inside = (h (state_at L t)).0
frame_at next L objects f (Some reach) t h inside = h.holds t inside

frames_at : (next : Next) (L : History) (objects : Objects) (t : ℕ) (frames : List Frame) → FramesHold next L objects frames → InAll t frames → FramesAreRight next objects (state_at L t) frames
frames_at next L objects t [] h inside = tt
frames_at next L objects t (f ∷ frames) h inside = (frame_at next L objects f f.reach t h.0 inside.0, frames_at next L objects t frames h.1 inside.1)

frames_hold : (next : Next) (L : History) (objects : Objects) (need : Option Need) (frames : List Frame) → NeedHolds next L objects need frames → FramesHold next L objects frames
frames_hold next L objects None frames h = h
frames_hold next L objects (Some (needs.Lookup k)) frames h = h
frames_hold next L objects (Some (needs.Query q)) frames h = h
frames_hold next L objects (Some (needs.Insert e)) frames h = h.1
frames_hold next L objects (Some (needs.Value o)) frames h = h.1
frames_hold next L objects (Some (needs.Begin k)) frames h = h
frames_hold next L objects (Some (needs.Resume x)) frames h = h.1

pub open_answers_are_right : OpenAnswersAreRight
open_answers_are_right next L bounds pins recorded objects call h =
    All-weaker (λ (p : Pin). InCall p.stamp call) (λ (p : Pin). FramesAreRight next objects (state_at L p.stamp) call.frames)
    (λ p inside. frames_at next L objects p.stamp call.frames (frames_hold next L objects call.need call.frames h.right) inside.1) pins.members h.within

-- ---- answers without a reach

nothing_before : {X : Type 0} (xs ys : List X) → xs ++ ys ≡ [] → (xs ≡ []) × (ys ≡ [])
nothing_before [] ys none = (refl, none)
nothing_before (x ∷ xs) ys none = cc none

-- rows answer a query alone
no_rows : (next : Next) (f : ℕ) (s : State) (ask : Option Ask) (x : Answer) → IsRight next f s ask x → queries_of next s ask ≡ [] → IsValueAnswer x
no_rows next f s ask (answers.Value bytes) right none = tt
no_rows next f s None (answers.Rows rows) right none = right
no_rows next f s (Some (asks.Query q)) (answers.Rows rows) right none = cc none
no_rows next f s (Some (asks.Call k)) (answers.Rows rows) right none = let is = right.is in cc is
no_rows next f s (Some (asks.Done bytes)) (answers.Rows rows) right none = right

values_after : (next : Next) (k : Call) (s : State) (before given : List Answer)
    → ((i : ℕ) (x : Answer) → slice_get given i ≡ Some x → IsRight next k.function s (next.says k.function k.args (before ++ take i given)) x)
    → queries_after next k s before given ≡ [] → AllByRecursion IsValueAnswer given
values_after next k s before [] right none = tt
values_after next k s before (a ∷ given) right none =
    let both = nothing_before (queries_of next s (next.says k.function k.args before)) (queries_after next k s (before ++ a ∷ []) given) none in
    let first : IsRight next k.function s (next.says k.function k.args before) a = subst (λ (xs : List Answer). IsRight next k.function s (next.says k.function k.args xs) a) (append-nil before) (right 0 a refl) in (
      no_rows next k.function s (next.says k.function k.args before) a first both.0,
      values_after next k s (before ++ a ∷ []) given
          (λ i x is. subst (λ (xs : List Answer). IsRight next k.function s (next.says k.function k.args xs) x) (sym (append_assoc before (a ∷ []) (take i given))) (right (suc i) x is))
          both.1,
    )

pub unreached_answers_are_values : UnreachedAnswersAreValues
unreached_answers_are_values next L k given tags h = values_after next k [] [] given (h []).0 (h []).1

pub newest_explains : NewestExplains
newest_explains next L bounds pins recorded objects call newest older h is = (
  All-head (IsFresh L bounds) newest older (subst (All (IsFresh L bounds)) is h.fresh),
  All-head (λ (p : Pin). AreConsistent next recorded (state_at L p.stamp)) newest older (subst (All (λ (p : Pin). AreConsistent next recorded (state_at L p.stamp))) is h.consistent),
)
