-- Pin sets worked by hand.
use Rattle.std.proofs.Common.{◌≡◌, ℕ, zero, suc, ◌+◌, ◌<◌, ◌≤◌, List, [], ◌∷◌, Some, refl, subst, arith, All}
use Rattle.std.proofs.lemmas.List.Elements.{All-nil, All-cons, All-head, All-tail}
use Rattle.std.proofs.lemmas.List.Kept.{AllPairs-cons}
use Rattle.txc_rows.specs.States.{State}
use Rattle.txc_db.specs.WorkedHistory.{worked}
use Rattle.txc_db.specs.History.{state_at}
use Rattle.txc_cushion.specs.declared.pin.Pin.{Pin}
use Rattle.txc_cushion.specs.Pin.{PinsDescend}
use Rattle.txc_app.specs.declared.ask.Answer.{Answer}
use Rattle.txc_app.specs.declared.ask.Answer.TheVariants as answers
use Rattle.txc_app.specs.Eval.{activation, call_below, eval}
use Rattle.txc_app.specs.AnswersSoFar.{AreRight, IsRight}
use Rattle.txcache_functions.specs.Program.{program}
use Rattle.txc_call.specs.CallMachine.{InCall}
use Rattle.txc_txn_ports.specs.declared.recorded.Recorded.{Recorded}
use Rattle.txc_txn_ports.specs.Answers.{IsFresh, AreConsistent}
use Rattle.txc_uses.specs.WorkedPinSets.{WorkedMeanings, an_a, at_rest, bodies, newer_pin, older_pin, within_ms, bodies_and_9, open_over, while_a}

older_fresh : IsFresh worked (within_ms 1500) older_pin
older_fresh = record { shown = refl; allowed = record { moment = 1000; pinned = refl; fresh = omega arith; late = omega arith } }

newer_fresh : IsFresh worked (within_ms 1500) newer_pin
newer_fresh = record { shown = refl; allowed = record { moment = 2000; pinned = refl; fresh = omega arith; late = omega arith } }

one_falls : (p : Pin) → PinsDescend (p ∷ [])
one_falls p = AllPairs-cons (λ (newer older : Pin). older.stamp < newer.stamp) p [] (All-nil (λ (m : Pin). m.stamp < p.stamp)) (λ i j d before below. omega (arith, before, below))

none_recorded : (s : State) → AreConsistent program [] s
none_recorded s = All-nil (λ (r : Recorded). eval program r.key s ≡ Some r.value)

an_a_at_2 : AreConsistent program (an_a ∷ []) (state_at worked 2)
unfolding activation call_below
an_a_at_2 = All-cons (λ (r : Recorded). eval program r.key (state_at worked 2) ≡ Some r.value) an_a [] refl (All-nil (λ (r : Recorded). eval program r.key (state_at worked 2) ≡ Some r.value))

b_too_at_4 : AreConsistent program (an_a ∷ []) (state_at worked 4) → ⊥
unfolding activation call_below
b_too_at_4 h = let it = All-head (λ (r : Recorded). eval program r.key (state_at worked 4) ≡ Some r.value) an_a [] h in cc it

-- ---- one right answer

one_right : (s : State) → eval program bodies s ≡ Some (97 ∷ []) → AreRight program bodies_and_9 s (answers.Value (97 ∷ []) ∷ [])
one_right s is zero x there =
    let same : answers.Value (97 ∷ []) ≡ x = cc there in
    subst (λ (a : Answer). IsRight program 2 s (program.says 2 (2 ∷ 9 ∷ []) []) a) same (record { bytes = 97 ∷ []; is = refl; below = omega arith; value = is })
one_right s is (suc i) x there = cc there

an_a_from_1_to_2 : (t : ℕ) → 1 ≤ t → t ≤ 2 → eval program bodies (state_at worked t) ≡ Some (97 ∷ [])
unfolding activation call_below
an_a_from_1_to_2 zero low high = absurd (omega (arith, low))
an_a_from_1_to_2 (suc zero) low high = refl
an_a_from_1_to_2 (suc (suc zero)) low high = refl
an_a_from_1_to_2 (suc (suc (suc t))) low high = absurd (omega (arith, high))

more_at_3 : (bytes : List ℕ) → answers.Value (97 ∷ []) ≡ answers.Value bytes → eval program bodies (state_at worked 3) ≡ Some bytes → ⊥
unfolding activation call_below
more_at_3 bytes same is = cc (same, is)

-- ---- pin sets

one_member : (P : Pin → Type 0) → P older_pin → All P (older_pin ∷ [])
one_member P h = All-cons P older_pin [] h (All-nil P)

two_members : (P : Pin → Type 0) → P newer_pin → P older_pin → All P (newer_pin ∷ older_pin ∷ [])
two_members P h k = All-cons P newer_pin (older_pin ∷ []) h (one_member P k)

moment_is_1000 : (moment : ℕ) → Some 1000 ≡ Some moment → 2500 ≤ moment + 1499 → ⊥
moment_is_1000 moment is fresh = let same : 1000 ≡ moment = cc is in omega (arith, same, fresh)

pub worked_meanings : WorkedMeanings
worked_meanings = record {
  fresh = record {
    set = record { falls = AllPairs-cons (λ (newer older : Pin). older.stamp < newer.stamp) newer_pin (older_pin ∷ []) (one_member (λ m. m.stamp < 4) (omega arith)) (one_falls older_pin); some = λ none. refl };
    fresh = two_members (IsFresh worked (within_ms 1500)) newer_fresh older_fresh;
    consistent = two_members (λ (p : Pin). AreConsistent program [] (state_at worked p.stamp)) (none_recorded (state_at worked 4)) (none_recorded (state_at worked 2));
    right = tt;
    within = two_members (λ (p : Pin). InCall p.stamp at_rest) (tt, tt) (tt, tt);
    unreached = λ present. (refl, tt);
    everywhere = λ present s. none_recorded s;
  };
  too_old = λ h.
      let old = All-head (IsFresh worked (within_ms 1499)) older_pin [] (All-tail (IsFresh worked (within_ms 1499)) newer_pin (older_pin ∷ []) h.fresh) in
      moment_is_1000 old.allowed.moment old.allowed.pinned old.allowed.fresh;
  recorded = record {
    set = record { falls = one_falls older_pin; some = λ none. cc none };
    fresh = one_member (IsFresh worked (within_ms 1500)) older_fresh;
    consistent = one_member (λ (p : Pin). AreConsistent program (an_a ∷ []) (state_at worked p.stamp)) an_a_at_2;
    right = tt;
    within = one_member (λ (p : Pin). InCall p.stamp at_rest) (tt, tt);
    unreached = λ present. cc present;
    everywhere = λ present. cc present;
  };
  too_new = λ h. b_too_at_4 (All-head (λ (p : Pin). AreConsistent program (an_a ∷ []) (state_at worked p.stamp)) newer_pin [] h.consistent);
  open_frame = record {
    set = record { falls = one_falls older_pin; some = λ none. cc none };
    fresh = one_member (IsFresh worked (within_ms 1500)) older_fresh;
    consistent = one_member (λ (p : Pin). AreConsistent program [] (state_at worked p.stamp)) (none_recorded (state_at worked 2));
    right = (
      record {
        within = omega arith;
        holds = λ t inside. one_right (state_at worked t) (an_a_from_1_to_2 t inside.0 inside.1);
        covered = λ still. cc still;
      },
      tt,
    );
    within = one_member (λ (p : Pin). InCall p.stamp (open_over while_a)) (tt, ((omega arith, omega arith), tt));
    unreached = λ present. cc present;
    everywhere = λ present. cc present;
  };
  outside = λ h.
      let beyond = (All-head (λ (p : Pin). InCall p.stamp (open_over while_a)) newer_pin (older_pin ∷ []) h.within).1.0 in
      let last = beyond.1 in
      omega (arith, last);
  too_wide = λ h.
      let value = h.right.0.holds 3 (omega arith, omega arith) 0 (answers.Value (97 ∷ [])) refl in
      more_at_3 value.bytes value.is value.value;
  with_present = λ h. let reached = (h.unreached refl).1.0 in cc reached;
}
