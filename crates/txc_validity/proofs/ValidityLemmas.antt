-- A validity is the largest interval, and there is one.
use Rattle.std.proofs.Common.{◌≡◌, ◌⊎◌, inl, inr, ℕ, ◌≤◌, ◌+◌, ◌-◌, ◌==◌, Bool, true, false, nat_le, refl, sym, ap, ◌∙◌, arith}
use Rattle.std.proofs.lemmas.Bool.Decides.{nat_tests}
use Rattle.std.specs.Prelude.{List}
use Rattle.txc_rows.specs.declared.query.Query.{Query}
use Rattle.txc_rows.specs.declared.version.Versioned.{Versioned}
use Rattle.txc_rows.specs.States.{State, answer}
use Rattle.txc_rows.specs.Versions.{shown_at}
use Rattle.txc_rows.specs.KeptStates.{ShowsAnswers}
use Rattle.txc_validity.specs.declared.answer.Found.{Found}
use Rattle.txc_rows.specs.FoundAnswers.{HoldsOn}
use Rattle.txc_validity.specs.Validity.{IsValidity}
use Rattle.txc_validity.specs.Answers.{IsAnswer}
use Rattle.txc_validity.specs.Laws.{SameWithin, DiffersBelow, DiffersAbove, OneValidity, KeptAnswersDecide, AroundIsValid}

pub same_within : SameWithin
same_within answers t horizon newest reach is = is.same

-- a stamp of an interval lengthened by one is its new end or was there
below_or : (first s : ℕ) → first - 1 ≤ s → (s ≡ first - 1) ⊎ (first ≤ s)
below_or first s h = go (nat_le first s) refl
  where
    go : (b : Bool) → nat_le first s ≡ b → (s ≡ first - 1) ⊎ (first ≤ s)
    go true e = inr (grind (arith, nat_tests))
    go false e = inl (grind (arith, nat_tests))

above_or : (last s : ℕ) → s ≤ last + 1 → (s ≡ last + 1) ⊎ (s ≤ last)
above_or last s h = go (nat_le s last) refl
  where
    go : (b : Bool) → nat_le s last ≡ b → (s ≡ last + 1) ⊎ (s ≤ last)
    go true e = inr (grind (arith, nat_tests))
    go false e = inl (grind (arith, nat_tests))

pub differs_below : DiffersBelow
differs_below answers t horizon newest reach is more same =
    let it = is.largest (reach.lo - 1) reach.known (omega arith) (let a = is.around.0 in omega arith) is.around.1 is.high longer in
    let low = it.0 in
    omega arith
  where
    longer : HoldsOn answers t (reach.lo - 1) reach.known
    longer s low high = elim (below_or reach.lo s low) [
      | inl first ↦ ap answers first ∙ same
      | inr within ↦ is.same s within high
    ]

pub differs_above : DiffersAbove
differs_above answers t horizon newest reach is more same =
    let it = is.largest reach.lo (reach.known + 1) is.low is.around.0 (let a = is.around.1 in omega arith) (omega arith) longer in
    let high = it.1 in
    omega arith
  where
    longer : HoldsOn answers t reach.lo (reach.known + 1)
    longer s low high = elim (above_or reach.known s high) [
      | inl last ↦ ap answers last ∙ same
      | inr within ↦ is.same s low within
    ]

pub one_validity : OneValidity
one_validity answers t horizon newest reach other is it =
    let out = it.largest reach.lo reach.known is.low is.around.0 is.around.1 is.high is.same in
    let back = is.largest other.lo other.known it.low it.around.0 it.around.1 it.high it.same in
    let lo : reach.lo ≡ other.lo = let a = out.0 in let b = back.0 in omega arith in
    let known : reach.known ≡ other.known = let a = out.1 in let b = back.1 in omega arith in
    equal lo known (is.still ∙ (ap (λ k. k == newest) known ∙ sym it.still))
  where
    equal : reach.lo ≡ other.lo → reach.known ≡ other.known → reach.still ≡ other.still → reach ≡ other
    equal a b c = λ i. record { lo = a i; known = b i; still = c i }

pub kept_answers_decide : KeptAnswersDecide
kept_answers_decide answers others t horizon newest reach same is = record {
  low = is.low;
  around = is.around;
  high = is.high;
  same = λ s low high. sym (same s (let a = is.low in omega arith) (let a = is.high in omega arith)) ∙ (is.same s low high ∙ here);
  largest = λ first last a b c d holds. is.largest first last a b c d (λ s low high. same s (omega arith) (omega arith) ∙ (holds s low high ∙ sym here));
  still = is.still;
}
  where
    here : answers t ≡ others t
    here = same t (let a = is.around.0 in let b = is.low in omega arith) (let a = is.around.1 in let b = is.high in omega arith)

-- what is right of the versions is right of states whose answers they show
pub answers_found : (states : ℕ → State) (q : Query) (vs : List Versioned) (t horizon newest : ℕ) (found : Found) → ShowsAnswers q states horizon newest vs
    → found.rows.items ≡ shown_at q t vs → IsValidity (λ s. shown_at q s vs) t horizon newest found.reach → IsAnswer states q t horizon newest found
answers_found states q vs t horizon newest found shows rows is = record {
  rows = rows ∙ shows.answers t (let a = is.around.0 in let b = is.low in omega arith) (let a = is.around.1 in let b = is.high in omega arith);
  validity = kept_answers_decide (λ s. shown_at q s vs) (λ s. answer q (states s)) t horizon newest found.reach shows.answers is;
}

pub around_is_valid : AroundIsValid
around_is_valid q states t horizon newest vs reach shows is = record {
  low = is.low;
  around = is.around;
  high = is.high;
  same = (shows.alike reach.lo reach.known is.low is.around.0 is.around.1 is.high).0 is.same;
  largest = λ first last a b c d holds. is.largest first last a b c d ((shows.alike first last a b c d).1 holds);
  still = is.still;
}
