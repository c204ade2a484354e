-- What an act comes to, once its requests were made.
use Rattle.std.proofs.Common.{◌≡◌, ◌∙◌, ℕ, true, false, List, [], ◌∷◌, Option, Some, None, Ok, Err, inl, inr, refl, ap, sym, subst}
use Rattle.std.specs.Prelude.{Result}
use Rattle.txc_stream.specs.Names.{Name}
use Rattle.txc_tags.specs.Keys.{Call}
use Rattle.txc_shared.specs.Nodes.{NodeValue}
use Rattle.txc_call.specs.CallSteps.{NeedsFunction}
use Rattle.txc_call.specs.declared.need.HeldAnswer.{HeldAnswer}
use Rattle.txc_call.specs.declared.need.Need.{Need}
use Rattle.txc_call.specs.declared.need.Need.TheVariants as needs
use Rattle.txc_txn_ports.specs.declared.error.TxnError.{TxnError}
use Rattle.txc_txn_ports.specs.declared.recorded.Recorded.{Recorded}
use Rattle.txc_txn_ports.specs.declared.turn.Turn.TheVariants.{Ask, Ended}
use Rattle.txc_txn.specs.declared.pinning.Pinning.{Pinning}
use Rattle.txc_txn.specs.ByHand.{HandTurn, IsUnended}
use Rattle.txc_txn.specs.TxnCore.{either_call, first_call, running_call, CoreValue}
use Rattle.txc_txn.specs.RunningTxn.{TxnValue}
use Rattle.txc_caller.specs.NodeLookup.{HasMissed, IsComputedOnMiss}
use Rattle.txc_caller.specs.CallerTxn.{IsReadingStep}
use Rattle.txc_caller.specs.ActRequests.{FunctionAfter, HasMadeRequest, HasPassed, HasServed, IsTurnOf, NeedsAfter}
use Rattle.txc_caller.specs.ComputedFunctions.{ended_step, is_begin, told_answer, told_in, top_call, IsNextStep, IsOpenWith}
use Rattle.txc_caller.specs.declared.step.Step.{Step}
use Rattle.txc_caller.specs.declared.step.Step.TheVariants.{Answered, Compute, Value}
use Rattle.txc_caller.proofs.Requests.{keeps_then}

-- a function that is needed is to begin, or continues
pub begins_next : (need : Need) → is_begin need ≡ true → (k : Call) × (need ≡ needs.Begin k)
begins_next (needs.Begin k) is = (k, refl)
begins_next (needs.Resume x) is = absurd (cc is)
begins_next (needs.Lookup k) is = absurd (cc is)
begins_next (needs.Query q) is = absurd (cc is)
begins_next (needs.Insert e) is = absurd (cc is)
begins_next (needs.Value o) is = absurd (cc is)

pub continues_next : (need : Need) → is_begin need ≡ false → NeedsFunction (Some need) → (x : HeldAnswer) × (need ≡ needs.Resume x)
continues_next (needs.Begin k) is runs = absurd (cc is)
continues_next (needs.Resume x) is runs = (x, refl)
continues_next (needs.Lookup k) is runs = absurd runs
continues_next (needs.Query q) is runs = absurd runs
continues_next (needs.Insert e) is runs = absurd runs
continues_next (needs.Value o) is runs = absurd runs

module _ (row : Name) (old mid new : TxnValue) (turn pinned : HandTurn) (passed : HasPassed row old turn mid pinned) where
  module _ (made : HasMadeRequest mid pinned new None) where
    on : IsUnended pinned
    on = made.unended refl

    goes : (step : Step) → IsNextStep new.core.call step → FunctionAfter old.core turn new.core.call (Ok step)
    goes Compute is =
        (passed.unended on, (is.0, passed.waits on is.0 (subst (NeedsAfter mid.core) is.1 (made.needs refl)), is.1, made.frames refl ∙ passed.frames on))
    goes Answered is =
        (passed.unended on, (is.0, is.1, made.frames refl ∙ passed.frames on, passed.held on is.0 (subst (NeedsAfter mid.core) is.1 (made.needs refl))))
    goes (Value value) is = absurd is

    open_as : (before : List Recorded) (k : Call) → IsTurnOf before k new.core None → top_call new.core.call ≡ Some k
    open_as before k of =
        sym (ap (λ (p : Option Pinning). either_call (first_call p) (running_call new.core.call.need new.core.call.top)) made.fits.0) ∙ of.begins tt

    open_so : (step : Step) → IsNextStep new.core.call step → (before : List Recorded) (k : Call) → IsTurnOf before k new.core None
        → IsReadingStep (record old.core { recorded = before }) new.core k (Ok step)
    open_so Compute is before k of = (of.recorded, record { top = open_as before k of; computing = made.fits.1; told_is = ap told_in is.1 })
    open_so Answered is before k of = (of.recorded, (is.0.answer, record { top = open_as before k of; computing = made.fits.1; told_is = ap told_in is.1 }))
    open_so (Value value) is before k of = absurd is

    -- a function is to go on
    pub served_open : (step : Step) → IsNextStep new.core.call step → HasServed old turn new (Ok step)
    served_open step is = record {
      keeps = keeps_then old mid new passed.keeps made.keeps;
      rests = inr made.fits;
      goes_on = goes step is;
      objects = λ was left. made.objects was (passed.objects was left);
      step_is = λ before k of. open_so step is before k (made.of_call before k (passed.of_call before k of));
    }

  -- the call has ended
  pub served_ended : (outcome : Result (List ℕ) TxnError) → HasMadeRequest mid pinned new (Some (Ended outcome)) → HasServed old turn new (ended_step outcome)
  served_ended (Ok value) made = record {
    keeps = keeps_then old mid new passed.keeps made.keeps;
    rests = inl made.fits;
    goes_on = tt;
    objects = λ was left. made.objects was (passed.objects was left);
    step_is = λ before k of. ((made.of_call before k (passed.of_call before k of)).recorded, made.fits.0);
  }
  served_ended (Err error) made = record {
    keeps = keeps_then old mid new passed.keeps made.keeps;
    rests = inl made.fits;
    goes_on = tt;
    objects = λ was left. made.objects was (passed.objects was left);
    step_is = λ before k of. ((made.of_call before k (passed.of_call before k of)).recorded, made.fits.0);
  }

-- ---- what the node had

module _ (c : CoreValue) (before after : NodeValue) where
  pub missed_step : (step : Step) → IsNextStep c.call step → ((k : Call) → c.call.need ≡ Some (needs.Begin k) → HasMissed c.pins.members k before after)
      → IsComputedOnMiss c before after (Ok step)
  missed_step Compute is missed = (is.0, is.1, missed is.0 is.1)
  missed_step Answered is missed = tt
  missed_step (Value value) is missed = tt

  pub missed_ended : (outcome : Result (List ℕ) TxnError) → IsComputedOnMiss c before after (ended_step outcome)
  missed_ended (Ok value) = tt
  missed_ended (Err error) = tt
