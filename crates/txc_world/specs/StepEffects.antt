-- The world after each step, in addition to its reports.
use Rattle.std.specs.Prelude.{◌≡◌, ℕ, List, [], ◌∷◌, Some, None, slice_get, slice_set, MatchOption}
use Rattle.txc_app.specs.Eval.{Next}
use Rattle.txc_call_registry.specs.Objects.{Objects}
use Rattle.txc_txn.specs.TxnCore.{left_pin, receipt_pin}
use Rattle.txc_world.specs.declared.port_outcome.PortOutcome.{PortOutcome}
use Rattle.txc_world.specs.declared.step.ActorStep.{ActorStep}
use Rattle.txc_world.specs.declared.step.ActorStep.TheVariants.{BeginRo, BeginRw, Start, Request, Ask, Write, Commit, Abort}
use Rattle.txc_world.specs.declared.step.Step.{Step}
use Rattle.txc_world.specs.declared.step.Step.TheVariants.{Actor, BeginIn, Keeper}
use Rattle.txc_world.specs.declared.reply.Reply.{Reply}
use Rattle.txc_world.specs.declared.reply.Reply.TheVariants.{Asked, Aborted, Receipt}
use Rattle.txc_world.specs.Ports.{PortsValue}
use Rattle.txc_world.specs.PortRequests.{UnpinTold}
use Rattle.txc_world.specs.KeeperStep.{KeepTransition}
use Rattle.txc_world.specs.ActorValues.{ActorValue, ReadingValue, WritingValue, resting, reads, writes, leaves}
use Rattle.txc_world.specs.Actors.{HasGivenBack, HasStarted, IsGivenUp, RequestTransition, TxnBeginTransition}
use Rattle.txc_world.specs.WriterStep.{BeginRwTransition, CommitTransitionRw, HasFoundRw, HasStartedRw, RequestTransitionRw, WriteTransitionRw}
use Rattle.txc_world.specs.Tidy.{in_hand_after, IsTidy, LosesNoSnapshot, InHand}
use Rattle.txc_world.specs.Observation.{after, begin_at, floor_at, IsDue, IsExplainedIn}
use Rattle.txc_world.specs.Worlds.{IsBalanced, IsTrueWorld, WorldValue}

-- ---- a step of an actor

-- neither the ports nor the actor have changed
abbrev pub NothingDone : PortsValue → PortsValue → ActorValue → ActorValue → Type 0
NothingDone old new before after = (new ≡ old) × (after ≡ before)

-- with nothing open it begins a transaction, or does nothing
abbrev pub RestingTransition : ℕ → ActorStep → PortsValue → PortsValue → Objects → ActorValue → Reply → Type 0
RestingTransition renew_after (BeginRo bounds) old new objects actor reply =
    TxnBeginTransition renew_after bounds old new objects actor reply
RestingTransition renew_after BeginRw old new objects actor reply = BeginRwTransition old new objects actor reply
RestingTransition renew_after act old new objects actor reply = NothingDone old new (resting objects) actor

-- With a read-only transaction open it starts a call or ends the transaction, if no call is open; it makes the
-- request of the open call; it aborts, also in the middle of a call; or it does nothing.
abbrev pub ReadingTransition : Next → ℕ → ActorStep → PortsValue → PortsValue → ReadingValue → ActorValue → Reply
    → Type 0
ReadingTransition next pass (Start key) old new r actor reply = MatchOption r.call
    ((new ≡ old) × HasStarted key r.txn actor)
    (λ call. NothingDone old new (reads r) actor)
ReadingTransition next pass Request old new r actor reply = MatchOption r.call
    (NothingDone old new (reads r) actor)
    (λ call. RequestTransition next pass call.key call.turn old new r.txn actor reply)
ReadingTransition next pass Commit old new r actor reply = MatchOption r.call
    (HasGivenBack r.txn.core.taken old new × (actor ≡ resting r.txn.objects)
    × (reply ≡ Receipt (receipt_pin r.txn.core.recorded r.txn.core.pins.members)))
    (λ call. NothingDone old new (reads r) actor)
ReadingTransition next pass Abort old new r actor reply = HasGivenBack r.txn.core.taken old new
    × IsGivenUp (left_pin r.txn.core.pinning) r.txn.objects actor
    × (reply ≡ Aborted (left_pin r.txn.core.pinning))
ReadingTransition next pass act old new r actor reply = NothingDone old new (reads r) actor

-- With a read-write transaction open it starts a call, makes a query, buffers a change or commits, if no call
-- is open. Or it makes the request of the open call; it aborts, also in the middle of a call; or it does
-- nothing.
abbrev pub WritingTransition : Next → ActorStep → PortsValue → PortsValue → WritingValue → ActorValue → Reply → Type 0
WritingTransition next (Start key) old new w actor reply = MatchOption w.call
    ((new ≡ old) × HasStartedRw next key w actor)
    (λ call. NothingDone old new (writes w) actor)
WritingTransition next Request old new w actor reply = MatchOption w.call
    (NothingDone old new (writes w) actor)
    (λ call. (new ≡ old) × RequestTransitionRw next call.key call.turn old w actor reply)
WritingTransition next (Ask query) old new w actor reply = MatchOption w.call
    ((new ≡ old) × HasFoundRw query old w actor reply)
    (λ call. NothingDone old new (writes w) actor)
WritingTransition next (Write change) old new w actor reply = MatchOption w.call
    ((new ≡ old) × WriteTransitionRw change w actor reply)
    (λ call. NothingDone old new (writes w) actor)
WritingTransition next Commit old new w actor reply = MatchOption w.call
    (CommitTransitionRw old new w actor reply)
    (λ call. NothingDone old new (writes w) actor)
WritingTransition next Abort old new w actor reply = (new ≡ old)
    × IsGivenUp (Some w.core.base) w.objects actor × (reply ≡ Aborted (Some w.core.base))
WritingTransition next act old new w actor reply = NothingDone old new (writes w) actor

-- one request takes the hold away that is left
pub record HasTakenAway (old new : PortsValue) (objects : Objects) (stamp : ℕ) (actor : ActorValue)
    (reply : Reply) : Type 0 where
  pub did : PortOutcome
  pub reply_is : reply ≡ Asked did None
  pub unpinned : UnpinTold stamp old new did
  pub actor_is : actor ≡ resting objects

abbrev pub LeavingTransition : ActorStep → PortsValue → PortsValue → Objects → ℕ → ActorValue → Reply → Type 0
LeavingTransition Request old new objects stamp actor reply = HasTakenAway old new objects stamp actor reply
LeavingTransition act old new objects stamp actor reply = NothingDone old new (leaves objects stamp) actor

-- the ports and the actor after a step of an actor, which has this pass at the nodes, by its open transaction
abbrev pub ActTransition : Next → ℕ → ℕ → ActorStep → PortsValue → PortsValue → ActorValue → ActorValue → Reply → Type 0
ActTransition next renew_after pass act old new (resting objects) actor reply =
    RestingTransition renew_after act old new objects actor reply
ActTransition next renew_after pass act old new (reads r) actor reply =
    ReadingTransition next pass act old new r actor reply
ActTransition next renew_after pass act old new (writes w) actor reply =
    WritingTransition next act old new w actor reply
ActTransition next renew_after pass act old new (leaves objects stamp) actor reply =
    LeavingTransition act old new objects stamp actor reply

-- ---- a step

-- the actor of the number, which was this before, is led so, and the others stay as they are
pub record HasActed (next : Next) (number : ℕ) (act : ActorStep) (old new : WorldValue) (reply : Reply)
    (before : ActorValue) : Type 0 where
  pub actor : ActorValue
  pub others : new.actors ≡ slice_set old.actors number actor
  pub transition : ActTransition next old.told.settings.renew_after number act old.ports new.ports before actor reply

-- A step of an actor leads that actor, in its session from the session's floor; if there is no such actor,
-- nothing changes. A step of the keeper leads the ports, and every actor stays as before.
abbrev pub StepTransition : Next → WorldValue → Step → Reply → WorldValue → Type 0
StepTransition next old (Actor number act) reply new = MatchOption (slice_get old.actors number) (new ≡ old)
    (λ before. HasActed next number act old new reply before)
StepTransition next old (BeginIn number now staleness) reply new = MatchOption (slice_get old.actors number) (new ≡ old)
    (λ before. HasActed next number (begin_at (floor_at old.told.floors number) now staleness) old new reply before)
StepTransition next old (Keeper keep) reply new = KeepTransition keep old.ports new.ports reply
    × (new.actors ≡ old.actors)

-- the world after a step, and its report; and it is a valid world
pub record HasStepped (next : Next) (old : WorldValue) (step : Step) (reply : Reply) (new : WorldValue)
    : Type 0 where
  pub told : new.told ≡ after old.told step reply
  pub transition : StepTransition next old step reply new
  pub world : IsTrueWorld next new

-- A step was made: it leads so, has the due reply, and explains the earlier reports. If each actor and the
-- keeper had exactly their own holds and users and the step is tidy, the same is true after it, and no snapshot
-- is lost.
pub record IsWholeStep (next : Next) (old : WorldValue) (step : Step) (reply : Reply) (new : WorldValue) : Type 0 where
  pub told : new.told ≡ after old.told step reply
  pub transition : StepTransition next old step reply new
  pub world : IsTrueWorld next new
  pub due : IsDue old.told step reply
  pub explained : IsExplainedIn next new.told.history old.told step reply
  pub balanced : (in_hand : InHand) → IsBalanced old in_hand → IsTidy step reply in_hand
      → IsBalanced new (in_hand_after step reply in_hand) × LosesNoSnapshot step reply

-- the steps lead from the one world to the other: each to a world that is true, from which the next one leads
-- on
abbrev pub AreAfterSteps : Next → WorldValue → List Step → List Reply → WorldValue → Type 0
AreAfterSteps next old [] replies new = new ≡ old
AreAfterSteps next old (step ∷ steps) [] new = ⊥
AreAfterSteps next old (step ∷ steps) (reply ∷ replies) new = (between : WorldValue)
    × HasStepped next old step reply between × AreAfterSteps next between steps replies new
