-- Steps of an actor that change nothing.
use Rattle.std.proofs.Common.{◌≡◌, ◌⊎◌, inl, inr, ℕ, false, true, Option, None, Some, length, refl}
use Rattle.std.specs.Prelude.{is_some}
use Rattle.txc_tags.specs.Keys.{Call}
use Rattle.txc_rows.specs.declared.query.Change.{Change}
use Rattle.txc_rows.specs.declared.query.Query.{Query}
use Rattle.txc_db.specs.History.{History}
use Rattle.txc_app.specs.Eval.{Next}
use Rattle.txc_world.specs.declared.actor.OpenTxn.{OpenTxn}
use Rattle.txc_world.specs.declared.actor.OpenRw.{OpenRw}
use Rattle.txc_world.specs.declared.actor.Actor.{Actor}
use Rattle.txc_world.specs.declared.actor.Actor.TheVariants.{Reading, Writing}
use Rattle.txc_world.specs.declared.reply.Reply.TheVariants.{Refused}
use Rattle.txc_world.specs.declared.reply.Refusal.{Refusal}
use Rattle.txc_world.specs.declared.reply.Refusal.TheVariants.{MidCall}
use Rattle.txc_world.specs.declared.step.ActorStep.{ActorStep}
use Rattle.txc_world.specs.declared.step.ActorStep.TheVariants.{BeginRo, Start, Request, Ask, Write, Commit}
use Rattle.txc_world.specs.ActorStep.{IsActed}
use Rattle.txc_world.specs.StepEffects.{ReadingTransition, WritingTransition}
use Rattle.txc_world.specs.ActorValues.{reading_value, reads, writes, writing_value}
use Rattle.txc_world.specs.Actors.{observed_of, IsActor}
use Rattle.txc_world.specs.Holdings.{account_of, HasLost}
use Rattle.txc_world.specs.LostSnapshot.{IfReplyLost}
use Rattle.txc_world.specs.Ports.{PortsValue, whole_of}
use Rattle.txc_world.specs.Observation.{act_in, observed_after, IsActDue, ObservedActor}
use Rattle.txc_world.proofs.Fairness.{counts_itself}
use Rattle.txc_world.proofs.PortsLemmas.{keeps_itself}

-- a refusal tells nothing
observed_stays : (act : ActorStep) (refusal : Refusal) (observed : ObservedActor) → observed ≡ observed_after act (Refused refusal) observed
observed_stays (BeginRo bounds) refusal observed = refl
observed_stays act refusal observed = refl

history_stays : (act : ActorStep) (refusal : Refusal) (observed : ObservedActor) (L : History) → L ≡ act_in act (Refused refusal) observed L
history_stays Request refusal observed L = refl
history_stays Commit refusal observed L = refl
history_stays act refusal observed L = refl

-- a step that is refused leaves all as it was
pub refused_so : {A C : Type 0} → (next : Next) (act : ActorStep) (p : PortsValue) (actor : Actor A C) (refusal : Refusal) → IsActor next (whole_of p) (length p.nodes) actor
    → IsActDue (observed_of actor) act (Refused refusal) → IfReplyLost (Refused refusal) (HasLost p (account_of actor)) → IsActed next act p p actor actor (Refused refusal)
refused_so next act p actor refusal fits due lost = record {
  fits = fits;
  told = observed_stays act refusal (observed_of actor);
  history = history_stays act refusal (observed_of actor) p.database.history;
  due = due;
  explained = tt;
  keeps = keeps_itself p;
  spare = refl;
  counts = counts_itself p (account_of actor) (Refused refusal) lost;
}

-- ---- in the middle of a call

there_by_test : {X : Type 0} (o : Option X) → is_some o ≡ true → (x : X) × (o ≡ Some x)
there_by_test None is = cc is
there_by_test (Some x) is = (x, refl)

pub none_by_test : {X : Type 0} (o : Option X) → is_some o ≡ false → o ≡ None
none_by_test None is = refl
none_by_test (Some x) is = cc is

-- a call is open, so a read-only transaction neither starts one nor ends
pub reading_mid_call : {A C : Type 0} → (next : Next) (pass : ℕ) (p : PortsValue) (o : OpenTxn A C) (act : ActorStep) → is_some o.call ≡ true
    → ((key : Call) × (act ≡ Start key)) ⊎ (act ≡ Commit)
    → IsActDue (observed_of (Reading o)) act (Refused MidCall) × ReadingTransition next pass act p p (reading_value o) (reads (reading_value o)) (Refused MidCall)
reading_mid_call next pass p o act is (inl (key, same)) = let there = there_by_test o.call is in rw (same, there.1) (refl, (refl, refl))
reading_mid_call next pass p o act is (inr same) = let there = there_by_test o.call is in rw (same, there.1) (refl, (refl, refl))

-- a call is open, so a read-write transaction neither starts one, nor asks, nor keeps a change, nor commits
pub writing_mid_call : {A C : Type 0} → (next : Next) (p : PortsValue) (o : OpenRw A C) (act : ActorStep) → is_some o.call ≡ true
    → ((key : Call) × (act ≡ Start key)) ⊎ (((query : Query) × (act ≡ Ask query)) ⊎ (((change : Change) × (act ≡ Write change)) ⊎ (act ≡ Commit)))
    → IsActDue (observed_of (Writing o)) act (Refused MidCall) × WritingTransition next act p p (writing_value o) (writes (writing_value o)) (Refused MidCall)
writing_mid_call next p o act is (inl (key, same)) = let there = there_by_test o.call is in rw (same, there.1) (refl, (refl, refl))
writing_mid_call next p o act is (inr (inl (query, same))) = let there = there_by_test o.call is in rw (same, there.1) (refl, (refl, refl))
writing_mid_call next p o act is (inr (inr (inl (change, same)))) = let there = there_by_test o.call is in rw (same, there.1) (refl, (refl, refl))
writing_mid_call next p o act is (inr (inr (inr same))) = let there = there_by_test o.call is in rw (same, there.1) (refl, (refl, refl))
