-- Actors give up what they have open.
use Rattle.std.proofs.Common.{◌≡◌, ◌∙◌, ℕ, zero, suc, ◌+◌, ◌<◌, List, [], ◌∷◌, ◌++◌, length, take, get_or, Option, Some, None, refl, sym, ap, subst, arith, append_assoc, slice_set}
use Rattle.std.specs.Prelude.{All, MatchOption}
use Rattle.std.proofs.lemmas.List.{get_or-set_same, take_all, take_more_set, take-set}
use Rattle.std.proofs.lemmas.List.Elements.{All-nil, All-push}
use Rattle.std.proofs.lemmas.Option.{slice_get-get_or}
use Rattle.txc_app.specs.Eval.{Next}
use Rattle.txc_world.specs.declared.reply.Refusal.TheVariants.{NoActor}
use Rattle.txc_world.specs.declared.reply.Reply.{Reply}
use Rattle.txc_world.specs.declared.reply.Reply.TheVariants as replies
use Rattle.txc_world.specs.declared.step.ActorStep.{ActorStep}
use Rattle.txc_world.specs.declared.step.ActorStep.TheVariants as acts
use Rattle.txc_world.specs.declared.step.Step.TheVariants.{Actor}
use Rattle.txc_world.specs.Observation.{Reading, Writing, ObservedActor, idle, reading, writing, leaving, given_up, observed_after, Observation, act_at, after, IsActDue, IsActReply, IsDue}
use Rattle.txc_world.specs.Worlds.{WorldValue}
use Rattle.txc_script_world.specs.TaskSteps.{AreTaken, HasGivenUp, IsTaken, give_up_steps}
use Rattle.txc_script_world.proofs.WorldSteps.{taken_more}

-- ---- one actor

-- no transaction is open, but a hold may be left
abbrev pub HasEnded : ObservedActor → Type 0
HasEnded idle = Unit {0}
HasEnded (reading x) = ⊥
HasEnded (writing x) = ⊥
HasEnded (leaving stamp) = Unit {0}

given_up_ended : (left : Option ℕ) → HasEnded (given_up left)
given_up_ended None = tt
given_up_ended (Some stamp) = tt

reading_given_up : (x : Reading) (r : Reply) → IsActReply acts.Abort (reading x) r → HasEnded (observed_after acts.Abort r (reading x))
reading_given_up x (replies.Aborted left) h = given_up_ended left
reading_given_up x r h = absurd h

writing_given_up : (x : Writing) (r : Reply) → IsActReply acts.Abort (writing x) r → HasEnded (observed_after acts.Abort r (writing x))
writing_given_up x (replies.Aborted left) h = given_up_ended left
writing_given_up x r h = absurd h

abort_ends : (observed : ObservedActor) (r : Reply) → IsActDue observed acts.Abort r → HasEnded (observed_after acts.Abort r observed)
abort_ends idle r due = subst (λ (x : Reply). HasEnded (observed_after acts.Abort x idle)) (sym due) tt
abort_ends (reading x) r due = reading_given_up x r due
abort_ends (writing x) r due = writing_given_up x r due
abort_ends (leaving stamp) r due = subst (λ (x : Reply). HasEnded (observed_after acts.Abort x (leaving stamp))) (sym due) tt

-- the hold that is left is taken away, or the database refuses, which lets it go
left_idle : (stamp : ℕ) (r : Reply) → IsActReply acts.Request (leaving stamp) r → observed_after acts.Request r (leaving stamp) ≡ idle
left_idle stamp (replies.Asked did None) h = refl
left_idle stamp r h = absurd h

request_idles : (observed : ObservedActor) (r : Reply) → IsActDue observed acts.Request r → HasEnded observed → observed_after acts.Request r observed ≡ idle
request_idles idle r due h = subst (λ (x : Reply). observed_after acts.Request x idle ≡ idle) (sym due) refl
request_idles (reading x) r due h = absurd h
request_idles (writing x) r due h = absurd h
request_idles (leaving stamp) r due h = left_idle stamp r due

-- ---- a step of an actor that is there

due_of : (t : Observation) (i : ℕ) (act : ActorStep) (r : Reply) → i < length t.actors → IsDue t (Actor i act) r → IsActDue (get_or t.actors i idle) act r
due_of t i act r lt due =
    subst (λ (o : Option ObservedActor). MatchOption o (r ≡ replies.Refused NoActor) (λ observed. IsActDue observed act r)) (slice_get-get_or t.actors i idle lt) due

all_observed_after : (t m : Observation) (i : ℕ) (act : ActorStep) (r : Reply) → i < length t.actors → m ≡ after t (Actor i act) r → m.actors ≡ slice_set t.actors i (observed_after act r (get_or t.actors i idle))
all_observed_after t m i act r lt is = ap (λ (x : Observation). x.actors) (is ∙ ap (act_at i act r t) (slice_get-get_or t.actors i idle lt))

set_length : (xs : List ObservedActor) (i : ℕ) (x : ObservedActor) → length (slice_set xs i x) ≡ length xs
set_length [] i x = refl
set_length (y ∷ xs) zero x = refl
set_length (y ∷ xs) (suc i) x = ap suc (set_length xs i x)

-- ---- the first actors

abbrev pub IsIdle : ObservedActor → Type 0
IsIdle observed = observed ≡ idle

-- they gave up what they had open
pub record HaveGivenUp (next : Next) (world : WorldValue) (count : ℕ) (now : WorldValue) : Type 0 where
  pub replied : List Reply
  pub taken : AreTaken next world (give_up_steps count) replied now
  pub same : length now.told.actors ≡ length world.told.actors
  pub closed : All IsIdle (take count now.told.actors)

pub none_gave_up : (next : Next) (world : WorldValue) → HaveGivenUp next world 0 world
none_gave_up next world = record { replied = []; taken = refl; same = refl; closed = All-nil IsIdle }

first_closed : (t m e : Observation) (i : ℕ) (r q : Reply) → i < length t.actors → IsDue t (Actor i acts.Abort) r → m ≡ after t (Actor i acts.Abort) r → IsDue m (Actor i acts.Request) q
    → e ≡ after m (Actor i acts.Request) q → All IsIdle (take i t.actors) → All IsIdle (take (i + 1) e.actors) × (length e.actors ≡ length t.actors)
first_closed t m e i r q lt due is due' is' closed =
    let y = observed_after acts.Abort r (get_or t.actors i idle) in
    let set : m.actors ≡ slice_set t.actors i y = all_observed_after t m i acts.Abort r lt is in
    let count : length m.actors ≡ length t.actors = ap length set ∙ set_length t.actors i y in
    let within : i < length m.actors = omega (arith, lt, count) in
    let there : get_or m.actors i idle ≡ y = ap (λ (xs : List ObservedActor). get_or xs i idle) set ∙ get_or-set_same t.actors i y idle lt in
    let up : HasEnded (get_or m.actors i idle) = subst HasEnded (sym there) (abort_ends (get_or t.actors i idle) r (due_of t i acts.Abort r lt due)) in
    let z = observed_after acts.Request q (get_or m.actors i idle) in
    let set' : e.actors ≡ slice_set m.actors i z = all_observed_after m e i acts.Request q within is' in
    let before : take i m.actors ≡ take i t.actors = ap (take i) set ∙ take-set t.actors i y in
    let all : take (i + 1) e.actors ≡ take i m.actors ++ z ∷ [] = ap (take (i + 1)) set' ∙ take_more_set m.actors i z within in
    let last : IsIdle z = request_idles (get_or m.actors i idle) q (due_of m i acts.Request q within due') up in
    (subst (All IsIdle) (sym all) (All-push IsIdle (take i m.actors) z (subst (All IsIdle) (sym before) closed) last), ap length set' ∙ set_length m.actors i z ∙ count)

pub one_gave_up : (next : Next) (world t m e : WorldValue) (i : ℕ) (r q : Reply) → HaveGivenUp next world i t → i < length world.told.actors → IsTaken next t (Actor i acts.Abort) r m
    → IsTaken next m (Actor i acts.Request) q e → HaveGivenUp next world (i + 1) e
one_gave_up next world t m e i r q h lt one two =
    let closed = first_closed t.told m.told e.told i r q (omega (arith, lt, h.same)) one.due one.stepped.told two.due two.stepped.told h.closed in
    let aborted = taken_more next world t m (give_up_steps i) h.replied (Actor i acts.Abort) r h.taken one in
    let all = taken_more next world m e (give_up_steps i ++ Actor i acts.Abort ∷ []) (h.replied ++ r ∷ []) (Actor i acts.Request) q aborted two in
    let suc_is : suc i ≡ i + 1 = omega arith in
    let steps : (give_up_steps i ++ Actor i acts.Abort ∷ []) ++ Actor i acts.Request ∷ [] ≡ give_up_steps (i + 1) =
    append_assoc (give_up_steps i) (Actor i acts.Abort ∷ []) (Actor i acts.Request ∷ []) ∙ ap give_up_steps suc_is in
    record {
      replied = (h.replied ++ r ∷ []) ++ q ∷ [];
      taken = subst (λ ss. AreTaken next world ss ((h.replied ++ r ∷ []) ++ q ∷ []) e) steps all;
      same = closed.1 ∙ h.same;
      closed = closed.0;
    }

pub all_gave_up : (next : Next) (world e : WorldValue) (count : ℕ) → count ≡ length world.told.actors → HaveGivenUp next world count e → HasGivenUp next world e
all_gave_up next world e count is h = record { replied = h.replied; taken = subst (λ n. AreTaken next world (give_up_steps n) h.replied e) is h.taken }

pub all_closed : (next : Next) (world e : WorldValue) (count : ℕ) → count ≡ length world.told.actors → HaveGivenUp next world count e → All IsIdle e.told.actors
all_closed next world e count is h = subst (All IsIdle) (take_all count e.told.actors (omega (arith, is, h.same))) h.closed
