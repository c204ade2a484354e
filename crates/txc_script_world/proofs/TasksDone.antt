-- What lines of a world's script ask for is done, step by step.
use Rattle.std.proofs.Common.{◌≡◌, ℕ, Bool, true, false, List, [], ◌∷◌, ◌++◌, Some, None, Result, Ok, Err, IfOk, OnErr, length, inl, inr, refl, sym, ap, subst, ◌∙◌, arith}
use Rattle.std.specs.Prelude.{if◌then◌else◌, slice_get, IsOk, MatchOption, Option}
use Rattle.std.specs.List.{All}
use Rattle.std.specs.declared.alloc.AllocError.{AllocError}
use Rattle.std.proofs.lemmas.Bool.{false≢true}
use Rattle.std.proofs.lemmas.List.{append-nil}
use Rattle.std.proofs.lemmas.List.Elements.{All-append, All-cons, All-nil}
use Rattle.txc_node.specs.declared.counts.FunctionCounts.{FunctionCounts}
use Rattle.txc_node.specs.Counts.{Totals, AreCountsOf, counts_of}
use Rattle.txc_script.specs.FunctionLines.{counts_in}
use Rattle.txc_script.proofs.Counting.{counted_in}
use Rattle.txc_shared.specs.Nodes.{NodeValue}
use Rattle.txc_app.specs.Eval.{Next}
use Rattle.txc_world.specs.declared.step.ActorStep.{ActorStep}
use Rattle.txc_world.specs.declared.step.ActorStep.TheVariants as acts
use Rattle.txc_world.specs.declared.step.KeeperStep.TheVariants as keeps
use Rattle.txc_world.specs.declared.step.Step.{Step}
use Rattle.txc_world.specs.declared.step.Step.TheVariants.{Actor, Keeper}
use Rattle.txc_world.specs.declared.reply.Refusal.{Refusal}
use Rattle.txc_world.specs.declared.reply.Refusal.TheVariants.{NoNode}
use Rattle.txc_world.specs.declared.reply.Reply.{Reply}
use Rattle.txc_world.specs.declared.reply.Reply.TheVariants as replies
use Rattle.txc_world.specs.Worlds.{WorldValue}
use Rattle.txc_script_world.specs.TaskSteps.{AreTaken, IsTaken, TaskHasBegun, TaskIsDone, Does, DoesCounts, DoesPins, DoesUnpin, ending_of, is_added, is_unpinned, leaves_hold, stamp_in, taken_out, tidied}
use Rattle.txc_script_world.specs.TaskParts.{HasEndedTxn, HasUnpinned, IsCutShort}
use Rattle.txc_script_world.specs.declared.printed.Printed.{Printed}
use Rattle.txc_script_world.specs.declared.printed.Printed.TheVariants.{Replied, Counted}
use Rattle.txc_script_world.specs.declared.task.Task.{Task}
use Rattle.txc_script_world.specs.declared.task.Task.TheVariants as tasks
use Rattle.txc_script_world.proofs.WorldSteps.{taken_alone, taken_more}

-- ---- one step

pub done_one : (next : Next) (world end : WorldValue) (step : Step) (reply : Reply) → IsTaken next world step reply end → TaskIsDone next world (tasks.One step) (Replied reply) end
done_one next world end step reply one = record { steps = step ∷ []; replied = reply ∷ []; taken = taken_alone next world end step reply one; does = (reply, refl, refl, refl) }

-- ---- a pin

pub pin_alone : (next : Next) (world end : WorldValue) (now : ℕ) (pinned : Reply) → IsTaken next world (Keeper (keeps.Pin now)) pinned end → stamp_in pinned ≡ None
    → TaskIsDone next world (tasks.Pin now) (Replied pinned) end
pin_alone next world end now pinned one none = record {
  steps = Keeper (keeps.Pin now) ∷ [];
  replied = pinned ∷ [];
  taken = taken_alone next world end _ pinned one;
  does = (none, refl, refl);
}

-- the pin is added, or is not
pub pin_done : (next : Next) (world a b end : WorldValue) (now stamp : ℕ) (pinned added last : Reply) (kept : Bool) → IsTaken next world (Keeper (keeps.Pin now)) pinned a → stamp_in pinned ≡ Some stamp
    → IsTaken next a (Keeper (keeps.Add stamp)) added b → is_added added ≡ kept → IsTaken next b (Keeper (if kept then keeps.GiveBack stamp else keeps.Unpin stamp)) last end
    → TaskIsDone next world (tasks.Pin now) (Replied (if kept then pinned else added)) end
pin_done next world a b end now stamp pinned added last kept one some two is three = record {
  steps = Keeper (keeps.Pin now) ∷ Keeper (keeps.Add stamp) ∷ Keeper (if kept then keeps.GiveBack stamp else keeps.Unpin stamp) ∷ [];
  replied = pinned ∷ added ∷ last ∷ [];
  taken = (a, one, (b, two, taken_alone next b end _ last three));
  does = (
    stamp,
    some,
    ap (λ (x : Bool). Keeper (keeps.Pin now) ∷ Keeper (keeps.Add stamp) ∷ Keeper (if x then keeps.GiveBack stamp else keeps.Unpin stamp) ∷ []) (sym is),
    ap (λ (x : Bool). Replied (if x then pinned else added)) (sym is),
  );
}

-- ---- requests of a call

-- requests were made, and the call goes on
pub record HasRequested (next : Next) (world : WorldValue) (actor : ℕ) (end : WorldValue) : Type 0 where
  pub steps : List Step
  pub replied : List Reply
  pub taken : AreTaken next world steps replied end
  pub requests : All (λ s. s ≡ Actor actor acts.Request) steps
  pub go_on : All (λ r. ending_of r ≡ None) replied

pub none_requested : (next : Next) (world : WorldValue) (actor : ℕ) → HasRequested next world actor world
none_requested next world actor = record {
  steps = [];
  replied = [];
  taken = refl;
  requests = All-nil (λ s. s ≡ Actor actor acts.Request);
  go_on = All-nil (λ r. ending_of r ≡ None);
}

more_requests : (actor : ℕ) (steps : List Step) → All (λ s. s ≡ Actor actor acts.Request) steps → All (λ s. s ≡ Actor actor acts.Request) (steps ++ Actor actor acts.Request ∷ [])
more_requests actor steps all =
    All-append (λ s. s ≡ Actor actor acts.Request) steps (Actor actor acts.Request ∷ []) all
    (All-cons (λ s. s ≡ Actor actor acts.Request) (Actor actor acts.Request) [] refl (All-nil (λ s. s ≡ Actor actor acts.Request)))

pub one_requested : (next : Next) (world mid end : WorldValue) (actor : ℕ) (reply : Reply) → HasRequested next world actor mid → IsTaken next mid (Actor actor acts.Request) reply end → ending_of reply ≡ None
    → HasRequested next world actor end
one_requested next world mid end actor reply h one none = record {
  steps = h.steps ++ Actor actor acts.Request ∷ [];
  replied = h.replied ++ reply ∷ [];
  taken = taken_more next world mid end h.steps h.replied _ reply h.taken one;
  requests = more_requests actor h.steps h.requests;
  go_on = All-append (λ r. ending_of r ≡ None) h.replied (reply ∷ []) h.go_on (All-cons (λ r. ending_of r ≡ None) reply [] none (All-nil (λ r. ending_of r ≡ None)));
}

pub call_ended : (next : Next) (world mid end : WorldValue) (actor : ℕ) (reply : Reply) (printed : Printed) → HasRequested next world actor mid → IsTaken next mid (Actor actor acts.Request) reply end
    → ending_of reply ≡ Some printed → TaskIsDone next world (tasks.Finish actor) printed end
call_ended next world mid end actor reply printed h one some = record {
  steps = h.steps ++ Actor actor acts.Request ∷ [];
  replied = h.replied ++ reply ∷ [];
  taken = taken_more next world mid end h.steps h.replied _ reply h.taken one;
  does = record {
    before = h.replied;
    last = reply;
    requests = more_requests actor h.steps h.requests;
    replied_are = refl;
    go_on = h.go_on;
    ends = some;
  };
}

-- ---- the end of a transaction

pub ended_alone : (next : Next) (world end : WorldValue) (actor : ℕ) (act : ActorStep) (reply : Reply) → IsTaken next world (Actor actor act) reply end → leaves_hold reply ≡ false
    → HasEndedTxn next world actor act reply end
ended_alone next world end actor act reply one not = record {
  steps = Actor actor act ∷ [];
  replied = reply ∷ [];
  taken = taken_alone next world end _ reply one;
  does = (not, refl, refl);
}

pub ended_with : (next : Next) (world mid end : WorldValue) (actor : ℕ) (act : ActorStep) (reply last : Reply) → IsTaken next world (Actor actor act) reply mid → leaves_hold reply ≡ true
    → IsTaken next mid (Actor actor acts.Request) last end → HasEndedTxn next world actor act reply end
ended_with next world mid end actor act reply last one is two = record {
  steps = Actor actor act ∷ Actor actor acts.Request ∷ [];
  replied = reply ∷ last ∷ [];
  taken = (mid, one, taken_alone next mid end _ last two);
  does = (is, refl, refl);
}

pub done_commit : (next : Next) (world end : WorldValue) (actor : ℕ) (reply : Reply) → HasEndedTxn next world actor acts.Commit reply end → TaskIsDone next world (tasks.Commit actor) (Replied reply) end
done_commit next world end actor reply h = record { steps = h.steps; replied = h.replied; taken = h.taken; does = h.does }

pub done_abort : (next : Next) (world end : WorldValue) (actor : ℕ) (reply : Reply) → HasEndedTxn next world actor acts.Abort reply end → TaskIsDone next world (tasks.Abort actor) (Replied reply) end
done_abort next world end actor reply h = record { steps = h.steps; replied = h.replied; taken = h.taken; does = h.does }

-- ---- a tidy

pub vacuumed : (next : Next) (world end : WorldValue) (stamps : List ℕ) (count : ℕ) (reply : Reply) (printed : Printed) → IsTaken next world (Keeper keeps.Vacuum) reply end → length stamps ≡ 0
    → printed ≡ tidied count reply → HasUnpinned next world stamps count printed end
vacuumed next world end [] count reply printed one none is = record {
  steps = Keeper keeps.Vacuum ∷ [];
  replied = reply ∷ [];
  taken = taken_alone next world end _ reply one;
  does = (refl, is);
}
vacuumed next world end (stamp ∷ stamps) count reply printed one none is = absurd (omega (arith, none))

pub unpin_refused : (next : Next) (world end : WorldValue) (stamp : ℕ) (stamps : List ℕ) (count : ℕ) (reply : Reply) → IsTaken next world (Keeper (keeps.Unpin stamp)) reply end → is_unpinned reply ≡ false
    → HasUnpinned next world (stamp ∷ stamps) count (Replied reply) end
unpin_refused next world end stamp stamps count reply one not = record {
  steps = Keeper (keeps.Unpin stamp) ∷ [];
  replied = reply ∷ [];
  taken = taken_alone next world end _ reply one;
  does = (refl, rw not (refl, refl, refl));
}

pub one_unpinned : (next : Next) (world mid end : WorldValue) (stamp : ℕ) (stamps : List ℕ) (count : ℕ) (reply : Reply) (printed : Printed) → IsTaken next world (Keeper (keeps.Unpin stamp)) reply mid
    → is_unpinned reply ≡ true → HasUnpinned next mid stamps count printed end → HasUnpinned next world (stamp ∷ stamps) count printed end
one_unpinned next world mid end stamp stamps count reply printed one is h = record {
  steps = Keeper (keeps.Unpin stamp) ∷ h.steps;
  replied = reply ∷ h.replied;
  taken = (mid, one, h.taken);
  does = (refl, rw is h.does);
}

pub tidy_refused : (next : Next) (world end : WorldValue) (now age : ℕ) (reply : Reply) → IsTaken next world (Keeper (keeps.Retire now age)) reply end → taken_out reply ≡ None
    → TaskIsDone next world (tasks.Tidy now age) (Replied reply) end
tidy_refused next world end now age reply one none = record {
  steps = Keeper (keeps.Retire now age) ∷ [];
  replied = reply ∷ [];
  taken = taken_alone next world end _ reply one;
  does = (refl, rw none (refl, refl, refl));
}

pub tidy_done : (next : Next) (world mid end : WorldValue) (now age : ℕ) (reply : Reply) (stamps : List ℕ) (count : ℕ) (printed : Printed) → IsTaken next world (Keeper (keeps.Retire now age)) reply mid
    → taken_out reply ≡ Some stamps → count ≡ length stamps → HasUnpinned next mid stamps count printed end → TaskIsDone next world (tasks.Tidy now age) printed end
tidy_done next world mid end now age reply stamps count printed one some is h =
    let does : DoesUnpin stamps (length stamps) h.steps h.replied printed = subst (λ (n : ℕ). DoesUnpin stamps n h.steps h.replied printed) is h.does in
    record {
      steps = Keeper (keeps.Retire now age) ∷ h.steps;
      replied = reply ∷ h.replied;
      taken = (mid, one, h.taken);
      does = (refl, rw some does);
    }

-- ---- members

pub done_pins : (next : Next) (world : WorldValue) (actor : ℕ) (r : Result Printed AllocError) → IfOk r (λ printed. DoesPins next world actor printed) → IfOk r (λ printed. TaskIsDone next world (tasks.Pins actor) printed world)
done_pins next world actor (Ok printed) h = record { steps = []; replied = []; taken = refl; does = (refl, h) }
done_pins next world actor (Err e) h = tt

-- ---- counts

-- what all counts have for a function is written
counted_at : (there : Option NodeValue) (function : ℕ) (r : Result Totals Refusal) (t : Totals) (counts : FunctionCounts) → MatchOption there (r ≡ Err NoNode) (λ n. IfOk r (AreCountsOf n.records) × IsOk r)
    → r ≡ Ok t → counts ≡ counts_of t.functions function → MatchOption there (Counted (record { function = function; counts = counts }) ≡ Replied (replies.Refused NoNode))
    (λ n. Counted (record { function = function; counts = counts }) ≡ Counted (record { function = function; counts = counts_in n.records function }))
counted_at None function r t counts due is same = cc
counted_at (Some n) function r t counts due is same =
    let all : IfOk {E = Refusal} (Ok t) (AreCountsOf n.records) = subst (λ (x : Result Totals Refusal). IfOk x (AreCountsOf n.records)) is due.0 in
    ap (λ (c : FunctionCounts). Counted (record { function = function; counts = c })) (same ∙ counted_in n.records t all function)

counted_done : (world : WorldValue) (node function : ℕ) (r : Result Totals Refusal) (t : Totals) (counts : FunctionCounts)
    → MatchOption (slice_get world.ports.nodes node) (r ≡ Err NoNode) (λ n. IfOk r (AreCountsOf n.records) × IsOk r) → r ≡ Ok t → counts ≡ counts_of t.functions function
    → DoesCounts world node function (Counted (record { function = function; counts = counts }))
counted_done world node function r t counts = counted_at (slice_get world.ports.nodes node) function r t counts

-- the same, where the function is named by an equal number
pub counted_as : (world : WorldValue) (node function number : ℕ) (r : Result Totals Refusal) (t : Totals) (counts : FunctionCounts)
    → MatchOption (slice_get world.ports.nodes node) (r ≡ Err NoNode) (λ n. IfOk r (AreCountsOf n.records) × IsOk r) → r ≡ Ok t → number ≡ function
    → counts ≡ counts_of t.functions number → DoesCounts world node function (Counted (record { function = number; counts = counts }))
counted_as world node function number r t counts due is same =
    subst (λ (n : ℕ). counts ≡ counts_of t.functions n → DoesCounts world node function (Counted (record { function = n; counts = counts })))
    (sym same) (counted_done world node function r t counts due is)

-- there is no such node
not_counted_at : (there : Option NodeValue) (function : ℕ) (r : Result Totals Refusal) (refusal : Refusal) → MatchOption there (r ≡ Err NoNode) (λ n. IfOk r (AreCountsOf n.records) × IsOk r)
    → r ≡ Err refusal → MatchOption there (Replied (replies.Refused refusal) ≡ Replied (replies.Refused NoNode))
    (λ n. Replied (replies.Refused refusal) ≡ Counted (record { function = function; counts = counts_in n.records function }))
not_counted_at None function r refusal due is = cc
not_counted_at (Some n) function r refusal due is = absurd (false≢true (subst (λ (x : Result Totals Refusal). IsOk x) is due.1))

pub not_counted : (world : WorldValue) (node function : ℕ) (r : Result Totals Refusal) (refusal : Refusal)
    → MatchOption (slice_get world.ports.nodes node) (r ≡ Err NoNode) (λ n. IfOk r (AreCountsOf n.records) × IsOk r) → r ≡ Err refusal
    → DoesCounts world node function (Replied (replies.Refused refusal))
not_counted world node function r refusal = not_counted_at (slice_get world.ports.nodes node) function r refusal

pub done_counts : (next : Next) (world : WorldValue) (node function : ℕ) (printed : Printed) → DoesCounts world node function printed → TaskIsDone next world (tasks.Counts node function) printed world
done_counts next world node function printed h = record { steps = []; replied = []; taken = refl; does = (refl, h) }

-- ---- what breaks off

pub done_begun : (next : Next) (world end : WorldValue) (task : Task) (printed : Printed) → TaskIsDone next world task printed end → TaskHasBegun next world task end
done_begun next world end task printed h = record {
  steps = h.steps;
  replied = h.replied;
  taken = h.taken;
  later = [];
  later_replied = [];
  printed = printed;
  does = subst (λ (steps : List Step). Does next world task steps (h.replied ++ []) printed) (sym (append-nil h.steps))
      (subst (λ (replied : List Reply). Does next world task h.steps replied printed) (sym (append-nil h.replied)) h.does);
}

-- a call that goes on may end at the next request
pub requests_begun : (next : Next) (world end : WorldValue) (actor : ℕ) → HasRequested next world actor end → TaskHasBegun next world (tasks.Finish actor) end
requests_begun next world end actor h = record {
  steps = h.steps;
  replied = h.replied;
  taken = h.taken;
  later = Actor actor acts.Request ∷ [];
  later_replied = replies.Begun ∷ [];
  printed = Replied replies.Begun;
  does = record {
    before = h.replied;
    last = replies.Begun;
    requests = more_requests actor h.steps h.requests;
    replied_are = refl;
    go_on = h.go_on;
    ends = refl;
  };
}

pub finish_cut : (next : Next) (world end : WorldValue) (actor : ℕ) (r : Result Printed AllocError) → OnErr r (TaskHasBegun next world (tasks.Finish actor) end) → OnErr r (IsCutShort next world (tasks.Finish actor) end)
finish_cut next world end actor (Ok printed) h = tt
finish_cut next world end actor (Err e) h = inr h

pub nothing_cut : (next : Next) (world : WorldValue) (task : Task) (r : Result Printed AllocError) → OnErr r (IsCutShort next world task world)
nothing_cut next world task (Ok printed) = tt
nothing_cut next world task (Err e) = inl refl

-- what was done is not written
pub done_cut : {T : Type 0} (next : Next) (world end : WorldValue) (task : Task) (printed : Printed) (r : Result T AllocError) → TaskIsDone next world task printed end → OnErr r (IsCutShort next world task end)
done_cut next world end task printed (Ok x) h = tt
done_cut next world end task printed (Err e) h = inr (done_begun next world end task printed h)
