-- The steps of a line of a world's script, and the text of their replies.
use Rattle.std.specs.Prelude.{◌≡◌, ℕ, zero, suc, Bool, true, false, List, [], ◌∷◌, ◌++◌, map, length, All, Option, Some, None, if◌then◌else◌, slice_get, MatchBool, MatchOption}
use Rattle.txc_cushion.specs.declared.pin.Pin.{Pin}
use Rattle.txc_app.specs.Eval.{Next}
use Rattle.txc_script.specs.FunctionLines.{counts_in}
use Rattle.txc_world.specs.declared.step.ActorStep.{ActorStep}
use Rattle.txc_world.specs.declared.step.ActorStep.TheVariants as acts
use Rattle.txc_world.specs.declared.step.KeeperStep.TheVariants as keeps
use Rattle.txc_world.specs.declared.step.Step.{Step}
use Rattle.txc_world.specs.declared.step.Step.TheVariants.{Actor, Keeper}
use Rattle.txc_world.specs.declared.reply.Reply.{Reply}
use Rattle.txc_world.specs.declared.reply.Reply.TheVariants as replies
use Rattle.txc_world.specs.declared.reply.Refusal.TheVariants.{NoNode}
use Rattle.txc_world.specs.StepEffects.{HasStepped}
use Rattle.txc_world.specs.ActorValues.{reads, ReadingValue}
use Rattle.txc_world.specs.Tidy.{in_hand_after, IsTidy, LosesNoSnapshot, InHand}
use Rattle.txc_world.specs.Observation.{Reading, reading, IsDue, IsExplainedIn}
use Rattle.txc_world.specs.Worlds.{due_of_pins, AreMembersOf, IsBalanced, WorldValue}
use Rattle.txc_script_world.specs.declared.printed.Printed.{Printed}
use Rattle.txc_script_world.specs.declared.printed.Printed.TheVariants.{Replied, Ended, Members, Tidied, Counted}
use Rattle.txc_script_world.specs.declared.task.Task.{Task}
use Rattle.txc_script_world.specs.declared.task.Task.TheVariants as tasks

-- ---- steps and replies of a world

-- A step was taken with this reply: the step leads from one world to the other, and the reply is the one due. A
-- receipt or a commit explains the answers shown before it. If everyone has their own and the step is tidy,
-- everyone has their own after it, and it loses no snapshot.
pub record IsTaken (next : Next) (old : WorldValue) (step : Step) (reply : Reply) (new : WorldValue)
    : Type 0 where
  pub stepped : HasStepped next old step reply new
  pub explained : IsExplainedIn next new.told.history old.told step reply
  pub due : IsDue old.told step reply
  pub balanced : (in_hand : InHand) → IsBalanced old in_hand → IsTidy step reply in_hand
      → IsBalanced new (in_hand_after step reply in_hand) × LosesNoSnapshot step reply

-- steps were taken one after another and replied so, each in the world that those before it left
abbrev pub AreTaken : Next → WorldValue → List Step → List Reply → WorldValue → Type 0
AreTaken next old [] [] new = new ≡ old
AreTaken next old [] (reply ∷ replied) new = ⊥
AreTaken next old (step ∷ steps) [] new = ⊥
AreTaken next old (step ∷ steps) (reply ∷ replied) new = (between : WorldValue)
    × IsTaken next old step reply between × AreTaken next between steps replied new

-- ---- the steps of each line

-- the stamp of the pin that was made, if one was
abbrev pub stamp_in : Reply → Option ℕ
stamp_in (replies.At stamp) = Some stamp
stamp_in reply = None

abbrev pub is_added : Reply → Bool
is_added replies.Added = true
is_added reply = false

-- the keeper pins, adds the pin and returns its user; if the addition fails, the pin's hold is released, and
-- the cause is written
abbrev pub DoesPin : ℕ → List Step → List Reply → Printed → Type 0
DoesPin now steps (pinned ∷ []) printed =
    (stamp_in pinned ≡ None) × (steps ≡ Keeper (keeps.Pin now) ∷ []) × (printed ≡ Replied pinned)
DoesPin now steps (pinned ∷ added ∷ last ∷ []) printed =
    (stamp : ℕ) × (stamp_in pinned ≡ Some stamp)
    × (steps ≡ Keeper (keeps.Pin now) ∷ Keeper (keeps.Add stamp)
    ∷ Keeper (if is_added added then keeps.GiveBack stamp else keeps.Unpin stamp) ∷ [])
    × (printed ≡ Replied (if is_added added then pinned else added))
DoesPin now steps replied printed = ⊥

-- the end of a call by a request, as it is written, or that no call is open; none if the call continues
abbrev pub ending_of : Reply → Option Printed
ending_of (replies.Asked did None) = None
ending_of (replies.Asked did (Some end)) = Some (Ended end)
ending_of (replies.Ended end) = Some (Ended end)
ending_of reply = Some (Replied reply)

-- the actor makes requests, and the call continues after each but the last, which ends it
pub record DoesFinish (actor : ℕ) (steps : List Step) (replied : List Reply) (printed : Printed) : Type 0 where
  pub before : List Reply
  pub last : Reply
  pub requests : All (λ s. s ≡ Actor actor acts.Request) steps
  pub replied_are : replied ≡ before ++ last ∷ []
  pub go_on : All (λ r. ending_of r ≡ None) before
  pub ends : ending_of last ≡ Some printed

-- a hold remains after the end of a transaction with this reply, and one request releases it
abbrev pub leaves_hold : Reply → Bool
leaves_hold (replies.At stamp) = true
leaves_hold (replies.Aborted (Some stamp)) = true
leaves_hold reply = false

-- the actor ends its transaction, and takes the hold away that is left, if one is
abbrev pub DoesEnd : ℕ → ActorStep → List Step → List Reply → Printed → Type 0
DoesEnd actor act steps (reply ∷ []) printed =
    (leaves_hold reply ≡ false) × (steps ≡ Actor actor act ∷ []) × (printed ≡ Replied reply)
DoesEnd actor act steps (reply ∷ last ∷ []) printed =
    (leaves_hold reply ≡ true) × (steps ≡ Actor actor act ∷ Actor actor acts.Request ∷ [])
    × (printed ≡ Replied reply)
DoesEnd actor act steps replied printed = ⊥

-- the stamps of the pins that were taken out, if they were
abbrev pub taken_out : Reply → Option (List ℕ)
taken_out (replies.Retired stamps) = Some stamps.items
taken_out reply = None

abbrev pub is_unpinned : Reply → Bool
is_unpinned replies.Unpinned = true
is_unpinned reply = false

-- the text at the end of a tidy that retired this many pins
abbrev pub tidied : ℕ → Reply → Printed
tidied count (replies.Vacuumed horizon) = Tidied count horizon
tidied count reply = Replied reply

-- the keeper unpins each of the stamps and then drops old versions; the first error ends it
abbrev pub DoesUnpin : List ℕ → ℕ → List Step → List Reply → Printed → Type 0
DoesUnpin [] count steps (reply ∷ []) printed =
    (steps ≡ Keeper keeps.Vacuum ∷ []) × (printed ≡ tidied count reply)
DoesUnpin (stamp ∷ stamps) count (step ∷ steps) (reply ∷ replied) printed =
    (step ≡ Keeper (keeps.Unpin stamp))
    × MatchBool (is_unpinned reply) (DoesUnpin stamps count steps replied printed)
    ((steps ≡ []) × (replied ≡ []) × (printed ≡ Replied reply))
DoesUnpin stamps count steps replied printed = ⊥

-- the keeper takes old pins out, and then their holds away
abbrev pub DoesTidy : ℕ → ℕ → List Step → List Reply → Printed → Type 0
DoesTidy now age (step ∷ steps) (reply ∷ replied) printed =
    (step ≡ Keeper (keeps.Retire now age))
    × MatchOption (taken_out reply) ((steps ≡ []) × (replied ≡ []) × (printed ≡ Replied reply))
    (λ stamps. DoesUnpin stamps (length stamps) steps replied printed)
DoesTidy now age steps replied printed = ⊥

-- the text of an actor's transaction: the stamps of the members of its pin set, the newest first, and whether
-- it has the present; it may still be serialised at each of these
pub record AreShown (next : Next) (world : WorldValue) (actor : ℕ) (has_present : Bool) (stamps : List ℕ)
    : Type 0 where
  pub pins : List Pin
  pub stamps_are : stamps ≡ map (λ p. p.stamp) pins
  pub pin_set : (r : ReadingValue) → slice_get world.actors actor ≡ Some (reads r)
      → r.txn.core.pins ≡ record { members = pins; has_present = has_present }
  pub members : (r : Reading) → slice_get world.told.actors actor ≡ Some (reading r)
      → AreMembersOf next world.told.history r has_present pins

abbrev pub ShowsMembers : Next → WorldValue → ℕ → Printed → Type 0
ShowsMembers next world actor (Members has_present stamps) =
    AreShown next world actor has_present stamps.items
ShowsMembers next world actor printed = ⊥

-- the actor's members are written, or why it has none
abbrev pub DoesPins : Next → WorldValue → ℕ → Printed → Type 0
DoesPins next world actor printed =
    MatchOption (due_of_pins (slice_get world.told.actors actor)) (ShowsMembers next world actor printed)
    (λ refusal. printed ≡ Replied (replies.Refused refusal))

-- the counts of a function in the records of a node are written, or that there is no such node
abbrev pub DoesCounts : WorldValue → ℕ → ℕ → Printed → Type 0
DoesCounts world node function printed =
    MatchOption (slice_get world.ports.nodes node) (printed ≡ Replied (replies.Refused NoNode))
    (λ n. printed ≡ Counted (record { function = function; counts = counts_in n.records function }))

-- the steps of what a line asks for, as they were replied, and what is written of them
abbrev pub Does : Next → WorldValue → Task → List Step → List Reply → Printed → Type 0
Does next world (tasks.One step) steps replied printed =
    (reply : Reply) × (steps ≡ step ∷ []) × (replied ≡ reply ∷ []) × (printed ≡ Replied reply)
Does next world (tasks.Pin now) steps replied printed = DoesPin now steps replied printed
Does next world (tasks.Finish actor) steps replied printed = DoesFinish actor steps replied printed
Does next world (tasks.Pins actor) steps replied printed = (steps ≡ []) × DoesPins next world actor printed
Does next world (tasks.Commit actor) steps replied printed = DoesEnd actor acts.Commit steps replied printed
Does next world (tasks.Abort actor) steps replied printed = DoesEnd actor acts.Abort steps replied printed
Does next world (tasks.Tidy now age) steps replied printed = DoesTidy now age steps replied printed
Does next world (tasks.Counts node function) steps replied printed =
    (steps ≡ []) × DoesCounts world node function printed

-- the line's request was done: its steps were taken, and this is written of them
pub record TaskIsDone (next : Next) (world : WorldValue) (task : Task) (printed : Printed) (end : WorldValue)
    : Type 0 where
  pub steps : List Step
  pub replied : List Reply
  pub taken : AreTaken next world steps replied end
  pub does : Does next world task steps replied printed

-- the first steps of what a line asks for were taken, or all of them
pub record TaskHasBegun (next : Next) (world : WorldValue) (task : Task) (end : WorldValue) : Type 0 where
  pub steps : List Step
  pub replied : List Reply
  pub taken : AreTaken next world steps replied end
  pub later : List Step
  pub later_replied : List Reply
  pub printed : Printed
  pub does : Does next world task (steps ++ later) (replied ++ later_replied) printed

-- ---- the end of a run

-- each of the first actors aborts its open transaction, even within a call, and then releases the hold that
-- remains
abbrev pub give_up_steps : ℕ → List Step
give_up_steps zero = []
give_up_steps (suc actor) = give_up_steps actor ++ Actor actor acts.Abort ∷ Actor actor acts.Request ∷ []

-- all actors of a world gave up what they had open
pub record HasGivenUp (next : Next) (world left : WorldValue) : Type 0 where
  pub replied : List Reply
  pub taken : AreTaken next world (give_up_steps (length world.told.actors)) replied left
