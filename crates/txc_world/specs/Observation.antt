-- The reports of a world by a list of steps and replies.
use Rattle.std.specs.Prelude.{◌≡◌, ◌⊎◌, ℕ, ◌+◌, ◌<◌, ◌≤◌, max, nat_lt, if◌then◌else◌, List, [], ◌∷◌, ◌++◌, length, take, Option, Some, None, Result, Ok, Err, slice_get, slice_index_or, slice_set, MatchOption}
use Rattle.txc_tags.specs.Keys.{Call}
use Rattle.txc_rows.specs.declared.query.Change.{Change}
use Rattle.txc_db.specs.History.{History, commit_event, pin_event, state_at}
use Rattle.txc_db.specs.DatabaseValue.{is_held, without}
use Rattle.txc_cushion.specs.declared.pin.Pin.{Pin}
use Rattle.txc_app.specs.Eval.{Next}
use Rattle.txc_txn_ports.specs.declared.bounds.Bounds.{Bounds}
use Rattle.txc_txn_ports.specs.declared.error.TxnError.{TxnError}
use Rattle.txc_txn_ports.specs.declared.recorded.Recorded.{Recorded}
use Rattle.txc_txn.specs.TxnCore.{Explains}
use Rattle.txc_txn.specs.Sessions.{floor_after}
use Rattle.txc_txn_rw.specs.declared.given.Given.{Given}
use Rattle.txc_txn_rw.specs.declared.given.Given.TheVariants as given
use Rattle.txc_txn_rw.specs.declared.rw_core.TheConstants.{MAX_CHANGES}
use Rattle.txc_txn_rw.specs.Answers.{AreRightIn}
use Rattle.txc_txn_rw.specs.RwCore.{IsWriteRefused}
use Rattle.txc_txn_rw.specs.Outcomes.{HasChanged, HasChangedNothing}
use Rattle.txc_world.specs.declared.settings.WorldSettings.{WorldSettings}
use Rattle.txc_world.specs.declared.step.ActorStep.{ActorStep}
use Rattle.txc_world.specs.declared.step.ActorStep.TheVariants.{BeginRo, BeginRw, Start, Request, Ask, Write, Commit, Abort}
use Rattle.txc_world.specs.declared.step.KeeperStep.{KeeperStep}
use Rattle.txc_world.specs.declared.step.KeeperStep.TheVariants as keeps
use Rattle.txc_world.specs.declared.step.Step.{Step}
use Rattle.txc_world.specs.declared.step.Step.TheVariants.{Actor, BeginIn, Keeper}
use Rattle.txc_world.specs.declared.port_outcome.PortOutcome.{PortOutcome}
use Rattle.txc_world.specs.declared.port_outcome.PortOutcome.TheVariants.{Pinned}
use Rattle.txc_world.specs.declared.reply.Reply.{Reply}
use Rattle.txc_world.specs.declared.reply.Reply.TheVariants as replies
use Rattle.txc_world.specs.declared.reply.Reply.TheVariants.{Begun, Based, Started, Asked, Ended, Answered, Kept, Receipt, Aborted, At, Refused}
use Rattle.txc_world.specs.declared.reply.Refusal.{Refusal}
use Rattle.txc_world.specs.declared.reply.Refusal.TheVariants as refusals
use Rattle.txc_world.specs.declared.reply.Refusal.TheVariants.{NoActor, NoNode, AlreadyOpen, NotOpen, MidCall, NoRequest}

-- ---- the observation

-- an open read-only transaction: its bounds, its open call, and its completed calls
pub record Reading : Type 0 where
  pub bounds : Bounds
  pub call : Option Call
  pub answers : List Recorded

-- an open read-write transaction: its base, its open call, its results, and its changes
pub record Writing : Type 0 where
  pub base : ℕ
  pub call : Option Call
  pub answers : List Given
  pub changes : List Change

-- an actor is idle; or has a read-only or a read-write transaction open; or that has ended, and the hold of a
-- stamp must still be removed
pub data ObservedActor : Type 0 where
  idle : ObservedActor
  reading : Reading → ObservedActor
  writing : Writing → ObservedActor
  leaving : ℕ → ObservedActor

-- a world: its settings, its history, the stamps of the pins that the keeper has and did not add, the floor of
-- each actor's session, and what each actor has open
pub record Observation : Type 0 where
  pub settings : WorldSettings
  pub history : History
  pub spare : List ℕ
  pub floors : List ℕ
  pub actors : List ObservedActor

-- ---- the reports of an actor's step

-- the completed call follows those before it
abbrev pub with_answered_call : Option Call → List ℕ → List Recorded → List Recorded
with_answered_call None value answers = answers
with_answered_call (Some key) value answers = answers ++ record { key = key; value = value } ∷ []

-- the call has ended so, or continues
abbrev pub after_end : Option (Result (List ℕ) TxnError) → Reading → Reading
after_end None r = r
after_end (Some (Ok value)) r = record r { call = None; answers = with_answered_call r.call value r.answers }
after_end (Some (Err error)) r = record r { call = None }

-- the same of a read-write transaction
abbrev pub given_of : Option Call → List ℕ → List Given → List Given
given_of None value answers = answers
given_of (Some key) value answers = answers ++ given.Value key value ∷ []

abbrev pub writing_on : Option (Result (List ℕ) TxnError) → Writing → Writing
writing_on None w = w
writing_on (Some (Ok value)) w =
    record w { call = None; answers = given_of w.call value w.answers }
writing_on (Some (Err error)) w = record w { call = None }

-- aborted, with this hold to be removed
abbrev pub given_up : Option ℕ → ObservedActor
given_up None = idle
given_up (Some stamp) = leaving stamp

-- the actor's open transaction after this act and its reply
abbrev pub observed_after : ActorStep → Reply → ObservedActor → ObservedActor
observed_after (BeginRo bounds) Begun observed = reading (record { bounds = bounds; call = None; answers = [] })
observed_after BeginRw (Based base) observed =
    writing (record { base = base; call = None; answers = []; changes = [] })
observed_after (Start key) Started (reading r) = reading (record r { call = Some key })
observed_after (Start key) Started (writing w) = writing (record w { call = Some key })
observed_after Request (Asked did end) (reading r) = reading (after_end end r)
observed_after Request (Ended end) (reading r) = reading (after_end (Some end) r)
observed_after Request (Asked did end) (writing w) = writing (writing_on end w)
observed_after Request (Ended end) (writing w) = writing (writing_on (Some end) w)
observed_after Request (Asked did end) (leaving stamp) = idle
observed_after (Ask query) (Answered rows) (writing w) =
    writing (record w { answers = w.answers ++ given.Rows query rows.items ∷ [] })
observed_after (Write change) Kept (writing w) = writing (record w { changes = w.changes ++ change ∷ [] })
observed_after Commit (Receipt pin) observed = idle
observed_after Commit (At stamp) (writing w) = leaving w.base
observed_after Abort (Aborted left) observed = given_up left
observed_after act reply observed = observed

-- a pin whose reply has a stamp is in the history
abbrev pub did_in : PortOutcome → ℕ → History → History
did_in (Pinned stamp) now L = L ++ pin_event now ∷ []
did_in did now L = L

-- a commit of the changes is in the history if its reply has a stamp above its length
abbrev pub commit_in : List Change → ℕ → History → History
commit_in changes stamp L =
    if nat_lt (length L) stamp then L ++ commit_event (state_at L (length L)) changes ∷ [] else L

abbrev pub act_in : ActorStep → Reply → ObservedActor → History → History
act_in Request (Asked did end) (reading r) L = did_in did r.bounds.now L
act_in Commit (At stamp) (writing w) L = commit_in w.changes stamp L
act_in act reply observed L = L

-- ---- the reports of a step of the keeper

abbrev pub keep_in : KeeperStep → Reply → History → History
keep_in (keeps.Write change) (At stamp) L = commit_in (change ∷ []) stamp L
keep_in (keeps.Pin now) (At stamp) L = L ++ pin_event now ∷ []
keep_in keep reply L = L

-- it has one more pin to add, or has spent one, at a pincushion that may have failed
abbrev pub spare_after : KeeperStep → Reply → List ℕ → List ℕ
spare_after (keeps.Pin now) (At stamp) spare = spare ++ stamp ∷ []
spare_after (keeps.Add stamp) replies.Added spare = without stamp spare
spare_after (keeps.Add stamp) (Refused (refusals.Pincushion error)) spare = without stamp spare
spare_after keep reply spare = spare

-- ---- the reports of an actor's session

-- the floor of the session of the actor of that number
abbrev pub floor_at : List ℕ → ℕ → ℕ
floor_at floors number = slice_index_or floors number 0

-- a receipt with a pin, and the stamp of a commit, raise the floor of the actor that is replied so
abbrev pub floor_by : Reply → ℕ → ℕ
floor_by (Receipt pin) floor = floor_after floor pin
floor_by (At stamp) floor = max floor stamp
floor_by reply floor = floor

-- a transaction that begins in its session has the session's floor among its bounds
abbrev pub begin_at : ℕ → ℕ → ℕ → ActorStep
begin_at floor now staleness = BeginRo (record { now = now; staleness = staleness; at_least = floor })

-- ---- a whole list

-- the actor's step reports nothing if there is no such actor
abbrev pub act_at : ℕ → ActorStep → Reply → Observation → Option ObservedActor → Observation
act_at number act reply told None = told
act_at number act reply told (Some observed) = record told {
  history = act_in act reply observed told.history;
  floors = slice_set told.floors number (floor_by reply (floor_at told.floors number));
  actors = slice_set told.actors number (observed_after act reply observed);
}

-- the observation after one step and its reply
abbrev pub after : Observation → Step → Reply → Observation
after told (Actor number act) reply = act_at number act reply told (slice_get told.actors number)
after told (BeginIn number now staleness) reply =
    act_at number (begin_at (floor_at told.floors number) now staleness) reply told (slice_get told.actors number)
after told (Keeper keep) reply = record told {
  history = keep_in keep reply told.history;
  spare = spare_after keep reply told.spare;
}

-- the observation after a list of steps and their replies, one after another
abbrev pub observed_from : Observation → List Step → List Reply → Observation
observed_from told [] replies = told
observed_from told (step ∷ steps) [] = told
observed_from told (step ∷ steps) (reply ∷ replies) = observed_from (after told step reply) steps replies

-- ---- receipts and commits

abbrev pub IsNoReceipt : Reply → Type 0
IsNoReceipt (Receipt pin) = ⊥
IsNoReceipt reply = Unit {0}

-- the reply is neither a receipt nor the stamp of a commit
abbrev pub IsNoCommit : Reply → Type 0
IsNoCommit (Receipt pin) = ⊥
IsNoCommit (At stamp) = ⊥
IsNoCommit reply = Unit {0}

-- the receipt explains the answers of the actor's transaction within its bounds
abbrev pub IsReceiptOfActor : Next → History → ObservedActor → Option Pin → Type 0
IsReceiptOfActor next L (reading r) pin = Explains next L r.bounds pin r.answers
IsReceiptOfActor next L observed pin = ⊥

-- The effect of a commit with this stamp in its reply on a history of `count` events. No event was added,
-- nothing changes in the newest state, and each result is correct there; or the event of the net changes was
-- added, and each result is correct before it.
abbrev pub CommitMakes : Next → History → ℕ → Writing → ℕ → Type 0
CommitMakes next L count w stamp =
    ((stamp ≡ count) × HasChangedNothing next (take stamp L) w.changes w.answers stamp)
    ⊎ ((stamp ≡ count + 1) × HasChanged next (take stamp L) w.changes w.answers stamp)

-- the stamp of a commit explains the results: each is correct at the base, and at the state to which the commit
-- was made
pub record CommitExplains (next : Next) (L : History) (count : ℕ) (w : Writing) (stamp : ℕ) : Type 0 where
  pub within : w.base ≤ count
  pub at_base : AreRightIn next (state_at L w.base) w.answers
  pub made : CommitMakes next L count w stamp

abbrev pub IsCommitOf : Next → History → ℕ → ObservedActor → ℕ → Type 0
IsCommitOf next L count (writing w) stamp = CommitExplains next L count w stamp
IsCommitOf next L count observed stamp = ⊥

-- the reply explains the answers shown of the actor, in a history of this many events
abbrev pub ReplyExplains : Next → History → ℕ → ObservedActor → Reply → Type 0
ReplyExplains next L count observed (Receipt pin) = IsReceiptOfActor next L observed pin
ReplyExplains next L count observed (At stamp) = IsCommitOf next L count observed stamp
ReplyExplains next L count observed reply = Unit {0}

-- only an actor receives a receipt or the stamp of a commit, and it explains the actor's answers in the history
abbrev pub IsExplainedIn : Next → History → Observation → Step → Reply → Type 0
IsExplainedIn next L told (Actor number act) reply =
    MatchOption (slice_get told.actors number) (IsNoCommit reply)
    (λ observed. ReplyExplains next L (length told.history) observed reply)
IsExplainedIn next L told (BeginIn number now staleness) reply =
    MatchOption (slice_get told.actors number) (IsNoCommit reply)
    (λ observed. ReplyExplains next L (length told.history) observed reply)
IsExplainedIn next L told (Keeper keep) reply = IsNoReceipt reply

-- each receipt and each commit explains in the history what was shown before it
abbrev pub AreExplainedIn : Next → History → Observation → List Step → List Reply → Type 0
AreExplainedIn next L told [] replies = Unit {0}
AreExplainedIn next L told (step ∷ steps) [] = Unit {0}
AreExplainedIn next L told (step ∷ steps) (reply ∷ replies) =
    IsExplainedIn next L told step reply × AreExplainedIn next L (after told step reply) steps replies

-- each explains it in the history as it was shown by then
abbrev pub AreExplained : Next → Observation → List Step → List Reply → Type 0
AreExplained next told [] replies = Unit {0}
AreExplained next told (step ∷ steps) [] = Unit {0}
AreExplained next told (step ∷ steps) (reply ∷ replies) =
    IsExplainedIn next (after told step reply).history told step reply
    × AreExplained next (after told step reply) steps replies

-- ---- replies

-- one refusal while a call is open, the other while none is
abbrev pub due_by_call : Option Call → Option Refusal → Option Refusal → Option Refusal
due_by_call (Some key) with_call without_call = with_call
due_by_call None with_call without_call = without_call

-- the refusal of the world itself that is due to an actor, if one is
abbrev pub due_refusal : ActorStep → ObservedActor → Option Refusal
due_refusal (BeginRo bounds) idle = None
due_refusal (BeginRo bounds) observed = Some AlreadyOpen
due_refusal BeginRw idle = None
due_refusal BeginRw observed = Some AlreadyOpen
due_refusal Request (leaving stamp) = None
due_refusal act idle = Some NotOpen
due_refusal act (leaving stamp) = Some NotOpen
due_refusal (Start key) (reading r) = due_by_call r.call (Some MidCall) None
due_refusal (Start key) (writing w) = due_by_call w.call (Some MidCall) None
due_refusal Request (reading r) = due_by_call r.call None (Some NoRequest)
due_refusal Request (writing w) = due_by_call w.call None (Some NoRequest)
due_refusal (Ask query) (reading r) = Some NotOpen
due_refusal (Ask query) (writing w) = due_by_call w.call (Some MidCall) None
due_refusal (Write change) (reading r) = Some NotOpen
due_refusal (Write change) (writing w) = due_by_call w.call (Some MidCall) None
due_refusal Commit (reading r) = due_by_call r.call (Some MidCall) None
due_refusal Commit (writing w) = due_by_call w.call (Some MidCall) None
due_refusal Abort observed = None

-- The reply to an actor's step if no such refusal is due: the result of the request, or the error of the port
-- that failed.
abbrev pub IsActReply : ActorStep → ObservedActor → Reply → Type 0
IsActReply (BeginRo bounds) observed reply = (reply ≡ Begun) ⊎ (reply ≡ Refused refusals.Memory)
IsActReply BeginRw observed (Based base) = Unit {0}
IsActReply BeginRw observed (Refused (refusals.Database error)) = Unit {0}
IsActReply (Start key) observed reply = reply ≡ Started
IsActReply Request (leaving stamp) (Asked did None) = Unit {0}
IsActReply Request (leaving stamp) reply = ⊥
IsActReply Request observed (Asked did end) = Unit {0}
IsActReply Request observed (Ended end) = Unit {0}
IsActReply (Ask query) observed (Answered rows) = Unit {0}
IsActReply (Ask query) observed (Refused (refusals.Transaction error)) = Unit {0}
IsActReply (Write change) (writing w) Kept = length w.changes < MAX_CHANGES
IsActReply (Write change) (writing w) (Refused (refusals.Transaction error)) =
    IsWriteRefused (length w.changes) error
IsActReply Commit (reading r) (Receipt pin) = Unit {0}
IsActReply Commit (writing w) (At stamp) = Unit {0}
IsActReply Commit (writing w) (Refused (refusals.Database error)) = Unit {0}
IsActReply Abort observed (Aborted left) = Unit {0}
IsActReply act observed reply = ⊥

-- exactly the refusal that is due; if none is, a reply that suits
abbrev pub IsDueOr : Option Refusal → Type 0 → Reply → Type 0
IsDueOr (Some refusal) Suits reply = reply ≡ Refused refusal
IsDueOr None Suits reply = Suits

abbrev pub IsActDue : ObservedActor → ActorStep → Reply → Type 0
IsActDue observed act reply = IsDueOr (due_refusal act observed) (IsActReply act observed reply) reply

-- no such node; or no pin of the stamp to add
abbrev pub due_keep : ℕ → List ℕ → KeeperStep → Option Refusal
due_keep nodes spare (keeps.Advance node) = if nat_lt node nodes then None else Some NoNode
due_keep nodes spare (keeps.Sweep node horizon) = if nat_lt node nodes then None else Some NoNode
due_keep nodes spare (keeps.Add stamp) = if is_held stamp spare then None else Some NoRequest
due_keep nodes spare keep = None

-- the reply to a step of the keeper if no refusal of the world itself is due: the result of the request, or the
-- error of the port that failed
abbrev pub IsKeepReply : KeeperStep → Reply → Type 0
IsKeepReply (keeps.Write change) (At stamp) = Unit {0}
IsKeepReply (keeps.Write change) (Refused (refusals.Database error)) = Unit {0}
IsKeepReply (keeps.Pin now) (At stamp) = Unit {0}
IsKeepReply (keeps.Pin now) (Refused (refusals.Database error)) = Unit {0}
IsKeepReply (keeps.Add stamp) replies.Added = Unit {0}
IsKeepReply (keeps.Add stamp) (Refused (refusals.Pincushion error)) = Unit {0}
IsKeepReply (keeps.GiveBack stamp) replies.GivenBack = Unit {0}
IsKeepReply (keeps.GiveBack stamp) (Refused (refusals.GiveBack error)) = Unit {0}
IsKeepReply (keeps.Retire now age) (replies.Retired stamps) = Unit {0}
IsKeepReply (keeps.Retire now age) (Refused refusals.Memory) = Unit {0}
IsKeepReply (keeps.Unpin stamp) replies.Unpinned = Unit {0}
IsKeepReply (keeps.Unpin stamp) (Refused (refusals.Database error)) = Unit {0}
IsKeepReply keeps.Vacuum (replies.Vacuumed horizon) = Unit {0}
IsKeepReply keeps.Vacuum (Refused (refusals.Database error)) = Unit {0}
IsKeepReply (keeps.Query stamp query) (replies.Rows found) = Unit {0}
IsKeepReply (keeps.Query stamp query) (Refused (refusals.Database error)) = Unit {0}
IsKeepReply (keeps.Advance node) (replies.Advanced advanced) = Unit {0}
IsKeepReply (keeps.Advance node) (Refused (refusals.Node error)) = Unit {0}
IsKeepReply (keeps.Sweep node horizon) (replies.Swept count) = Unit {0}
IsKeepReply (keeps.Sweep node horizon) (Refused (refusals.Node error)) = Unit {0}
IsKeepReply keep reply = ⊥

abbrev pub IsKeepDue : ℕ → List ℕ → KeeperStep → Reply → Type 0
IsKeepDue nodes spare keep reply = IsDueOr (due_keep nodes spare keep) (IsKeepReply keep reply) reply

-- a step of an actor that does not exist is refused; the reply to any other is the one due
abbrev pub IsDue : Observation → Step → Reply → Type 0
IsDue told (Actor number act) reply =
    MatchOption (slice_get told.actors number) (reply ≡ Refused NoActor) (λ observed. IsActDue observed act reply)
IsDue told (BeginIn number now staleness) reply =
    MatchOption (slice_get told.actors number) (reply ≡ Refused NoActor)
    (λ observed. IsActDue observed (begin_at (floor_at told.floors number) now staleness) reply)
IsDue told (Keeper keep) reply = IsKeepDue told.settings.nodes told.spare keep reply

-- each step is replied what is due after those before it
abbrev pub AreDue : Observation → List Step → List Reply → Type 0
AreDue told [] replies = Unit {0}
AreDue told (step ∷ steps) [] = Unit {0}
AreDue told (step ∷ steps) (reply ∷ replies) =
    IsDue told step reply × AreDue (after told step reply) steps replies
