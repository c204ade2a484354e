-- What is shown of the keeper's steps.
use Rattle.std.proofs.Common.{◌≡◌, ◌∙◌, ℕ, ◌+◌, ◌<◌, ◌≤◌, nat_lt, arith, Bool, true, false, List, [], ◌∷◌, ◌++◌, length, Result, Ok, Err, Some, None, refl, ap, sym, subst, length-append}
use Rattle.std.specs.Prelude.{if◌then◌else◌}
use Rattle.std.proofs.lemmas.Bool.Decides.{nat_tests}
use Rattle.std.proofs.lemmas.List.{map-append}
use Rattle.std.proofs.lemmas.Option.{slice_get_within}
use Rattle.txc_tags.specs.declared.tag.Tag.{Tag}
use Rattle.txc_rows.specs.declared.query.Change.{Change}
use Rattle.txc_db.specs.declared.error.DbError.{DbError}
use Rattle.txc_db.specs.declared.pinned.Pinned.{Pinned}
use Rattle.txc_db.specs.Facts.{EventValue}
use Rattle.txc_db.specs.History.{History, commit_event, pin_event}
use Rattle.txc_db.specs.DatabaseValue.{DatabaseValue, after_commit, after_event_of, is_held, newest, newest_net, newest_state, where_some}
use Rattle.txc_world.specs.declared.step.KeeperStep.{KeeperStep}
use Rattle.txc_world.specs.declared.step.KeeperStep.TheVariants as keeps
use Rattle.txc_world.specs.declared.reply.Reply.{Reply}
use Rattle.txc_world.specs.declared.reply.Reply.TheVariants as replies
use Rattle.txc_world.specs.declared.reply.Reply.TheVariants.{Refused}
use Rattle.txc_world.specs.declared.reply.Refusal.TheVariants as refusals
use Rattle.txc_world.specs.Ports.{PortsValue, whole_of, HasRefused, HasLedNode}
use Rattle.txc_world.specs.NodeSteps.{AdvanceTransition, SweepTransition}
use Rattle.txc_world.specs.KeeperAtPorts.{stamps_of_pins, CommitTransition, HasPinnedSpare, WriteTransition}
use Rattle.txc_world.specs.KeeperStep.{KeepTransition}
use Rattle.txc_world.specs.Observation.{commit_in, keep_in, spare_after, IsDueOr, IsKeepDue, IsNoReceipt}
use Rattle.txc_shared.specs.Nodes.{NodeValue}
use Rattle.txc_shared.specs.declared.advanced.Advanced.{Advanced}
use Rattle.txc_shared.specs.declared.error.NodeError.{NodeError}
use Rattle.txc_world.proofs.PortsLemmas.{left_history}

-- ---- commits

lt_itself : (n : ℕ) → nat_lt n n ≡ false
lt_itself n = grind (arith, nat_tests)

lt_more : (n m : ℕ) → m ≡ n + 1 → nat_lt n m ≡ true
lt_more n m is = grind (arith, nat_tests)

committed : (d : DatabaseValue) (net : List Change) (e : EventValue) (stamp : ℕ)
    → stamp ≡ length (where_some net d (after_event_of d e net)).history
    → (where_some net d (after_event_of d e net)).history ≡ (if nat_lt (length d.history) stamp then d.history ++ e ∷ [] else d.history)
committed d [] e stamp is = rw (ap (nat_lt (length d.history)) is ∙ lt_itself (length d.history)) refl
committed d (c ∷ cs) e stamp is = rw (lt_more (length d.history) stamp (is ∙ length-append d.history (e ∷ []))) refl

-- the changes of a commit stand in the history, as its stamp tells
pub commit_told : (old new : PortsValue) (base : ℕ) (read : List Tag) (changes : List Change) (stamp : ℕ) → CommitTransition base read changes old new (Ok stamp)
    → new.database.history ≡ commit_in changes stamp old.database.history
commit_told old new base read changes stamp transition =
    let d = old.database in
    let same : new.database ≡ after_commit d changes = ap (λ (p : PortsValue). p.database) transition.0 in
    ap (λ (e : DatabaseValue). e.history) same
    ∙ committed d (newest_net d changes) (commit_event (newest_state d) changes) stamp (transition.1 ∙ ap newest same)

pub written : (old new : PortsValue) (change : Change) (stamp : ℕ) → WriteTransition change old new (Ok stamp)
    → new.database.history ≡ keep_in (keeps.Write change) (replies.At stamp) old.database.history
written old new change stamp transition = commit_told old new (newest old.database) [] (change ∷ []) stamp transition

-- ---- what stays

pub refused_history : (old new : PortsValue) (e : DbError) → HasRefused old new e → new.database.history ≡ old.database.history
refused_history old new e h = left_history old.database new.database e h.left

pub refused_spare : (old new : PortsValue) (e : DbError) → HasRefused old new e → stamps_of_pins new.spare ≡ stamps_of_pins old.spare
refused_spare old new e h = ap (λ (p : PortsValue). stamps_of_pins p.spare) h.is

-- ---- the keeper's pins

pub pinned_spare_stamps : (old new : PortsValue) (now stamp : ℕ) → HasPinnedSpare now old new stamp
    → stamps_of_pins new.spare ≡ stamps_of_pins old.spare ++ stamp ∷ []
pinned_spare_stamps old new now stamp h =
    ap stamps_of_pins h.spare ∙ (map-append (λ (p : Pinned). p.stamp) old.spare (h.pinned ∷ [])
    ∙ ap (λ (s : ℕ). stamps_of_pins old.spare ++ s ∷ []) (sym h.stamp_is))

pub pinned_spare_history : (old new : PortsValue) (now stamp : ℕ) → HasPinnedSpare now old new stamp
    → new.database.history ≡ old.database.history ++ pin_event now ∷ []
pinned_spare_history old new now stamp h = ap (λ (p : PortsValue). p.database.history) h.made.after

-- a pin that the keeper has, or has not
pub due_held : (nodes stamp : ℕ) (spare : List ℕ) (reply : Reply) (Suits : Type 0) → is_held stamp spare ≡ true → Suits
    → IsDueOr (if is_held stamp spare then None else Some refusals.NoRequest) Suits reply
due_held nodes stamp spare reply Suits held suits =
    subst (λ (b : Bool). IsDueOr (if b then None else Some refusals.NoRequest) Suits reply) (sym held) suits

pub due_not_held : (stamp : ℕ) (spare : List ℕ) (Suits : Type 0) → is_held stamp spare ≡ false
    → IsDueOr (if is_held stamp spare then None else Some refusals.NoRequest) Suits (Refused refusals.NoRequest)
due_not_held stamp spare Suits none =
    subst (λ (b : Bool). IsDueOr (if b then None else Some refusals.NoRequest) Suits (Refused refusals.NoRequest)) (sym none) refl

-- a node that is there, or is not
pub due_node : (node nodes : ℕ) (reply : Reply) (Suits : Type 0) → node < nodes → Suits
    → IsDueOr (if nat_lt node nodes then None else Some refusals.NoNode) Suits reply
due_node node nodes reply Suits below suits =
    let is : nat_lt node nodes ≡ true = grind (arith, nat_tests) in
    subst (λ (b : Bool). IsDueOr (if b then None else Some refusals.NoNode) Suits reply) (sym is) suits

pub due_no_node : (node nodes : ℕ) (Suits : Type 0) → nodes ≤ node
    → IsDueOr (if nat_lt node nodes then None else Some refusals.NoNode) Suits (Refused refusals.NoNode)
due_no_node node nodes Suits above =
    let is : nat_lt node nodes ≡ false = grind (arith, nat_tests) in
    subst (λ (b : Bool). IsDueOr (if b then None else Some refusals.NoNode) Suits (Refused refusals.NoNode)) (sym is) refl

-- ---- what is shown of a step, by what it leads to

-- a node's advance
abbrev pub told_advance : Result Advanced NodeError → Reply
told_advance (Ok advanced) = replies.Advanced advanced
told_advance (Err e) = Refused (refusals.Node e)

pub kept_advance : (old new : PortsValue) (at : ℕ) (r : Result Advanced NodeError) (reply : Reply) → HasLedNode at (λ was is. AdvanceTransition old.actors (whole_of old) was is r) old new
    → reply ≡ told_advance r → KeepTransition (keeps.Advance at) old new reply
kept_advance old new at (Ok advanced) reply led is = subst (KeepTransition (keeps.Advance at) old new) (sym is) led
kept_advance old new at (Err e) reply led is = subst (KeepTransition (keeps.Advance at) old new) (sym is) led

-- a node's sweep
abbrev pub told_sweep : Result ℕ NodeError → Reply
told_sweep (Ok count) = replies.Swept count
told_sweep (Err e) = Refused (refusals.Node e)

pub kept_sweep : (old new : PortsValue) (at horizon : ℕ) (r : Result ℕ NodeError) (reply : Reply) → HasLedNode at (λ was is. SweepTransition old.actors horizon was is r) old new
    → reply ≡ told_sweep r → KeepTransition (keeps.Sweep at horizon) old new reply
kept_sweep old new at horizon (Ok count) reply led is = subst (KeepTransition (keeps.Sweep at horizon) old new) (sym is) led
kept_sweep old new at horizon (Err e) reply led is = subst (KeepTransition (keeps.Sweep at horizon) old new) (sym is) led

module _ (old new : PortsValue) where
  -- all else stays
  abbrev pub TellsOf : History → List ℕ → Type 0
  TellsOf history spare = (new.database.history ≡ history) × (stamps_of_pins new.spare ≡ spare)

  tells_so : (p : PortsValue) → new ≡ p → TellsOf p.database.history (stamps_of_pins p.spare)
  tells_so p is = (ap (λ (q : PortsValue). q.database.history) is, ap (λ (q : PortsValue). stamps_of_pins q.spare) is)

  pub kept_told : (keep : KeeperStep) (reply : Reply) → KeepTransition keep old new reply
      → TellsOf (keep_in keep reply old.database.history) (spare_after keep reply (stamps_of_pins old.spare))
  kept_told (keeps.Write change) (replies.At stamp) transition = (written old new change stamp transition, ap (λ (p : PortsValue). stamps_of_pins p.spare) transition.0)
  kept_told (keeps.Write change) (Refused (refusals.Database e)) transition = (refused_history old new e transition.0, refused_spare old new e transition.0)
  kept_told (keeps.Pin now) (replies.At stamp) transition = (pinned_spare_history old new now stamp transition, pinned_spare_stamps old new now stamp transition)
  kept_told (keeps.Pin now) (Refused (refusals.Database e)) transition = (refused_history old new e transition.0, refused_spare old new e transition.0)
  kept_told (keeps.Add stamp) replies.Added transition = (ap (λ (p : PortsValue). p.database.history) transition.added.0, transition.spare)
  kept_told (keeps.Add stamp) (Refused (refusals.Pincushion e)) transition = (ap (λ (p : PortsValue). p.database.history) transition.added.0, transition.spare)
  kept_told (keeps.Add stamp) (Refused refusals.NoRequest) transition = tells_so _ transition.0
  kept_told (keeps.GiveBack stamp) replies.GivenBack transition = tells_so _ transition.0
  kept_told (keeps.GiveBack stamp) (Refused (refusals.GiveBack unknown)) transition = tells_so _ transition.0
  kept_told (keeps.Retire now age) (replies.Retired stamps) transition = tells_so _ transition.0
  kept_told (keeps.Retire now age) (Refused refusals.Memory) transition = tells_so _ transition
  kept_told (keeps.Unpin stamp) replies.Unpinned transition = tells_so _ transition.0
  kept_told (keeps.Unpin stamp) (Refused (refusals.Database e)) transition = tells_so _ transition.0
  kept_told keeps.Vacuum (replies.Vacuumed horizon) transition = tells_so _ transition.0
  kept_told keeps.Vacuum (Refused (refusals.Database e)) transition = tells_so _ transition.0
  kept_told (keeps.Query stamp query) (replies.Rows rows) transition = tells_so _ transition.0
  kept_told (keeps.Query stamp query) (Refused (refusals.Database e)) transition = tells_so _ transition.0
  kept_told (keeps.Advance node) (replies.Advanced advanced) transition = tells_so _ transition.is
  kept_told (keeps.Advance node) (Refused (refusals.Node e)) transition = tells_so _ transition.is
  kept_told (keeps.Advance node) (Refused refusals.NoNode) transition = tells_so _ transition.0
  kept_told (keeps.Sweep node horizon) (replies.Swept count) transition = tells_so _ transition.is
  kept_told (keeps.Sweep node horizon) (Refused (refusals.Node e)) transition = tells_so _ transition.is
  kept_told (keeps.Sweep node horizon) (Refused refusals.NoNode) transition = tells_so _ transition.0
  kept_told keep reply transition = absurd transition

  -- a node that was led is there
  led_there : (at : ℕ) (transition : NodeValue → NodeValue → Type 0) → HasLedNode at transition old new → at < length old.nodes
  led_there at transition led = slice_get_within old.nodes at led.before led.there

  pub kept_due : (keep : KeeperStep) (reply : Reply) → KeepTransition keep old new reply → IsKeepDue (length old.nodes) (stamps_of_pins old.spare) keep reply
  kept_due (keeps.Write change) (replies.At stamp) transition = tt
  kept_due (keeps.Write change) (Refused (refusals.Database e)) transition = tt
  kept_due (keeps.Pin now) (replies.At stamp) transition = tt
  kept_due (keeps.Pin now) (Refused (refusals.Database e)) transition = tt
  kept_due (keeps.Add stamp) replies.Added transition = due_held (length old.nodes) stamp (stamps_of_pins old.spare) replies.Added _ transition.held tt
  kept_due (keeps.Add stamp) (Refused (refusals.Pincushion e)) transition =
      due_held (length old.nodes) stamp (stamps_of_pins old.spare) (Refused (refusals.Pincushion e)) _ transition.held tt
  kept_due (keeps.Add stamp) (Refused refusals.NoRequest) transition = due_not_held stamp (stamps_of_pins old.spare) _ transition.1
  kept_due (keeps.GiveBack stamp) replies.GivenBack transition = tt
  kept_due (keeps.GiveBack stamp) (Refused (refusals.GiveBack unknown)) transition = tt
  kept_due (keeps.Retire now age) (replies.Retired stamps) transition = tt
  kept_due (keeps.Retire now age) (Refused refusals.Memory) transition = tt
  kept_due (keeps.Unpin stamp) replies.Unpinned transition = tt
  kept_due (keeps.Unpin stamp) (Refused (refusals.Database e)) transition = tt
  kept_due keeps.Vacuum (replies.Vacuumed horizon) transition = tt
  kept_due keeps.Vacuum (Refused (refusals.Database e)) transition = tt
  kept_due (keeps.Query stamp query) (replies.Rows rows) transition = tt
  kept_due (keeps.Query stamp query) (Refused (refusals.Database e)) transition = tt
  kept_due (keeps.Advance node) (replies.Advanced advanced) transition = due_node node (length old.nodes) _ _ (led_there node _ transition) tt
  kept_due (keeps.Advance node) (Refused (refusals.Node e)) transition = due_node node (length old.nodes) _ _ (led_there node _ transition) tt
  kept_due (keeps.Advance node) (Refused refusals.NoNode) transition = due_no_node node (length old.nodes) _ transition.1
  kept_due (keeps.Sweep node horizon) (replies.Swept count) transition = due_node node (length old.nodes) _ _ (led_there node _ transition) tt
  kept_due (keeps.Sweep node horizon) (Refused (refusals.Node e)) transition = due_node node (length old.nodes) _ _ (led_there node _ transition) tt
  kept_due (keeps.Sweep node horizon) (Refused refusals.NoNode) transition = due_no_node node (length old.nodes) _ transition.1
  kept_due keep reply transition = absurd transition

  -- no step is replied with a receipt
  pub kept_no_receipt : (keep : KeeperStep) (reply : Reply) → KeepTransition keep old new reply → IsNoReceipt reply
  kept_no_receipt (keeps.Write change) (replies.Receipt pin) transition = absurd transition
  kept_no_receipt keep (replies.Receipt pin) transition = absurd transition
  kept_no_receipt keep reply transition = tt
