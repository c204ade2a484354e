-- Each step leaves to each what is its own.
use Rattle.std.proofs.Common.{◌≡◌, ◌∙◌, ℕ, List, [], ◌∷◌, ◌++◌, Ok, Err, Vec, refl, ap, arith}
use Rattle.std.specs.declared.alloc.Global.{Global}
use Rattle.txc_rows.specs.declared.query.Change.{Change}
use Rattle.txc_db.specs.declared.error.DbError.{DbError}
use Rattle.txc_db.specs.History.{commit_event}
use Rattle.txc_db.specs.DatabaseValue.{after_event_of, newest_net, newest_state, where_some, DatabaseValue}
use Rattle.txc_cushion.specs.declared.error.AddError.{AddError}
use Rattle.txc_cushion.specs.Cushion.{retired}
use Rattle.txc_cushion.specs.Entries.{times}
use Rattle.txc_cushion.proofs.Counts.{times_cons}
use Rattle.txc_world.specs.declared.step.KeeperStep.{KeeperStep}
use Rattle.txc_world.specs.declared.step.KeeperStep.TheVariants as keeps
use Rattle.txc_world.specs.declared.reply.Reply.{Reply}
use Rattle.txc_world.specs.declared.reply.Reply.TheVariants as replies
use Rattle.txc_world.specs.declared.reply.Reply.TheVariants.{Refused}
use Rattle.txc_world.specs.declared.reply.Refusal.TheVariants as refusals
use Rattle.txc_shared.specs.Nodes.{NodeValue}
use Rattle.txc_world.specs.Ports.{PortsValue, HasLedNode, HasRefused}
use Rattle.txc_world.specs.PortRequests.{UnpinTransition}
use Rattle.txc_world.specs.KeeperAtPorts.{stamps_of_pins, GiveBackTransition, HasAddedSpare, PinSpareTransition, RetireTransition, WriteTransition}
use Rattle.txc_world.specs.Holdings.{holdings_of, Account, CountRight}
use Rattle.txc_world.specs.Tidy.{AreBalanced, KeepsBalance, InHand}
use Rattle.txc_world.specs.KeeperStep.{KeepTransition}
use Rattle.txc_world.proofs.KeptLemmas.{pinned_spare_stamps}
use Rattle.txc_world.proofs.Times.{held_there, times_append, times_one, times_without}
use Rattle.txc_world.proofs.Fairness.{left_holds, pin_holds}

module _ (old new : PortsValue) where
  -- a step that leaves holds and pins, and the keeper's pins
  balance_same : (in_hand : InHand) (accounts : List Account) → new.database.holds ≡ old.database.holds → new.cushion ≡ old.cushion
      → stamps_of_pins new.spare ≡ stamps_of_pins old.spare → AreBalanced (stamps_of_pins old.spare) (holdings_of old accounts) in_hand
      → AreBalanced (stamps_of_pins new.spare) (holdings_of new accounts) in_hand
  balance_same in_hand accounts holds cushion spare h = rw (holds, cushion, spare) (record { held = h.held; used = h.used })

  balance_led : (at : ℕ) (transition : NodeValue → NodeValue → Type 0) → HasLedNode at transition old new → (in_hand : InHand) (accounts : List Account)
      → AreBalanced (stamps_of_pins old.spare) (holdings_of old accounts) in_hand → AreBalanced (stamps_of_pins new.spare) (holdings_of new accounts) in_hand
  balance_led at transition led in_hand accounts h = rw led.is (record { held = h.held; used = h.used })

  balance_refused : (e : DbError) → HasRefused old new e → (in_hand : InHand) (accounts : List Account)
      → AreBalanced (stamps_of_pins old.spare) (holdings_of old accounts) in_hand → AreBalanced (stamps_of_pins new.spare) (holdings_of new accounts) in_hand
  balance_refused e h in_hand accounts b = balance_same in_hand accounts (left_holds old.database new.database e h.left)
      (ap (λ (p : PortsValue). p.cushion) h.is) (ap (λ (p : PortsValue). stamps_of_pins p.spare) h.is) b

pub committed_holds : (d : DatabaseValue) (net : List Change) (other : DatabaseValue) → other.holds ≡ d.holds → (where_some net d other).holds ≡ d.holds
committed_holds d [] other same = refl
committed_holds d (c ∷ cs) other same = same

-- ---- the database

module _ (old new : PortsValue) where
  keeps_written : (change : Change) (stamp : ℕ) → WriteTransition change old new (Ok stamp) → KeepsBalance (keeps.Write change) old new (replies.At stamp)
  keeps_written change stamp transition = λ in_hand accounts tidy h.
      let d = old.database in
      let holds : new.database.holds ≡ old.database.holds =
      ap (λ (p : PortsValue). p.database.holds) transition.0
      ∙ committed_holds d (newest_net d (change ∷ [])) (after_event_of d (commit_event (newest_state d) (change ∷ [])) (newest_net d (change ∷ []))) refl in
      balance_same old new in_hand accounts holds (ap (λ (p : PortsValue). p.cushion) transition.0) (ap (λ (p : PortsValue). stamps_of_pins p.spare) transition.0) h

  keeps_not_written : (change : Change) (e : DbError) → WriteTransition change old new (Err e) → KeepsBalance (keeps.Write change) old new (Refused (refusals.Database e))
  keeps_not_written change e transition = λ in_hand accounts tidy h. balance_refused old new e transition.0 in_hand accounts h

  keeps_not_pinned : (now : ℕ) (e : DbError) → PinSpareTransition now old new (Err e) → KeepsBalance (keeps.Pin now) old new (Refused (refusals.Database e))
  keeps_not_pinned now e transition = λ in_hand accounts tidy h. balance_refused old new e transition.0 in_hand accounts h

  keeps_pinned : (now stamp : ℕ) → PinSpareTransition now old new (Ok stamp) → KeepsBalance (keeps.Pin now) old new (replies.At stamp)
  keeps_pinned now stamp transition = λ in_hand accounts tidy h.
      let pinned = transition.pinned in
      let holds : new.database.holds ≡ old.database.holds ++ pinned.stamp ∷ [] =
      pin_holds old (record new { spare = old.spare }) now pinned.stamp (ap (λ (p : PortsValue). p.database) transition.made.after) transition.made.stamp in
      let cushion : new.cushion ≡ old.cushion = ap (λ (p : PortsValue). p.cushion) transition.made.after in
      rw (holds, cushion, pinned_spare_stamps old new now stamp transition, transition.stamp_is) (record {
        held = λ t.
            let a = h.held t in
            let b = times_append t (stamps_of_pins old.spare) (pinned.stamp ∷ []) in
            let c = times_append t old.database.holds (pinned.stamp ∷ []) in
            omega (arith, a, b, c);
        used = h.used;
      })

  keeps_unpinned : (stamp : ℕ) → CountRight old → UnpinTransition {A = Unit {0}} stamp old new (Ok tt) → KeepsBalance (keeps.Unpin stamp) old new replies.Unpinned
  keeps_unpinned stamp right transition = λ in_hand accounts tidy h. rw transition.0 (record {
    held = λ t.
        let a = h.held t in
        let b = times_without right.unpin t stamp old.database.holds transition.1 in
        let c = times_without right.unpin t stamp in_hand.owed (held_there stamp in_hand.owed tidy) in
        omega (arith, a, b, c);
    used = h.used;
  })

  -- ---- the pincushion

  keeps_added : (stamp : ℕ) → CountRight old → HasAddedSpare {A = Unit {0}} stamp old new (Ok tt) → KeepsBalance (keeps.Add stamp) old new replies.Added
  keeps_added stamp right transition = λ in_hand accounts tidy h.
      let pinned = transition.pinned in
      let holds : new.database.holds ≡ old.database.holds = ap (λ (p : PortsValue). p.database.holds) transition.added.0 in
      rw (holds, ap (λ (p : PortsValue). p.cushion) transition.added.0, transition.spare) (record {
        held = λ t.
            let a = h.held t in
            let one = right.add old.cushion pinned t right.cushion transition.added.1 in
            let b = one.stamps in
            let c = times_without right.unpin t stamp (stamps_of_pins old.spare) transition.held in
            let d = ap (λ (s : ℕ). times t (s ∷ [])) transition.stamp_is in
            let e = times_one t pinned.stamp in
            let f = times_one t stamp in
            omega (arith, a, b, c, d, e, f);
        used = λ t.
            let a = h.used t in
            let one = right.add old.cushion pinned t right.cushion transition.added.1 in
            let b = one.users in
            let c = times_cons t stamp in_hand.lent in
            let d = ap (λ (s : ℕ). times t (s ∷ [])) transition.stamp_is in
            let e = times_one t pinned.stamp in
            let f = times_one t stamp in
            omega (arith, a, b, c, d, e, f);
      })

  keeps_not_added : (stamp : ℕ) (e : AddError) → CountRight old → HasAddedSpare {A = Unit {0}} stamp old new (Err e) → KeepsBalance (keeps.Add stamp) old new (Refused (refusals.Pincushion e))
  keeps_not_added stamp e right transition = λ in_hand accounts tidy h.
      let holds : new.database.holds ≡ old.database.holds = ap (λ (p : PortsValue). p.database.holds) transition.added.0 in
      rw (holds, ap (λ (p : PortsValue). p.cushion) transition.added.0, transition.spare) (record {
        held = λ t.
            let a = h.held t in
            let b = times_without right.unpin t stamp (stamps_of_pins old.spare) transition.held in
            let c = times_cons t stamp in_hand.owed in
            let d = times_one t stamp in
            omega (arith, a, b, c, d);
        used = h.used;
      })

  keeps_given_back : (stamp : ℕ) → CountRight old → GiveBackTransition {A = Unit {0}} (stamp ∷ []) old new (Ok tt) → KeepsBalance (keeps.GiveBack stamp) old new replies.GivenBack
  keeps_given_back stamp right transition = λ in_hand accounts tidy h. rw transition.0 (record {
    held = λ t.
        let a = h.held t in
        let one = right.give_back old.cushion (stamp ∷ []) t transition.1 in
        let b = ap (times t) one.stamps in
        omega (arith, a, b);
    used = λ t.
        let a = h.used t in
        let one = right.give_back old.cushion (stamp ∷ []) t transition.1 in
        let b = one.users in
        let c = times_without right.unpin t stamp in_hand.lent (held_there stamp in_hand.lent tidy) in
        omega (arith, a, b, c);
  })

  keeps_retired : (now age : ℕ) (stamps : Vec ℕ Global) → CountRight old → RetireTransition {A = Unit {0}} now age old new (Ok stamps)
      → KeepsBalance (keeps.Retire now age) old new (replies.Retired stamps)
  keeps_retired now age stamps right transition = λ in_hand accounts tidy h. rw (transition.0, transition.1) (record {
    held = λ t.
        let a = h.held t in
        let one = right.retire old.cushion now age t right.cushion in
        let b = one.stamps in
        let c = times_append t (retired old.cushion now age) in_hand.owed in
        omega (arith, a, b, c);
    used = λ t.
        let a = h.used t in
        let one = right.retire old.cushion now age t right.cushion in
        let b = one.users in
        omega (arith, a, b);
  })

  -- ---- any step

  nothing_spent : new ≡ old → (in_hand : InHand) (accounts : List Account) → AreBalanced (stamps_of_pins old.spare) (holdings_of old accounts) in_hand
      → AreBalanced (stamps_of_pins new.spare) (holdings_of new accounts) in_hand
  nothing_spent same in_hand accounts h = rw same h

  pub kept_balance : CountRight old → (keep : KeeperStep) (reply : Reply) → KeepTransition keep old new reply → KeepsBalance keep old new reply
  kept_balance right (keeps.Write change) (replies.At stamp) transition = keeps_written change stamp transition
  kept_balance right (keeps.Write change) (Refused (refusals.Database e)) transition = keeps_not_written change e transition
  kept_balance right (keeps.Pin now) (replies.At stamp) transition = keeps_pinned now stamp transition
  kept_balance right (keeps.Pin now) (Refused (refusals.Database e)) transition = keeps_not_pinned now e transition
  kept_balance right (keeps.Add stamp) replies.Added transition = keeps_added stamp right transition
  kept_balance right (keeps.Add stamp) (Refused (refusals.Pincushion e)) transition = keeps_not_added stamp e right transition
  kept_balance right (keeps.Add stamp) (Refused refusals.NoRequest) transition = λ in_hand accounts tidy h. nothing_spent transition.0 in_hand accounts h
  kept_balance right (keeps.GiveBack stamp) replies.GivenBack transition = keeps_given_back stamp right transition
  kept_balance right (keeps.GiveBack stamp) (Refused (refusals.GiveBack unknown)) transition = λ in_hand accounts tidy h. nothing_spent transition.0 in_hand accounts h
  kept_balance right (keeps.Retire now age) (replies.Retired stamps) transition = keeps_retired now age stamps right transition
  kept_balance right (keeps.Retire now age) (Refused refusals.Memory) transition = λ in_hand accounts tidy h. nothing_spent transition in_hand accounts h
  kept_balance right (keeps.Unpin stamp) replies.Unpinned transition = keeps_unpinned stamp right transition
  kept_balance right (keeps.Unpin stamp) (Refused (refusals.Database e)) transition = λ in_hand accounts tidy h. nothing_spent transition.0 in_hand accounts h
  kept_balance right keeps.Vacuum (replies.Vacuumed horizon) transition = λ in_hand accounts tidy h.
      balance_same old new in_hand accounts (ap (λ (p : PortsValue). p.database.holds) transition.0) (ap (λ (p : PortsValue). p.cushion) transition.0) (ap (λ (p : PortsValue). stamps_of_pins p.spare) transition.0) h
  kept_balance right keeps.Vacuum (Refused (refusals.Database e)) transition = λ in_hand accounts tidy h. nothing_spent transition.0 in_hand accounts h
  kept_balance right (keeps.Query stamp query) (replies.Rows rows) transition = λ in_hand accounts tidy h. nothing_spent transition.0 in_hand accounts h
  kept_balance right (keeps.Query stamp query) (Refused (refusals.Database e)) transition = λ in_hand accounts tidy h. nothing_spent transition.0 in_hand accounts h
  kept_balance right (keeps.Advance node) (replies.Advanced advanced) transition = λ in_hand accounts tidy h. balance_led old new node _ transition in_hand accounts h
  kept_balance right (keeps.Advance node) (Refused (refusals.Node e)) transition = λ in_hand accounts tidy h. balance_led old new node _ transition in_hand accounts h
  kept_balance right (keeps.Advance node) (Refused refusals.NoNode) transition = λ in_hand accounts tidy h. nothing_spent transition.0 in_hand accounts h
  kept_balance right (keeps.Sweep node horizon) (replies.Swept count) transition = λ in_hand accounts tidy h. balance_led old new node _ transition in_hand accounts h
  kept_balance right (keeps.Sweep node horizon) (Refused (refusals.Node e)) transition = λ in_hand accounts tidy h. balance_led old new node _ transition in_hand accounts h
  kept_balance right (keeps.Sweep node horizon) (Refused refusals.NoNode) transition = λ in_hand accounts tidy h. nothing_spent transition.0 in_hand accounts h
  kept_balance right keep reply transition = absurd transition
