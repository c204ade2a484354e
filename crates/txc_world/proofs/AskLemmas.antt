-- What comes of a transaction's requests at the plain ports.
use Rattle.std.proofs.Common.{◌≡◌, ◌∙◌, inl, inr, ℕ, [], ◌∷◌, ◌++◌, Result, Ok, Err, Option, Some, None, refl, ap, sym, subst}
use Rattle.std.specs.Prelude.{IfSome}
use Rattle.std.specs.Option.{option_map}
use Rattle.txc_tags.specs.Keys.{Call}
use Rattle.txc_rows.specs.declared.query.Query.{Query}
use Rattle.txc_validity.specs.declared.answer.Found.{Found}
use Rattle.txc_db.specs.declared.answered.Answered.{Answered}
use Rattle.txc_db.specs.declared.error.DbError.{DbError}
use Rattle.txc_db.specs.declared.error.DbError.TheVariants.{Memory}
use Rattle.txc_db.specs.declared.pinned.Pinned.{Pinned}
use Rattle.txc_db.specs.History.{History, pin_event}
use Rattle.txc_db.specs.FrontsAndFeeds.{FrontValue}
use Rattle.txc_node.specs.declared.entry.Entry.{Entry}
use Rattle.txc_node.specs.declared.hit.HitValue.{HitValue}
use Rattle.txc_cushion.specs.declared.error.AddError.{AddError}
use Rattle.txc_app.specs.Claims.{IsTrueIn, entry_shown}
use Rattle.txc_app.specs.Eval.{Next}
use Rattle.txc_shared.specs.declared.insertion.Insertion.{Insertion}
use Rattle.txc_shared.specs.Nodes.{NodeValue}
use Rattle.txc_txn_ports.specs.declared.kept.Kept.{Kept}
use Rattle.txc_txn_ports.specs.declared.kept.Kept.TheVariants as kepts
use Rattle.txc_txn_ports.specs.declared.request.PortRequest.{PortRequest}
use Rattle.txc_txn_ports.specs.declared.request.PortRequest.TheVariants as requests
use Rattle.txc_txn_ports.specs.declared.reply.PortReply.{PortReply}
use Rattle.txc_txn_ports.specs.declared.reply.PortReply.TheVariants as replies
use Rattle.txc_txn_ports.proofs.Options.{for_this, for_none}
use Rattle.txc_world.specs.declared.port_outcome.PortOutcome.{PortOutcome}
use Rattle.txc_world.specs.declared.port_outcome.PortOutcome.TheVariants as dids
use Rattle.txc_world.specs.Parts.{IsPartOf}
use Rattle.txc_world.specs.Ports.{PortsValue, whole_of, KeepsRow, HasLedNode}
use Rattle.txc_world.specs.PortRequests.{kept_after, AddTransition, AnswersRows, DoesTell, FindTransition, IsAsked, IsAskedAt, IsTold, PinTransition, PortRequestTransition, UnpinTransition}
use Rattle.txc_world.specs.Holdings.{CountRight}
use Rattle.txc_world.specs.NodeSteps.{InsertTransition, LookupTransition}
use Rattle.txc_world.proofs.Fairness.{counts_add, counts_pin, counts_query, counts_unpin, fair_led}
use Rattle.txc_world.specs.Observation.{did_in}
use Rattle.txc_world.proofs.PartLemmas.{part_itself, part_then}
use Rattle.txc_world.proofs.PortsLemmas.{left_history}

-- what was part of the whole is so after a step
pub still_part : (old new : PortsValue) (front : FrontValue) → KeepsRow old new → IsPartOf (whole_of old) front → IsPartOf (whole_of new) front
still_part old new front k part = part_then (whole_of new) (whole_of old) front (record { row = sym k.events; begins = k.longer }) part

module _ (next : Next) (pass : ℕ) (seen : FrontValue) (old new : PortsValue) (keeps : KeepsRow old new) (right : CountRight old) where
  pub asked_pin : (now at_least : ℕ) (pinned : Result Pinned DbError) → PinTransition now at_least old new pinned
      → IsAsked next pass seen (requests.Pin now at_least) old new (replies.Pin pinned)
  asked_pin now at_least (Ok pinned) h = record {
    to = (h.moment, h.late, h.shown);
    row = for_this (λ (f : FrontValue). f.events ≡ old.database.events) pinned.front (ap (λ (f : FrontValue). f.events) h.front ∙ keeps.events);
    shown = for_this (IsPartOf (whole_of new)) pinned.front (subst (IsPartOf (whole_of new)) (sym h.front) (part_itself (whole_of new)));
    transition = h;
    keeps = keeps;
    spare = ap (λ (p : PortsValue). p.spare) h.after;
    counts = counts_pin old new now at_least (Ok pinned) h;
  }
  asked_pin now at_least (Err e) h = record {
    to = tt;
    row = for_none (λ (f : FrontValue). f.events ≡ old.database.events);
    shown = for_none (IsPartOf (whole_of new));
    transition = h;
    keeps = keeps;
    spare = ap (λ (p : PortsValue). p.spare) h.0.is;
    counts = counts_pin old new now at_least (Err e) h;
  }

  spare_added : (pinned : Pinned) (added : Result (Unit {0}) AddError) → AddTransition pinned old new added → new.spare ≡ old.spare
  spare_added pinned (Ok added) h = ap (λ (p : PortsValue). p.spare) h.0
  spare_added pinned (Err e) h = ap (λ (p : PortsValue). p.spare) h.0

  pub asked_add : (pinned : Pinned) (added : Result (Unit {0}) AddError) → IsPartOf (whole_of old) pinned.front → AddTransition pinned old new added
      → IsAsked next pass seen (requests.AddPin pinned) old new (replies.AddPin pinned added)
  asked_add pinned added part h = record {
    to = refl;
    row = for_this (λ (f : FrontValue). f.events ≡ old.database.events) pinned.front part.row;
    shown = for_this (IsPartOf (whole_of new)) pinned.front (still_part old new pinned.front keeps part);
    transition = h;
    keeps = keeps;
    spare = spare_added pinned added h;
    counts = counts_add old new pinned added right h;
  }

  spare_unpinned : (stamp : ℕ) (unpinned : Result (Unit {0}) DbError) → UnpinTransition stamp old new unpinned → new.spare ≡ old.spare
  spare_unpinned stamp (Ok done) h = ap (λ (p : PortsValue). p.spare) h.0
  spare_unpinned stamp (Err e) h = ap (λ (p : PortsValue). p.spare) h.0

  pub asked_unpin : (stamp : ℕ) (unpinned : Result (Unit {0}) DbError) → UnpinTransition stamp old new unpinned
      → IsAsked next pass seen (requests.Unpin stamp) old new (replies.Unpin unpinned)
  asked_unpin stamp unpinned h = record {
    to = tt;
    row = for_none (λ (f : FrontValue). f.events ≡ old.database.events);
    shown = for_none (IsPartOf (whole_of new));
    transition = h;
    keeps = keeps;
    spare = spare_unpinned stamp unpinned h;
    counts = counts_unpin old new stamp unpinned right h;
  }

  pub asked_lookup : (node : ℕ) (key : Call) (lo hi : ℕ) (hit : Option (Answered HitValue))
      → HasLedNode node (λ was is. LookupTransition pass key lo hi was is (option_map (λ h. h.answer) hit)) old new
      → IfSome hit (λ h. IsTrueIn next h.front.history (entry_shown key h.answer)) → IfSome hit (λ h. IsPartOf (whole_of old) h.front)
      → IsAsked next pass seen (requests.Lookup node key lo hi) old new (replies.Lookup hit)
  asked_lookup node key lo hi (Some hit) led true_in part = record {
    to = true_in;
    row = for_this (λ (f : FrontValue). f.events ≡ old.database.events) hit.front part.row;
    shown = for_this (IsPartOf (whole_of new)) hit.front (still_part old new hit.front keeps part);
    transition = led;
    keeps = keeps;
    spare = ap (λ (p : PortsValue). p.spare) led.is;
    counts = record { own_only = fair_led old new node _ led; gone = tt };
  }
  asked_lookup node key lo hi None led true_in part = record {
    to = tt;
    row = for_none (λ (f : FrontValue). f.events ≡ old.database.events);
    shown = for_none (IsPartOf (whole_of new));
    transition = led;
    keeps = keeps;
    spare = ap (λ (p : PortsValue). p.spare) led.is;
    counts = record { own_only = fair_led old new node _ led; gone = tt };
  }

  pub asked_insert : (node : ℕ) (entry : Entry) (made : Option Insertion) (kept : Option Kept) → kept ≡ kept_after made
      → HasLedNode node (λ was is. InsertTransition pass seen entry was is made) old new
      → IsAsked next pass seen (requests.Insert node entry) old new (replies.Insert kept)
  asked_insert node entry made kept is led = record {
    to = tt;
    row = for_none (λ (f : FrontValue). f.events ≡ old.database.events);
    shown = for_none (IsPartOf (whole_of new));
    transition = (made, is, led);
    keeps = keeps;
    spare = ap (λ (p : PortsValue). p.spare) led.is;
    counts = record { own_only = fair_led old new node _ led; gone = tt };
  }

  pub asked_query : (query : Query) (stamp : ℕ) (found : Result (Answered Found) DbError) → new ≡ old → FindTransition query stamp old found
      → IsAsked next pass seen (requests.Query query stamp) old new (replies.Query found)
  asked_query query stamp (Ok found) same h = record {
    to = h.0.over;
    row = for_this (λ (f : FrontValue). f.events ≡ old.database.events) found.front (ap (λ (f : FrontValue). f.events) h.0.front);
    shown = for_this (IsPartOf (whole_of new)) found.front (still_part old new found.front keeps (subst (IsPartOf (whole_of old)) (sym h.0.front) (part_itself (whole_of old))));
    transition = (same, h);
    keeps = keeps;
    spare = ap (λ (p : PortsValue). p.spare) same;
    counts = counts_query old new query stamp (Ok found) right same h;
  }
  asked_query query stamp (Err e) same h = record {
    to = tt;
    row = for_none (λ (f : FrontValue). f.events ≡ old.database.events);
    shown = for_none (IsPartOf (whole_of new));
    transition = (same, h);
    keeps = keeps;
    spare = ap (λ (p : PortsValue). p.spare) same;
    counts = counts_query old new query stamp (Err e) right same h;
  }

-- ---- what is shown

module _ (next : Next) (pass : ℕ) (seen : FrontValue) (old new : PortsValue) where
  -- a query that was answered may be refused as out of memory
  wanting : (request : PortRequest) (reply : PortReply) → AnswersRows reply → IsAsked next pass seen request old new reply
      → IsAsked next pass seen request old new (replies.Query (Err Memory))
  wanting (requests.Query query stamp) (replies.Query (Ok found)) rows h = record {
    to = tt;
    row = for_none (λ (f : FrontValue). f.events ≡ old.database.events);
    shown = for_none (IsPartOf (whole_of new));
    transition = (h.transition.0, h.transition.1.1);
    keeps = h.keeps;
    spare = h.spare;
    counts = record { own_only = h.counts.own_only; gone = tt };
  }
  wanting request (replies.Query (Ok found)) rows h = absurd h.transition
  wanting request reply rows h = absurd rows

  pub still_asked : (request : PortRequest) (reply told : PortReply) → IsTold reply told → IsAsked next pass seen request old new reply → IsAsked next pass seen request old new told
  still_asked request reply told (inl same) h = subst (IsAsked next pass seen request old new) (sym same) h
  still_asked request reply told (inr want) h = subst (IsAsked next pass seen request old new) (sym want.1) (wanting request reply want.0 h)

-- ---- what is shown of the history

-- what is shown of anything but a pin leaves the history
module _ (old new : History) (same : new ≡ old) (now : ℕ) where
  tells_same : (did told : PortOutcome) → did ≡ told → did_in told now old ≡ old → new ≡ did_in did now old
  tells_same did told is none = same ∙ (sym none ∙ ap (λ (d : PortOutcome). did_in d now old) (sym is))

module _ (old new : PortsValue) (did : PortOutcome) (now : ℕ) where
  led_history : (at : ℕ) (transition : NodeValue → NodeValue → Type 0) → HasLedNode at transition old new → new.database.history ≡ old.database.history
  led_history at transition led = ap (λ (p : PortsValue). p.database.history) led.is

  pub told_history : (pass : ℕ) (seen : FrontValue) (request : PortRequest) (reply : PortReply) → PortRequestTransition pass seen request old new reply → DoesTell reply did
      → IsAskedAt now request → new.database.history ≡ did_in did now old.database.history
  told_history pass seen (requests.Pin moment at_least) (replies.Pin (Ok pinned)) h told is =
      ap (λ (p : PortsValue). p.database.history) h.after
      ∙ (ap (λ (m : ℕ). old.database.history ++ pin_event m ∷ []) is ∙ ap (λ (d : PortOutcome). did_in d now old.database.history) (sym told))
  told_history pass seen (requests.Pin moment at_least) (replies.Pin (Err e)) h told is =
      tells_same old.database.history new.database.history (left_history old.database new.database e h.0.left) now did (dids.Refused e) told refl
  told_history pass seen (requests.AddPin pinned) (replies.AddPin given (Ok added)) h told is =
      tells_same old.database.history new.database.history (ap (λ (p : PortsValue). p.database.history) h.0) now did dids.Added told refl
  told_history pass seen (requests.AddPin pinned) (replies.AddPin given (Err e)) h told is =
      tells_same old.database.history new.database.history (ap (λ (p : PortsValue). p.database.history) h.0) now did (dids.NotAdded e) told refl
  told_history pass seen (requests.Unpin stamp) (replies.Unpin (Ok unpinned)) h told is =
      tells_same old.database.history new.database.history (ap (λ (p : PortsValue). p.database.history) h.0) now did dids.Unpinned told refl
  told_history pass seen (requests.Unpin stamp) (replies.Unpin (Err e)) h told is =
      tells_same old.database.history new.database.history (ap (λ (p : PortsValue). p.database.history) h.0) now did (dids.Refused e) told refl
  told_history pass seen (requests.Lookup node key lo hi) (replies.Lookup (Some hit)) h told is =
      tells_same old.database.history new.database.history (led_history node _ h) now did (dids.Hit hit.answer.reach) told refl
  told_history pass seen (requests.Lookup node key lo hi) (replies.Lookup None) h told is =
      tells_same old.database.history new.database.history (led_history node _ h) now did dids.Miss told refl
  told_history pass seen (requests.Query query stamp) (replies.Query (Ok found)) h told is =
      tells_same old.database.history new.database.history (ap (λ (p : PortsValue). p.database.history) h.0) now did (dids.Rows told.0) told.1 refl
  told_history pass seen (requests.Query query stamp) (replies.Query (Err e)) h told is =
      tells_same old.database.history new.database.history (ap (λ (p : PortsValue). p.database.history) h.0) now did (dids.Refused e) told refl
  told_history pass seen (requests.Insert node entry) (replies.Insert (Some (kepts.Stored reach))) h told is =
      tells_same old.database.history new.database.history (led_history node _ h.2) now did (dids.Stored reach) told refl
  told_history pass seen (requests.Insert node entry) (replies.Insert (Some kepts.Earlier)) h told is =
      tells_same old.database.history new.database.history (led_history node _ h.2) now did dids.Kept told refl
  told_history pass seen (requests.Insert node entry) (replies.Insert None) h told is =
      tells_same old.database.history new.database.history (led_history node _ h.2) now did dids.Dropped told refl
  told_history pass seen request reply h told is = absurd h
