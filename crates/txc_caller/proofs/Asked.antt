-- What comes of a transaction's requests at the plain ports.
use Rattle.std.proofs.Common.{◌≡◌, ◌∙◌, ◌⊎◌, ◌+◌, ◌-◌, ◌≤◌, inl, inr, ℕ, length, Result, Ok, Err, Option, Some, None, refl, subst, sym, true, ap}
use Rattle.std.specs.Prelude.{IfErr, IfOk, IfSome, IsOk, OnErr, OnOk}
use Rattle.std.specs.Option.{option_map}
use Rattle.std.proofs.lemmas.List.{length_push}
use Rattle.std.specs.Result.{result_unwrap_or}
use Rattle.txc_stream.specs.Names.{Name, HasRow}
use Rattle.txc_tags.specs.Keys.{Call}
use Rattle.txc_rows.specs.declared.query.Query.{Query}
use Rattle.txc_validity.specs.declared.answer.Found.{Found}
use Rattle.txc_db.specs.declared.answered.Answered.{Answered}
use Rattle.txc_db.specs.declared.error.DbError.{DbError}
use Rattle.txc_db.specs.declared.error.DbError.TheVariants as dberrors
use Rattle.txc_db.specs.declared.pinned.Pinned.{Pinned}
use Rattle.txc_db.specs.Calls.{IsLeft, IsPinnable, IsPinRefused, IsUnpinRefused}
use Rattle.txc_db.specs.DatabaseValue.{DatabaseValue, after_pin, after_unpin, front_of, is_held, newest}
use mathlib.Core.List.{IsPrefix}
use Rattle.txc_stream.proofs.Offered.{prefix_push}
use Rattle.txc_db.specs.History.{History, pin_event}
use Rattle.txc_db.specs.FrontsAndFeeds.{FrontValue}
use Rattle.txc_node.specs.declared.entry.Entry.{Entry}
use Rattle.txc_node.specs.declared.hit.HitValue.{HitValue}
use Rattle.txc_node.specs.declared.op.Op.{Op}
use Rattle.txc_node.specs.Cache.{lookup_answer, swept_count, trimmed_count}
use Rattle.txc_node.specs.declared.op.Op.TheVariants.{Insert, Lookup, Sweep, Trim}
use Rattle.txc_cushion.specs.declared.error.AddError.{AddError}
use Rattle.txc_cushion.specs.Cushion.{CushionValue, after_add}
use Rattle.txc_cushion.specs.Refusals.{IsAddRefused}
use Rattle.txc_app.specs.Claims.{IsTrueIn, entry_shown}
use Rattle.txc_app.specs.Eval.{Next}
use Rattle.txc_shared.specs.declared.error.NodeError.{NodeError}
use Rattle.txc_shared.specs.declared.error.NodeError.TheVariants as errors
use Rattle.txc_shared.specs.Nodes.{NodeValue, after_call, seeing}
use Rattle.txc_shared.specs.Refusals.{IsLookupRefused, IsNodeLeft, IsStepRefused}
use Rattle.txc_txn_ports.specs.declared.kept.Kept.{Kept}
use Rattle.txc_txn_ports.specs.declared.request.PortRequest.{PortRequest}
use Rattle.txc_txn_ports.specs.declared.request.PortRequest.TheVariants as requests
use Rattle.txc_txn_ports.specs.declared.reply.PortReply.{PortReply}
use Rattle.txc_txn_ports.specs.declared.reply.PortReply.TheVariants as replies
use Rattle.txc_txn_ports.proofs.Options.{for_none, for_this}
use Rattle.txc_caller.proofs.Letting.{grown_by, grown_same}
use Rattle.txc_caller.specs.Budgets.{node_bytes, HasComeWithin, HasMadeRoomFor, IsInBudget}
use Rattle.txc_caller.specs.Ports.{CallerPorts, AreCallerPorts, CallerAddTransition, CallerFindTransition, HasAskedPorts, HasGrownDatabase, CallerInsertTransition, KeepsNode, CallerLookupTransition, CallerPinTransition, CallerSweepTransition, CallerTrimTransition, CallerUnpinTransition}

-- ---- the node

-- only its steps are others
abbrev pub ChangesBySteps : NodeValue → NodeValue → Type 0
ChangesBySteps old new = new ≡ record old { records = new.records; cache = new.cache; seen = new.seen; broken = new.broken }

pub changes_so : (old mid new : NodeValue) → new ≡ mid → ChangesBySteps old mid → ChangesBySteps old new
changes_so old mid new is changes = subst (ChangesBySteps old) (sym is) changes

pub node_same : (old new : NodeValue) → new ≡ old → KeepsNode old new
node_same old new is = record {
  row = ap (λ (n : NodeValue). n.seen.events) is;
  same = changes_so old old new is refl;
  whole = λ none. ap (λ (n : NodeValue). n.broken) is;
}

pub node_after : (old new : NodeValue) (op : Op) → new ≡ after_call old 0 op → KeepsNode old new
node_after old new op is = record {
  row = ap (λ (n : NodeValue). n.seen.events) is;
  same = changes_so old (after_call old 0 op) new is refl;
  whole = λ none. ap (λ (n : NodeValue). n.broken) is;
}

-- where it refuses as broken: it was so, or its records are stored
abbrev pub MayBreak : NodeValue → NodeError → Type 0
MayBreak n errors.Broken = (n.broken ≡ true) ⊎ HasRow n.name
MayBreak n e = Unit {0}

pub step_breaks : (n : NodeValue) (e : NodeError) → IsStepRefused n e → MayBreak n e
step_breaks n errors.Broken (inl was) = inl was
step_breaks n errors.Broken (inr may) = inr may.in_row
step_breaks n e refused = tt

pub lookup_breaks : (n : NodeValue) (lo hi : ℕ) (e : NodeError) → IsLookupRefused n lo hi e → MayBreak n e
lookup_breaks n lo hi errors.Broken (inl was) = inl was
lookup_breaks n lo hi errors.Broken (inr may) = inr may.0.in_row
lookup_breaks n lo hi e refused = tt

pub node_left : (old new : NodeValue) (e : NodeError) → MayBreak old e → IsNodeLeft old new e → KeepsNode old new
node_left old new errors.Broken may (inl same) = node_same old new same.0
node_left old new errors.Broken may (inr broke) = record {
  row = broke.events;
  same = changes_so old (record old { cache = new.cache; seen = new.seen; broken = true }) new broke.is refl;
  whole = λ none. breaks may none;
}
  where
    breaks : (old.broken ≡ true) ⊎ HasRow old.name → ¬ (HasRow old.name) → new.broken ≡ old.broken
    breaks (inl was) none = ap (λ (n : NodeValue). n.broken) broke.is ∙ sym was
    breaks (inr stored) none = absurd (none stored)
node_left old new e may same = node_same old new same

-- a sweep, by what it returns
pub swept : (old new : NodeValue) (horizon : ℕ) (r : Result ℕ NodeError) → OnOk r (new ≡ after_call old 0 (Sweep horizon)) → IfOk r (λ count. count ≡ swept_count old.cache horizon)
    → IfErr r (IsStepRefused old) → IfErr r (IsNodeLeft old new) → CallerSweepTransition horizon old new r
swept old new horizon (Ok count) after answer refused left = (after, answer)
swept old new horizon (Err e) after answer refused left = (refused, left)

pub node_swept : (old new : NodeValue) (horizon : ℕ) (r : Result ℕ NodeError) → CallerSweepTransition horizon old new r → KeepsNode old new
node_swept old new horizon (Ok count) transition = node_after old new (Sweep horizon) transition.0
node_swept old new horizon (Err e) transition = node_left old new e (step_breaks old e transition.0) transition.1

-- a trim, by what it returns
pub trimmed : (old new : NodeValue) (most : ℕ) (r : Result ℕ NodeError) → OnOk r (new ≡ after_call old 0 (Trim most)) → IfOk r (λ count. count ≡ trimmed_count old.cache most)
    → IfErr r (IsStepRefused old) → IfErr r (IsNodeLeft old new) → CallerTrimTransition most old new r
trimmed old new most (Ok count) after answer refused left = (after, answer)
trimmed old new most (Err e) after answer refused left = (refused, left)

pub node_looked_up : (old new : NodeValue) (key : Call) (lo hi : ℕ) (hit : Option (Answered HitValue)) → CallerLookupTransition key lo hi old new hit → KeepsNode old new
node_looked_up old new key lo hi (Some hit) transition = node_after old new (Lookup key lo hi) transition.0
node_looked_up old new key lo hi None (inl transition) = node_after old new (Lookup key lo hi) transition.0
node_looked_up old new key lo hi None (inr refused) = node_left old new refused.0 (lookup_breaks old lo hi refused.0 refused.1) refused.2

pub node_then : (old mid new : NodeValue) → KeepsNode old mid → KeepsNode mid new → KeepsNode old new
node_then old mid new a b = record {
  row = b.row ∙ a.row;
  same = b.same ∙ ap (λ (n : NodeValue). record n { records = new.records; cache = new.cache; seen = new.seen; broken = new.broken }) a.same;
  whole = λ none. b.whole (λ has. none (subst HasRow (ap (λ (n : NodeValue). n.name) a.same) has)) ∙ a.whole none;
}

come_keeps : (most : ℕ) (old new : NodeValue) → HasComeWithin most old new → KeepsNode old new
come_keeps most old new (inl h) = node_same old new h.1
come_keeps most old new (inr h) = node_after old new (Trim most) h.1

pub room_keeps : (budget : Option ℕ) (len : ℕ) (old new : NodeValue) → HasMadeRoomFor budget len old new → KeepsNode old new
room_keeps (Some most) len old new h = come_keeps (most - len) old new h
room_keeps None len old new h = node_same old new h

may_room_keeps : (budget : Option ℕ) (len : ℕ) (old new : NodeValue) → (new ≡ old) ⊎ HasMadeRoomFor budget len old new → KeepsNode old new
may_room_keeps budget len old new (inl same) = node_same old new same
may_room_keeps budget len old new (inr room) = room_keeps budget len old new room

pub node_inserted : (budget : Option ℕ) (old new : NodeValue) (seen : FrontValue) (entry : Entry) (kept : Option Kept) → CallerInsertTransition budget seen entry old new kept
    → KeepsNode old new
node_inserted budget old new seen entry (Some kept) has = node_then old has.mid new (room_keeps budget (length entry.value) old has.mid has.room) (record {
  row = has.taken.longer.events;
  same = changes_so has.mid (after_call (seeing has.mid new.seen) 0 (Insert entry)) new has.taken.after refl;
  whole = λ none. ap (λ (n : NodeValue). n.broken) has.taken.after;
})
node_inserted budget old new seen entry None (inl declined) = node_same old new declined.same
node_inserted budget old new seen entry None (inr refused) =
    node_then old refused.mid new (may_room_keeps budget (length entry.value) old refused.mid refused.room)
    (node_left refused.mid new refused.refused.0 (step_breaks refused.mid refused.refused.0 refused.refused.1) refused.refused.2)

-- the ports with the node after such a step
pub ports_with_node : (p : CallerPorts) (node : NodeValue) → AreCallerPorts p → KeepsNode p.node node → IsInBudget p.budget (node_bytes node)
    → AreCallerPorts (record p { node = node })
ports_with_node p node are keeps within = record {
  cushion = are.cushion;
  node = keeps.row ∙ are.node;
  pass = ap (λ (n : NodeValue). n.passes) keeps.same ∙ are.pass;
  unstored = λ has. are.unstored (subst HasRow (ap (λ (n : NodeValue). n.name) keeps.same) has);
  whole = keeps.whole are.unstored ∙ are.whole;
  within = within;
}

-- a lookup, by what it returns
pub looked_up : (key : Call) (lo hi : ℕ) (old new : NodeValue) (r : Result (Option (Answered HitValue)) NodeError)
    → OnOk r (new ≡ after_call old 0 (Lookup key lo hi)) → IfOk r (λ o. option_map (λ f. f.answer) o ≡ lookup_answer old.cache key lo hi)
    → IfOk r (λ o. IfSome o (λ f. f.front ≡ old.seen)) → IfErr r (IsNodeLeft old new) → IfErr r (IsLookupRefused old lo hi)
    → CallerLookupTransition key lo hi old new (result_unwrap_or r None)
looked_up key lo hi old new (Ok (Some hit)) after answer front left refused = (after, sym answer, front)
looked_up key lo hi old new (Ok None) after answer front left refused = inl (after, sym answer)
looked_up key lo hi old new (Err e) after answer front left refused = inr (e, refused, left)

-- what a hit shows is of the row
pub hit_row : (old new : NodeValue) (key : Call) (lo hi : ℕ) (hit : Option (Answered HitValue)) (row : Name) → old.seen.events ≡ row → CallerLookupTransition key lo hi old new hit
    → IfSome hit (λ h. h.front.events ≡ row)
hit_row old new key lo hi (Some hit) row is transition = ap (λ (f : FrontValue). f.events) transition.2 ∙ is
hit_row old new key lo hi None row is transition = tt

-- a pin, an addition and a hold that is taken away, by what they return
pub pinned_so : (now at_least : ℕ) (p : CallerPorts) (d : DatabaseValue) (r : Result Pinned DbError) → OnOk r (d ≡ after_pin p.database now) → IfOk r (λ pinned. pinned.stamp ≡ newest d)
    → IfOk r (λ pinned. pinned.moment ≡ now) → IfOk r (λ pinned. pinned.front ≡ front_of d) → (IsOk r → IsPinnable p.database at_least) → IfErr r (IsLeft p.database d)
    → IfErr r (IsPinRefused p.database at_least) → CallerPinTransition now at_least p (record p { database = d }) r
pinned_so now at_least p d (Ok pinned) after stamp moment front only_if left refused =
    let next : pinned.stamp ≡ newest p.database + 1 = stamp ∙ (ap newest after ∙ length_push p.database.history (pin_event now)) in
    record {
      after = ap (λ (v : DatabaseValue). record p { database = v }) after;
      stamp = stamp;
      moment = moment;
      late = subst (λ (n : ℕ). at_least ≤ n) (sym next) (only_if refl).late;
      front = front;
      shown = pinned.shows;
    }
pinned_so now at_least p d (Err e) after stamp moment front only_if left refused = record { is = refl; left = left; refused = refused }

pub left_grown : (old new : DatabaseValue) (e : DbError) → IsLeft old new e → HasGrownDatabase old new
left_grown old new dberrors.Broken (inl same) = grown_same old new same.0
left_grown old new dberrors.Broken (inr broke) = grown_by old new broke.events broke.history
left_grown old new e left = grown_same old new left

pub pinned_grown : (now : ℕ) (old new : DatabaseValue) (r : Result Pinned DbError) → OnOk r (new ≡ after_pin old now) → IfErr r (IsLeft old new) → HasGrownDatabase old new
pinned_grown now old new (Ok pinned) after left = record {
  events = ap (λ (d : DatabaseValue). d.events) after;
  longer = subst (λ (L : History). IsPrefix old.history L) (sym (ap (λ (d : DatabaseValue). d.history) after)) (prefix_push old.history (pin_event now));
}
pinned_grown now old new (Err e) after left = left_grown old new e left

pub added_so : (pinned : Pinned) (p : CallerPorts) (cushion : CushionValue) (r : Result (Unit {0}) AddError) → OnOk r (cushion ≡ after_add p.cushion pinned)
    → OnErr r (cushion ≡ p.cushion) → IfErr r (IsAddRefused p.cushion pinned.stamp) → CallerAddTransition pinned p (record p { cushion = cushion }) r
added_so pinned p cushion (Ok added) after unchanged refused = ap (λ (c : CushionValue). record p { cushion = c }) after
added_so pinned p cushion (Err e) after unchanged refused = (ap (λ (c : CushionValue). record p { cushion = c }) unchanged, refused)

pub unpinned_so : (stamp : ℕ) (p : CallerPorts) (d : DatabaseValue) (r : Result (Unit {0}) DbError) → OnOk r (d ≡ after_unpin p.database stamp)
    → (IsOk r → is_held stamp p.database.holds ≡ true) → OnErr r (d ≡ p.database) → IfErr r (IsUnpinRefused p.database stamp) → CallerUnpinTransition stamp p (record p { database = d }) r
unpinned_so stamp p d (Ok unpinned) after only_if unchanged refused = (ap (λ (v : DatabaseValue). record p { database = v }) after, only_if refl)
unpinned_so stamp p d (Err e) after only_if unchanged refused = (ap (λ (v : DatabaseValue). record p { database = v }) unchanged, refused)

-- ---- requests

-- the same of what the request and the ports were
pub asked_so : (next : Next) (seen : FrontValue) (request asked : PortRequest) (old was new : CallerPorts) (reply : PortReply) → request ≡ asked → was ≡ old
    → HasAskedPorts next seen asked was new reply → HasAskedPorts next seen request old new reply
asked_so next seen request asked old was new reply is same h =
    subst (λ (r : PortRequest). HasAskedPorts next seen r old new reply) (sym is) (subst (λ (p : CallerPorts). HasAskedPorts next seen asked p new reply) same h)

module _ (next : Next) (seen : FrontValue) (old new : CallerPorts) where
  pub asked_pin : (now at_least : ℕ) (pinned : Result Pinned DbError) → HasGrownDatabase old.database new.database → CallerPinTransition now at_least old new pinned
      → HasAskedPorts next seen (requests.Pin now at_least) old new (replies.Pin pinned)
  asked_pin now at_least (Ok pinned) grown h = record {
    answer = (h.moment, h.late, h.shown);
    row = for_this (λ (f : FrontValue). f.events ≡ old.database.events) pinned.front (ap (λ (f : FrontValue). f.events) h.front ∙ grown.events);
    transition = h;
    grown = grown;
  }
  asked_pin now at_least (Err e) grown h = record {
    answer = tt;
    row = for_none (λ (f : FrontValue). f.events ≡ old.database.events);
    transition = h;
    grown = grown;
  }

  pub asked_add : (pinned : Pinned) (added : Result (Unit {0}) AddError) → pinned.front.events ≡ old.database.events → new ≡ record old { cushion = new.cushion }
      → CallerAddTransition pinned old new added → HasAskedPorts next seen (requests.AddPin pinned) old new (replies.AddPin pinned added)
  asked_add pinned added of same h = record {
    answer = refl;
    row = for_this (λ (f : FrontValue). f.events ≡ old.database.events) pinned.front of;
    transition = h;
    grown = grown_same old.database new.database (ap (λ (p : CallerPorts). p.database) same);
  }

  pub asked_unpin : (stamp : ℕ) (unpinned : Result (Unit {0}) DbError) → HasGrownDatabase old.database new.database → CallerUnpinTransition stamp old new unpinned
      → HasAskedPorts next seen (requests.Unpin stamp) old new (replies.Unpin unpinned)
  asked_unpin stamp unpinned grown h = record {
    answer = tt;
    row = for_none (λ (f : FrontValue). f.events ≡ old.database.events);
    transition = h;
    grown = grown;
  }

  pub asked_lookup : (node : ℕ) (key : Call) (lo hi : ℕ) (hit : Option (Answered HitValue)) → new ≡ record old { node = new.node }
      → CallerLookupTransition key lo hi old.node new.node hit → IfSome hit (λ h. IsTrueIn next h.front.history (entry_shown key h.answer))
      → IfSome hit (λ h. h.front.events ≡ old.database.events) → HasAskedPorts next seen (requests.Lookup node key lo hi) old new (replies.Lookup hit)
  asked_lookup node key lo hi (Some hit) same h right of = record {
    answer = right;
    row = for_this (λ (f : FrontValue). f.events ≡ old.database.events) hit.front of;
    transition = (same, h);
    grown = grown_same old.database new.database (ap (λ (p : CallerPorts). p.database) same);
  }
  asked_lookup node key lo hi None same h right of = record {
    answer = tt;
    row = for_none (λ (f : FrontValue). f.events ≡ old.database.events);
    transition = (same, h);
    grown = grown_same old.database new.database (ap (λ (p : CallerPorts). p.database) same);
  }

  pub asked_query : (query : Query) (stamp : ℕ) (found : Result (Answered Found) DbError) → new ≡ old → CallerFindTransition query stamp old.database found
      → HasAskedPorts next seen (requests.Query query stamp) old new (replies.Query found)
  asked_query query stamp (Ok found) same h = record {
    answer = h.over;
    row = for_this (λ (f : FrontValue). f.events ≡ old.database.events) found.front (ap (λ (f : FrontValue). f.events) h.front);
    transition = (same, h);
    grown = grown_same old.database new.database (ap (λ (p : CallerPorts). p.database) same);
  }
  asked_query query stamp (Err e) same h = record {
    answer = tt;
    row = for_none (λ (f : FrontValue). f.events ≡ old.database.events);
    transition = (same, h);
    grown = grown_same old.database new.database (ap (λ (p : CallerPorts). p.database) same);
  }

  pub asked_insert : (node : ℕ) (entry : Entry) (kept : Option Kept) → new ≡ record old { node = new.node }
      → CallerInsertTransition old.budget seen entry old.node new.node kept → HasAskedPorts next seen (requests.Insert node entry) old new (replies.Insert kept)
  asked_insert node entry kept same h = record {
    answer = tt;
    row = for_none (λ (f : FrontValue). f.events ≡ old.database.events);
    transition = (same, h);
    grown = grown_same old.database new.database (ap (λ (p : CallerPorts). p.database) same);
  }
