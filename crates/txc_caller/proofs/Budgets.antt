-- The bytes of a node's values, as it makes steps.
use Rattle.std.proofs.Common.{◌≡◌, ◌∙◌, ◌⊎◌, ◌+◌, ◌-◌, ◌≤◌, ℕ, Bool, true, false, cond, List, [], ◌∷◌, length, map, take, Option, Some, None, Result, Ok, Err, inl, inr, refl, ap, subst, sym, arith, suc, zero}
use Rattle.std.specs.Prelude.{not}
use Rattle.std.specs.List.{filter, find}
use Rattle.std.proofs.lemmas.Bool.Decides.{nat_tests}
use Rattle.txc_tags.specs.declared.tag.Tag.{Tag}
use Rattle.txc_tags.specs.Keys.{Call}
use Rattle.txc_stream.specs.Names.{HasRow}
use Rattle.txc_stamp.specs.Interval.{closed_at}
use Rattle.txc_db.specs.FrontsAndFeeds.{FrontValue}
use Rattle.txc_db.specs.declared.answered.Answered.{Answered}
use Rattle.txc_node.specs.declared.entry.Entry.{Entry}
use Rattle.txc_node.specs.declared.hit.HitValue.{HitValue}
use Rattle.txc_node.specs.declared.op.Op.TheVariants.{Lookup}
use Rattle.txc_node.specs.Entries.{is_best, others, same_place}
use Rattle.txc_node.specs.Cache.{after_event, after_insert, after_lookup, after_sweep, after_trim, after_use, bytes_of, entries_with, entry_after, found, has_ended, is_invalidated, is_kept, replayed_entry, staying_count, Cache}
use Rattle.txc_node.proofs.Apart.{same_place_self}
use Rattle.txc_node.proofs.Trims.{trim_keeps_the_first}
use Rattle.txc_node.proofs.Weights.{bytes_more}
use Rattle.txc_shared.specs.Nodes.{after_call, NodeValue}
use Rattle.txc_shared.specs.Refusals.{IsNodeLeft, IsStepRefused}
use Rattle.txc_shared.specs.declared.error.NodeError.{NodeError}
use Rattle.txc_shared.specs.declared.error.NodeError.TheVariants as errors
use Rattle.txc_txn_ports.specs.declared.kept.Kept.{Kept}
use Rattle.txc_caller.specs.Budgets.{node_bytes, fits_alone, HasComeWithin, HasMadeRoomFor, IsInBudget}
use Rattle.txc_caller.specs.Ports.{AreCallerPorts, CallerPorts, CallerInsertTransition, CallerLookupTransition, CallerSweepTransition, CallerTrimTransition, HasRefusedStep}
use Rattle.txc_caller.proofs.Asked.{lookup_breaks, node_inserted, node_looked_up, node_swept, ports_with_node, step_breaks, MayBreak}

-- ---- entries

pub filter_bytes : (p : Entry → Bool) (es : List Entry) → bytes_of (filter p es) ≤ bytes_of es
filter_bytes p [] = omega arith
filter_bytes p (x ∷ xs) =
    let rest = filter_bytes p xs in
    let here = bytes_more x xs in
    let there = bytes_more x (filter p xs) in
    let go : (b : Bool) → bytes_of (cond b (x ∷ filter p xs) (filter p xs)) ≤ bytes_of (x ∷ xs) = λ b. elim b as (λ v. bytes_of (cond v (x ∷ filter p xs) (filter p xs)) ≤ bytes_of (x ∷ xs)) [ true ↦ omega (arith, rest, here, there) | false ↦ omega (arith, rest, here) ] in
    go (p x)

pub take_bytes : (n : ℕ) (es : List Entry) → bytes_of (take n es) ≤ bytes_of es
take_bytes zero es = omega arith
take_bytes (suc n) [] = omega arith
take_bytes (suc n) (x ∷ xs) =
    let rest = take_bytes n xs in
    let here = bytes_more x xs in
    let there = bytes_more x (take n xs) in
    omega (arith, rest, here, there)

-- the entry itself is none of the others
others_here : (x : Entry) (xs : List Entry) → others x (x ∷ xs) ≡ others x xs
others_here x xs = ap (λ b. cond (not b) (x ∷ others x xs) (others x xs)) (same_place_self x)

others_more : (e x : Entry) (xs : List Entry) → bytes_of (others e (x ∷ xs)) ≤ length x.value + bytes_of (others e xs)
others_more e x xs =
    let there = bytes_more x (others e xs) in
    let go : (b : Bool) → bytes_of (cond b (x ∷ others e xs) (others e xs)) ≤ length x.value + bytes_of (others e xs) = λ b. elim b as (λ v. bytes_of (cond v (x ∷ others e xs) (others e xs)) ≤ length x.value + bytes_of (others e xs)) [ true ↦ omega (arith, there) | false ↦ omega arith ] in
    go (not (same_place x e))

found_bytes : (p : Entry → Bool) (es : List Entry) (e : Entry) → find p es ≡ Some e → length e.value + bytes_of (others e es) ≤ bytes_of es
found_bytes p [] e is = let none : None ≡ Some e = is in absurd (cc none)
found_bytes p (x ∷ xs) e is = (elim (p x) as (λ b. cond b (Some x) (find p xs) ≡ Some e → length e.value + bytes_of (others e (x ∷ xs)) ≤ bytes_of (x ∷ xs)) [
  | true ↦ λ t.
      let some : Some x ≡ Some e = t in
      let same : x ≡ e = cc some in
      let few = filter_bytes (λ o. not (same_place o x)) xs in
      let here = bytes_more x xs in
      let less : bytes_of (others x (x ∷ xs)) ≡ bytes_of (others x xs) = ap (λ (es : List Entry). bytes_of es) (others_here x xs) in
      let of : length x.value + bytes_of (others x (x ∷ xs)) ≤ bytes_of (x ∷ xs) = omega (arith, few, here, less) in
      subst (λ (o : Entry). length o.value + bytes_of (others o (x ∷ xs)) ≤ bytes_of (x ∷ xs)) same of
  | false ↦ λ f.
      let rest = found_bytes p xs e f in
      let here = bytes_more x xs in
      let more = others_more e x xs in
      omega (arith, rest, here, more)
]) is

-- ---- caches

pub lookup_bytes : (c : Cache) (key : Call) (lo hi : ℕ) → bytes_of (after_lookup c key lo hi).entries ≤ bytes_of c.entries
lookup_bytes c key lo hi = (elim (found c key lo hi) as (λ o. found c key lo hi ≡ o → bytes_of (after_use c o).entries ≤ bytes_of c.entries) [
  | None ↦ λ is. omega arith
  | Some e ↦ λ is.
      let all = found_bytes (is_best c.processed key lo hi c.entries) c.entries e is in
      let more = bytes_more e (others e c.entries) in
      omega (arith, all, more)
]) refl

pub insert_bytes : (c : Cache) (e : Entry) → bytes_of (after_insert c e).entries ≤ bytes_of c.entries + length e.value
insert_bytes c e = elim (is_kept c e) as (λ b. bytes_of (cond b c (record c { entries = take c.capacity (entries_with c e) })).entries ≤ bytes_of c.entries + length e.value) [
  | true ↦ omega arith
  | false ↦
      let few = take_bytes c.capacity (entries_with c e) in
      let rest = filter_bytes (λ o. not (same_place o e)) c.entries in
      let more = bytes_more (replayed_entry c e) (others e c.entries) in
      omega (arith, few, rest, more)
]

closed_len : (stamp : ℕ) (tags : List Tag) (e : Entry) → length (entry_after stamp tags e).value ≡ length e.value
closed_len stamp tags e = elim (is_invalidated stamp tags e) as (λ b. length (cond b (record e { reach = closed_at (stamp - 1) e.reach }) e).value ≡ length e.value) [ true ↦ refl | false ↦ refl ]

closed_bytes : (stamp : ℕ) (tags : List Tag) (es : List Entry) → bytes_of (map (entry_after stamp tags) es) ≡ bytes_of es
closed_bytes stamp tags [] = refl
closed_bytes stamp tags (x ∷ xs) =
    let rest = closed_bytes stamp tags xs in
    let one = closed_len stamp tags x in
    let here = bytes_more x xs in
    let there = bytes_more (entry_after stamp tags x) (map (entry_after stamp tags) xs) in
    omega (arith, rest, one, here, there)

pub event_bytes : (c : Cache) (stamp : ℕ) (tags : List Tag) → bytes_of (after_event c stamp tags).entries ≡ bytes_of c.entries
event_bytes c stamp tags = closed_bytes stamp tags c.entries

-- ---- what a node leaves that refused

-- if it stores no records, its cache is as it was
pub left_cache : (old new : NodeValue) (e : NodeError) → MayBreak old e → ¬ (HasRow old.name) → IsNodeLeft old new e → new.cache ≡ old.cache
left_cache old new errors.Broken may none (inl same) = ap (λ (n : NodeValue). n.cache) same.0
left_cache old new errors.Broken (inl was) none (inr broke) = let no : true ≡ false = sym was ∙ broke.was in absurd (cc no)
left_cache old new errors.Broken (inr stored) none (inr broke) = absurd (none stored)
left_cache old new e may none same = ap (λ (n : NodeValue). n.cache) same

pub left_bytes : (old new : NodeValue) (e : NodeError) → IsStepRefused old e → ¬ (HasRow old.name) → IsNodeLeft old new e → node_bytes new ≡ node_bytes old
left_bytes old new e refused none left = ap (λ (c : Cache). bytes_of c.entries) (left_cache old new e (step_breaks old e refused) none left)

-- ---- the budget

pub within_less : (budget : Option ℕ) (more less : ℕ) → less ≤ more → IsInBudget budget more → IsInBudget budget less
within_less None more less l h = tt
within_less (Some most) more less l h = omega (arith, l, h)

pub within_same : (budget : Option ℕ) (old new : ℕ) → new ≡ old → IsInBudget budget old → IsInBudget budget new
within_same budget old new is h = within_less budget old new (omega (arith, is)) h

refused_step_bytes : (old new : NodeValue) → ¬ (HasRow old.name) → HasRefusedStep old new → node_bytes new ≡ node_bytes old
refused_step_bytes old new none refused = left_bytes old new refused.0 refused.1 none refused.2

pub looked_within : (budget : Option ℕ) (old new : NodeValue) (key : Call) (lo hi : ℕ) (hit : Option (Answered HitValue)) → ¬ (HasRow old.name)
    → CallerLookupTransition key lo hi old new hit → IsInBudget budget (node_bytes old) → IsInBudget budget (node_bytes new)
looked_within budget old new key lo hi hit none transition h = go hit transition
  where
    stepped : new ≡ after_call old 0 (Lookup key lo hi) → bytes_of (after_lookup old.cache key lo hi).entries ≡ node_bytes new → IsInBudget budget (node_bytes new)
    stepped is at = let less = lookup_bytes old.cache key lo hi in within_less budget (node_bytes old) (node_bytes new) (omega (arith, less, at)) h

    go : (o : Option (Answered HitValue)) → CallerLookupTransition key lo hi old new o → IsInBudget budget (node_bytes new)
    go (Some it) l = stepped l.0 (ap (λ (n : NodeValue). node_bytes n) (sym l.0))
    go None (inl l) = stepped l.0 (ap (λ (n : NodeValue). node_bytes n) (sym l.0))
    go None (inr l) =
        within_same budget (node_bytes old) (node_bytes new)
        (ap (λ (c : Cache). bytes_of c.entries) (left_cache old new l.0 (lookup_breaks old lo hi l.0 l.1) none l.2)) h

pub swept_within : (budget : Option ℕ) (old new : NodeValue) (horizon : ℕ) (r : Result ℕ NodeError) → ¬ (HasRow old.name)
    → CallerSweepTransition horizon old new r → IsInBudget budget (node_bytes old) → IsInBudget budget (node_bytes new)
swept_within budget old new horizon (Ok count) none transition h =
    let less = filter_bytes (λ e. not (has_ended old.cache.processed horizon e)) old.cache.entries in
    let at : node_bytes new ≡ bytes_of (after_sweep old.cache horizon).entries = ap (λ (n : NodeValue). node_bytes n) transition.0 in
    within_less budget (node_bytes old) (node_bytes new) (omega (arith, less, at)) h
swept_within budget old new horizon (Err e) none transition h = within_same budget (node_bytes old) (node_bytes new) (left_bytes old new e transition.0 none transition.1) h

pub trimmed_within : (budget : Option ℕ) (old new : NodeValue) (most : ℕ) (r : Result ℕ NodeError) → ¬ (HasRow old.name)
    → CallerTrimTransition most old new r → IsInBudget budget (node_bytes old) → IsInBudget budget (node_bytes new)
trimmed_within budget old new most (Ok count) none transition h =
    let less = take_bytes (staying_count most old.cache.entries) old.cache.entries in
    let at : node_bytes new ≡ bytes_of (after_trim old.cache most).entries = ap (λ (n : NodeValue). node_bytes n) transition.0 in
    within_less budget (node_bytes old) (node_bytes new) (omega (arith, less, at)) h
trimmed_within budget old new most (Err e) none transition h = within_same budget (node_bytes old) (node_bytes new) (left_bytes old new e transition.0 none transition.1) h

-- ---- room for an entry

-- of a node that has come within so many bytes
pub come_within : (most : ℕ) (old new : NodeValue) → HasComeWithin most old new → node_bytes new ≤ most
come_within most old new (inl h) = let at : node_bytes new ≡ node_bytes old = ap (λ (n : NodeValue). node_bytes n) h.1 in let l = h.0 in omega (arith, at, l)
come_within most old new (inr h) =
    let few = (trim_keeps_the_first old.cache most).within in
    let at : node_bytes new ≡ bytes_of (after_trim old.cache most).entries = ap (λ (n : NodeValue). node_bytes n) h.1 in
    omega (arith, few, at)

come_name : (most : ℕ) (old new : NodeValue) → HasComeWithin most old new → new.name ≡ old.name
come_name most old new (inl h) = ap (λ (n : NodeValue). n.name) h.1
come_name most old new (inr h) = ap (λ (n : NodeValue). n.name) h.1

pub room_name : (budget : Option ℕ) (len : ℕ) (old new : NodeValue) → HasMadeRoomFor budget len old new → new.name ≡ old.name
room_name (Some most) len old new h = come_name (most - len) old new h
room_name None len old new h = ap (λ (n : NodeValue). n.name) h

fits_so : (most len : ℕ) → fits_alone (Some most) len ≡ true → len ≤ most
fits_so most len h = grind (arith, nat_tests)

-- the values with the new one are within the budget
room_within : (budget : Option ℕ) (len : ℕ) (old mid : NodeValue) (bytes : ℕ) → fits_alone budget len ≡ true → HasMadeRoomFor budget len old mid
    → bytes ≤ node_bytes mid + len → IsInBudget budget bytes
room_within None len old mid bytes fits room l = tt
room_within (Some most) len old mid bytes fits room l =
    let alone = fits_so most len fits in
    let few = come_within (most - len) old mid room in
    omega (arith, alone, few, l)

-- .. and so are they without it
room_kept : (budget : Option ℕ) (len : ℕ) (old mid : NodeValue) → (mid ≡ old) ⊎ HasMadeRoomFor budget len old mid → IsInBudget budget (node_bytes old)
    → IsInBudget budget (node_bytes mid) × (mid.name ≡ old.name)
room_kept budget len old mid (inl same) h =
    (within_same budget (node_bytes old) (node_bytes mid) (ap (λ (n : NodeValue). node_bytes n) same) h, ap (λ (n : NodeValue). n.name) same)
room_kept None len old mid (inr room) h = (tt, room_name None len old mid room)
room_kept (Some most) len old mid (inr room) h =
    let few = come_within (most - len) old mid room in
    (omega (arith, few), room_name (Some most) len old mid room)

pub inserted_within : (budget : Option ℕ) (old new : NodeValue) (seen : FrontValue) (entry : Entry) (kept : Option Kept) → ¬ (HasRow old.name)
    → CallerInsertTransition budget seen entry old new kept → IsInBudget budget (node_bytes old) → IsInBudget budget (node_bytes new)
inserted_within budget old new seen entry (Some kept) none has h =
    let more = insert_bytes has.mid.cache entry in
    let at : node_bytes new ≡ bytes_of (after_insert has.mid.cache entry).entries = ap (λ (n : NodeValue). node_bytes n) has.taken.after in
    room_within budget (length entry.value) old has.mid (node_bytes new) has.fits has.room (omega (arith, more, at))
inserted_within budget old new seen entry None none (inl declined) h =
    within_same budget (node_bytes old) (node_bytes new) (ap (λ (n : NodeValue). node_bytes n) declined.same) h
inserted_within budget old new seen entry None none (inr refused) h =
    let room = room_kept budget (length entry.value) old refused.mid refused.room h in
    within_same budget (node_bytes refused.mid) (node_bytes new)
    (refused_step_bytes refused.mid new (λ has. none (subst HasRow room.1 has)) refused.refused) room.0

-- ---- the ports

pub looked_ports : (p : CallerPorts) (node : NodeValue) (key : Call) (lo hi : ℕ) (hit : Option (Answered HitValue)) → AreCallerPorts p
    → CallerLookupTransition key lo hi p.node node hit → AreCallerPorts (record p { node = node })
looked_ports p node key lo hi hit are transition =
    ports_with_node p node are (node_looked_up p.node node key lo hi hit transition) (looked_within p.budget p.node node key lo hi hit are.unstored transition are.within)

pub swept_ports : (p : CallerPorts) (node : NodeValue) (horizon : ℕ) (r : Result ℕ NodeError) → AreCallerPorts p → CallerSweepTransition horizon p.node node r
    → AreCallerPorts (record p { node = node })
swept_ports p node horizon r are transition =
    ports_with_node p node are (node_swept p.node node horizon r transition) (swept_within p.budget p.node node horizon r are.unstored transition are.within)

pub inserted_ports : (p : CallerPorts) (node : NodeValue) (seen : FrontValue) (entry : Entry) (kept : Option Kept) → AreCallerPorts p
    → CallerInsertTransition p.budget seen entry p.node node kept → AreCallerPorts (record p { node = node })
inserted_ports p node seen entry kept are transition =
    ports_with_node p node are (node_inserted p.budget p.node node seen entry kept transition) (inserted_within p.budget p.node node seen entry kept are.unstored transition are.within)
