-- What an insertion leaves, from what its parts leave.
use Rattle.std.proofs.Common.{◌≡◌, ℕ, ◌+◌, ◌-◌, ◌≤◌, Bool, true, false, not, ◌&&◌, eqb, ltb, suc, cond, List, [], ◌∷◌, length, get_or, take, drop, Option, Some, None, refl, subst, sym, ap, ◌∙◌, arith}
use Rattle.std.specs.Prelude.{slice_get}
use Rattle.std.specs.List.{AllByRecursion, filter, find, position, prefix_len, remove}
use Rattle.std.proofs.lemmas.Bool.Decides.{nat_tests, Decides-eqb}
use Rattle.std.proofs.lemmas.List.Edits.{length-remove}
use Rattle.std.proofs.lemmas.List.Quantifiers.{position-Some}
use Rattle.std.proofs.lemmas.List.Recursion.{found_at}
use Rattle.std.proofs.lemmas.Option.{slice_get_past}
use Rattle.txc_node.specs.declared.entry.Entry.{Entry}
use Rattle.txc_stamp.specs.Interval.{Interval, shown, closed_at}
use Rattle.txc_tags.specs.Keys.{Call, same_call}
use Rattle.txc_tags.proofs.Offered.{same_call_is, both_true}
use Rattle.txc_tags.specs.Tags.{sets_match}
use Rattle.txc_tags.specs.declared.tag.Tag.{Tag}
use Rattle.txc_node.specs.declared.node.Inserted.TheVariants.{Stored, Kept}
use Rattle.txc_node.specs.Cache.{Cache, outcome, evicted_entry, reach_after_replay, replayed_reach, closed_before, is_kept, entries_with, after_insert}
use Rattle.txc_node.specs.Entries.{same_place, others, AreApart}
use Rattle.txc_node.proofs.Apart.{remove_is_others, first_apart, take_apart}

-- entries at the place of one stand at the place of the other
pub same_place_like : (x e o : Entry) → same_place x e ≡ true → same_place o x ≡ same_place o e
same_place_like x e o h =
    let p = both_true (same_call x.key e.key) (eqb x.reach.lo e.reach.lo) h in
    let k : x.key ≡ e.key = same_call_is x.key e.key p.0 in
    let l : x.reach.lo ≡ e.reach.lo = (Decides-eqb x.reach.lo e.reach.lo).0 p.1 in
    ap (λ (c : Call). same_call o.key c && eqb o.reach.lo x.reach.lo) k ∙ ap (λ (n : ℕ). same_call o.key e.key && eqb o.reach.lo n) l

pub filter_same : (p q : Entry → Bool) → ((o : Entry) → p o ≡ q o) → (es : List Entry) → filter p es ≡ filter q es
filter_same p q h [] = refl
filter_same p q h (e ∷ es) = rw (h e, filter_same p q h es)

pub others_like : (x e : Entry) (es : List Entry) → same_place x e ≡ true → others x es ≡ others e es
others_like x e es h = filter_same (λ o. not (same_place o x)) (λ o. not (same_place o e)) (λ o. ap not (same_place_like x e o h)) es

-- ---- where it stands

nowhere : {X : Type 0} (p : X → Bool) (es : List X) → length es ≤ prefix_len (λ o. not (p o)) es → AllByRecursion (λ o. p o ≡ false) es
nowhere p [] h = tt
nowhere p (e ∷ es) h =
    let rest = prefix_len (λ o. not (p o)) es in
    let go : (b : Bool) → p e ≡ b → suc (length es) ≤ cond (not b) (1 + rest) 0 → AllByRecursion (λ o. p o ≡ false) (e ∷ es) = λ b. elim b as (λ v. p e ≡ v → suc (length es) ≤ cond (not v) (1 + rest) 0 → AllByRecursion (λ o. p o ≡ false) (e ∷ es)) [ true ↦ (λ _ l. absurd (omega arith)) | false ↦ (λ k l. (k, nowhere p es (omega arith))) ] in
    let l : suc (length es) ≤ cond (not (p e)) (1 + rest) 0 = h in
    go (p e) refl (omega (arith, l))

pub at_end : (a b : ℕ) → cond (ltb a b) (Some a) None ≡ None → b ≤ a
at_end a b h = grind (arith, nat_tests)

pub position_none : {X : Type 0} (p : X → Bool) (es : List X) → position p es ≡ None → AllByRecursion (λ o. p o ≡ false) es
position_none p es h = nowhere p es (at_end (prefix_len (λ o. not (p o)) es) (length es) h)

pub find_none : (p : Entry → Bool) (es : List Entry) → AllByRecursion (λ o. p o ≡ false) es → find p es ≡ None
find_none p [] h = refl
find_none p (e ∷ es) h = rw h.0 (find_none p es h.1)

pub find_at : (p : Entry → Bool) (es : List Entry) (i : ℕ) (d : Entry) → position p es ≡ Some i → find p es ≡ Some (get_or es i d)
find_at p es i d h =
    let k = position-Some p es i d h in
    found_at (find p) p (λ x. Some x) None refl (λ _ _. refl) es i d k.0 k.2 k.1

pub others_none : (e : Entry) (es : List Entry) → AllByRecursion (λ o. same_place o e ≡ false) es → others e es ≡ es
others_none e [] h = refl
others_none e (x ∷ es) h = rw (h.0, others_none e es h.1)

-- ---- in place of the one that stands there

pub replaced : (e : Entry) (es : List Entry) (i : ℕ) (d : Entry) → AreApart es → position (λ o. same_place o e) es ≡ Some i → remove es i ≡ others e es
replaced e es i d h p =
    let k = position-Some (λ o. same_place o e) es i d p in
    remove_is_others es i d k.0 h ∙ others_like (get_or es i d) e es k.1

-- ---- the new list, as it is cut to the capacity

pub there_none : (capacity : ℕ) (f e : Entry) (es : List Entry) (i : ℕ) → AreApart es → position (λ o. same_place o e) es ≡ Some i → length es ≤ capacity → None ≡ slice_get (f ∷ others e es) capacity
there_none capacity f e es i h p w =
    let l = position-Some (λ o. same_place o e) es i e p in
    sym (ap (λ xs. slice_get (f ∷ xs) capacity) (sym (replaced e es i e h p)) ∙ slice_get_past (f ∷ remove es i) capacity (omega (arith, length-remove es i l.0)))

pub elsewhere : (e : Entry) (es : List Entry) → position (λ o. same_place o e) es ≡ None → others e es ≡ es
elsewhere e es p = others_none e es (position_none (λ o. same_place o e) es p)

-- ---- the state and the answer

pub replay_lo : (i : Interval) (tags : List Tag) (p : ℕ) (recent : List (List Tag)) → (reach_after_replay i tags p recent).lo ≡ i.lo
replay_lo i tags p recent =
    let missed = p - i.known in
    let last : (o : Option ℕ) → (closed_before o i).lo ≡ i.lo = λ o. elim o as (λ v. (closed_before v i).lo ≡ i.lo) [ None ↦ refl | Some k ↦ refl ] in
    let o = position (λ t. sets_match t tags) (drop (length recent - missed) recent) in
    let mid : (b : Bool) → (cond b (closed_at i.known i) (closed_before o i)).lo ≡ i.lo = λ b. elim b as (λ v. (cond v (closed_at i.known i) (closed_before o i)).lo ≡ i.lo) [ true ↦ refl | false ↦ last o ] in
    let top : (b : Bool) → (cond b (cond (ltb (length recent) missed) (closed_at i.known i) (closed_before o i)) i).lo ≡ i.lo = λ b. elim b as (λ v. (cond v (cond (ltb (length recent) missed) (closed_at i.known i) (closed_before o i)) i).lo ≡ i.lo) [ true ↦ mid (ltb (length recent) missed) | false ↦ refl ] in
    top i.still

-- the place of an entry is that of the entry after the replay
pub place_moved : (e : Entry) (i : Interval) (o : Entry) → i.lo ≡ e.reach.lo → (let f : Entry = record e { reach = i } in same_place o f ≡ same_place o e)
place_moved e i o h = ap (λ l. same_call o.key e.key && eqb o.reach.lo l) h

pub cut_apart : (capacity : ℕ) (e : Entry) (i : Interval) (es : List Entry) → i.lo ≡ e.reach.lo → AreApart es → (let f : Entry = record e { reach = i } in AreApart (take capacity (f ∷ others e es)))
cut_apart capacity e i es l h =
    let f : Entry = record e { reach = i } in
    let same : others f es ≡ others e es = filter_same (λ o. not (same_place o f)) (λ o. not (same_place o e)) (λ o. ap not (place_moved e i o l)) es in
    take_apart capacity (f ∷ others e es) (subst (λ xs. AreApart (f ∷ xs)) same (first_apart f es h))

pub kept_state : (c : Cache) (e : Entry) → is_kept c e ≡ true → (c ≡ after_insert c e) × (Kept e ≡ outcome c e)
kept_state c e h = (sym (ap (λ b. cond b c (record c { entries = take c.capacity (entries_with c e) })) h), sym (ap (λ b. cond b (Kept e) (Stored (shown c.processed (replayed_reach c e)) (evicted_entry c e))) h))

pub stored_state : (c : Cache) (e : Entry) (es : List Entry) (out : Option Entry) → is_kept c e ≡ false → es ≡ take c.capacity (entries_with c e) → out ≡ evicted_entry c e → (let d : Cache = record c { entries = es } in d ≡ after_insert c e) × (Stored (shown c.processed (replayed_reach c e)) out ≡ outcome c e)
stored_state c e es out h k o = (
  ap (λ (xs : List Entry). let d : Cache = record c { entries = xs } in d) k ∙ sym (ap (λ b. cond b c (record c { entries = take c.capacity (entries_with c e) })) h),
  ap (Stored (shown c.processed (replayed_reach c e))) o ∙ sym (ap (λ b. cond b (Kept e) (Stored (shown c.processed (replayed_reach c e)) (evicted_entry c e))) h),
)
