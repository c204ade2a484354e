-- An entry of a key that is brought to the front.
use Rattle.std.proofs.Common.{◌≡◌, ℕ, true, false, cond, List, [], ◌∷◌, map, Some, None, refl, sym, ap, subst, ◌∙◌, suc, zero}
use Rattle.std.specs.Prelude.{slice_get, remove}
use Rattle.std.specs.List.{AllByRecursion, find}
use Rattle.std.specs.Map.{lookup_entry}
use Rattle.lru.specs.LruCache.{promoted}
use Rattle.txc_stamp.specs.Interval.{Interval}
use Rattle.txc_tags.specs.Keys.{Call, same_call}
use Rattle.txc_tags.proofs.Offered.{same_call_is}
use Rattle.txc_tags.proofs.All.{all-filter}
use Rattle.txc_node.specs.declared.entry.Entry.{Entry}
use Rattle.txc_node.specs.declared.place.Place.{Place}
use Rattle.txc_node.specs.declared.stored.Stored.{Stored}
use Rattle.txc_node.specs.Places.{place_of, place_at, equal_places}
use Rattle.txc_node.specs.Entries.{same_place, others, AreApart}
use Rattle.txc_node.specs.IndexedEntries.{entry_of, entries_of, entry_at, ArePlaced, AreTied, entries_under, reaches_under, listed, IndexesKeys, Relists}
use Rattle.txc_node.proofs.Apart.{first_apart, same_place_self}
use Rattle.txc_node.proofs.KeyLists.{all_under, brought_first}
use Rattle.txc_node.proofs.Pairs.{pair_of, promoted_is, promoted_keeps}

-- ---- one entry of a key

pub all_at : {X : Type 0} (P : X → Type 0) (xs : List X) (i : ℕ) (x : X) → AllByRecursion P xs → slice_get xs i ≡ Some x → P x
all_at P [] i x h at = let none : None ≡ Some x = at in cc
all_at P (y ∷ ys) zero x h at = let at' : Some y ≡ Some x = at in let same : y ≡ x = cc in subst P same h.0
all_at P (y ∷ ys) (suc i) x h at = all_at P ys i x h.1 at

pub holds_under : (P : Entry → Type 0) (key : Call) (es : List Entry) (at : ℕ) (e : Entry) → AllByRecursion P es → slice_get (entries_under key es) at ≡ Some e → P e
holds_under P key es at e h is = all_at P (entries_under key es) at e (all-filter P (λ o. same_call o.key key) es h) is

pub key_at : (key : Call) (es : List Entry) (at : ℕ) (e : Entry) → slice_get (entries_under key es) at ≡ Some e → e.key ≡ key
key_at key es at e is = same_call_is e.key key (all_at (λ o. same_call o.key key ≡ true) (entries_under key es) at e (all_under key es) is)

-- the entry whose reach is listed there
pub reach_of : (es : List Entry) (at : ℕ) (r : Interval) → slice_get (map (λ e. e.reach) es) at ≡ Some r → (e : Entry) × (slice_get es at ≡ Some e) × (e.reach ≡ r)
reach_of [] at r h = let none : None ≡ Some r = h in cc
reach_of (x ∷ es) zero r h = let h' : Some x.reach ≡ Some r = h in let same : x.reach ≡ r = cc in (x, refl, same)
reach_of (x ∷ es) (suc at) r h = reach_of es at r h

pub reach_at : (es : List Entry) (at : ℕ) (e : Entry) → slice_get es at ≡ Some e → slice_get (map (λ o. o.reach) es) at ≡ Some e.reach
reach_at [] at e h = let none : None ≡ Some e = h in cc
reach_at (x ∷ es) zero e h = let h' : Some x ≡ Some e = h in let same : x ≡ e = cc in ap (λ (o : Entry). Some o.reach) same
reach_at (x ∷ es) (suc at) e h = reach_at es at e h

-- each entry is found at its place
found_later : (y : Entry) (es xs : List Entry) → AllByRecursion (λ o. same_place o y ≡ false) xs → AllByRecursion (λ x. find (λ o. same_place x o) es ≡ Some x) xs → AllByRecursion (λ x. find (λ o. same_place x o) (y ∷ es) ≡ Some x) xs
found_later y es [] other h = tt
found_later y es (x ∷ xs) other h = (ap (λ b. cond b (Some y) (find (λ o. same_place x o) es)) other.0 ∙ h.0, found_later y es xs other.1 h.1)

pub found_self : (es : List Entry) → AreApart es → AllByRecursion (λ x. find (λ o. same_place x o) es ≡ Some x) es
found_self [] apart = tt
found_self (y ∷ es) apart = (ap (λ b. cond b (Some y) (find (λ o. same_place y o) es)) (same_place_self y), found_later y es es apart.0 (found_self es apart.1))

place_is : (key : Call) (es : List Entry) (at : ℕ) (e : Entry) (r : Interval) → slice_get (entries_under key es) at ≡ Some e → e.reach ≡ r → place_of e ≡ place_at key r.lo
place_is key es at e r is reach = ap (λ (k : Call). place_at k e.reach.lo) (key_at key es at e is) ∙ ap (λ (i : Interval). place_at key i.lo) reach

pub found_again : (key : Call) (es : List Entry) (at : ℕ) (e : Entry) (r : Interval) → AreApart es → slice_get (entries_under key es) at ≡ Some e → r ≡ e.reach
    → find (λ o. equal_places (place_at key r.lo) (place_of o)) es ≡ Some e
found_again key es at e r apart is reach =
    subst (λ (q : Place). find (λ o. equal_places q (place_of o)) es ≡ Some e) (place_is key es at e r is (sym reach)) (holds_under (λ x. find (λ o. same_place x o) es ≡ Some x) key es at e (found_self es apart) is)

-- ---- its promotion

pub brought : (ps : List (Place × Stored)) (key : Call) (at : ℕ) (e : Entry) → ArePlaced ps → AreApart (entries_of ps) → slice_get (entries_under key (entries_of ps)) at ≡ Some e
    → entries_of (promoted (equal_places (place_of e)) ps) ≡ e ∷ others e (entries_of ps)
brought ps key at e placed apart is =
    let stands = holds_under (λ o. entry_at (entries_of ps) (place_of o) ≡ Some o) key (entries_of ps) at e (found_self (entries_of ps) apart) is in
    let x = pair_of ps (place_of e) e placed stands in
    let found : lookup_entry (equal_places (place_of (entry_of x.0))) ps ≡ Some x.0 = ap (λ (o : Entry). lookup_entry (equal_places (place_of o)) ps) x.2 ∙ x.1 in
    subst (λ (o : Entry). entries_of (promoted (equal_places (place_of o)) ps) ≡ o ∷ others o (entries_of ps)) x.2 (promoted_is ps x.0 placed apart found)

-- the entries after the promotion of the place of a listed reach
pub brought_entries : (ps : List (Place × Stored)) (key : Call) (at : ℕ) (r : Interval) (e : Entry) → ArePlaced ps → AreApart (entries_of ps) → slice_get (reaches_under key (entries_of ps)) at ≡ Some r
    → slice_get (entries_under key (entries_of ps)) at ≡ Some e → entries_of (promoted (equal_places (place_at key r.lo)) ps) ≡ e ∷ others e (entries_of ps)
brought_entries ps key at r e placed apart listed_there is =
    let both : Some e.reach ≡ Some r = sym (reach_at (entries_under key (entries_of ps)) at e is) ∙ listed_there in
    let reach : e.reach ≡ r = cc in
    ap (λ (q : Place). entries_of (promoted (equal_places q) ps)) (sym (place_is key (entries_of ps) at e r is reach)) ∙ brought ps key at e placed apart is

pub brought_tied : (ps : List (Place × Stored)) (index new : List (Call × List Interval)) (key : Call) (at : ℕ) (r : Interval)
    → AreTied ps index → slice_get (reaches_under key (entries_of ps)) at ≡ Some r → Relists key (r ∷ remove (listed index key) at) index new
    → AreTied (promoted (equal_places (place_at key r.lo)) ps) new
brought_tied ps index new key at r h is relists =
    let es = entries_of ps in
    let test = equal_places (place_at key r.lo) in
    let e = reach_of (entries_under key es) at r is in
    let own : e.0.key ≡ key = key_at key es at e.0 e.1 in
    let after : entries_of (promoted test ps) ≡ e.0 ∷ others e.0 es = brought_entries ps key at r e.0 h.placed h.apart is e.1 in
    let stands : slice_get (entries_under e.0.key es) at ≡ Some e.0 = subst (λ (k : Call). slice_get (entries_under k es) at ≡ Some e.0) (sym own) e.1 in
    let relisted : Relists e.0.key (e.0.reach ∷ remove (listed index e.0.key) at) index new =
    subst (λ (k : Call). Relists k (e.0.reach ∷ remove (listed index k) at) index new) (sym own) (subst (λ (i : Interval). Relists key (i ∷ remove (listed index key) at) index new) (sym e.2) relists) in
    record {
      placed = promoted_keeps (λ p. p.0 ≡ place_of (entry_of p)) test ps h.placed;
      apart = subst AreApart (sym after) (first_apart e.0 es h.apart);
      keys = subst (λ (xs : List Entry). IndexesKeys new xs) (sym after) (brought_first index new es e.0 e.0 at h.apart h.keys stands refl relisted);
    }

-- the first reach of a key in its own stead changes nothing
first_back : (rs : List Interval) (r : Interval) → slice_get rs 0 ≡ Some r → r ∷ remove rs 0 ≡ rs
first_back [] r h = let none : None ≡ Some r = h in cc
first_back (x ∷ rs) r h = let h' : Some x ≡ Some r = h in let same : x ≡ r = cc in ap (λ (i : Interval). i ∷ rs) (sym same)

pub relists_first : (index : List (Call × List Interval)) (key : Call) (r : Interval) → slice_get (listed index key) 0 ≡ Some r → Relists key (r ∷ remove (listed index key) 0) index index
relists_first index key r h k = (elim (same_call key k) as (λ b. same_call key k ≡ b → listed index k ≡ cond b (r ∷ remove (listed index key) 0) (listed index k)) [
  | true ↦ λ t. ap (listed index) (sym (same_call_is key k t)) ∙ sym (first_back (listed index key) r h)
  | false ↦ λ t. refl
]) refl
