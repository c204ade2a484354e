-- Entries of one key, by their reaches.
use Rattle.std.proofs.Common.{◌≡◌, ℕ, ◌+◌, Bool, true, ◌&&◌, List, [], ◌∷◌, map, length, get_or, Option, Some, None, refl, sym, ap, ◌∙◌, arith, suc, zero, not, eqb, ltb, cond}
use Rattle.std.specs.Prelude.{slice_get}
use Rattle.std.specs.List.{AllByRecursion, find, position, prefix_len}
use Rattle.std.proofs.lemmas.List.{length-map}
use Rattle.std.proofs.lemmas.List.Quantifiers.{position-Some}
use Rattle.std.proofs.lemmas.Option.{slice_get-get_or}
use Rattle.txc_stamp.specs.Interval.{Interval}
use Rattle.txc_tags.specs.Keys.{Call, same_call}
use Rattle.txc_node.specs.declared.entry.Entry.{Entry}
use Rattle.txc_node.specs.Entries.{meets_range, outlasts, is_best, same_place}
use Rattle.txc_node.specs.IndexedEntries.{AreOf, meets, lasts_longer, IsFound}
use Rattle.txc_node.specs.Best.{BestSoFar, StandsAt}
use Rattle.txc_node.proofs.Best.{best_end}
use Rattle.txc_node.proofs.Inserts.{position_none, find_none, find_at}

-- what stands where a reach is read
read_at : (key : Call) (es : List Entry) (rs : List Interval) (i : ℕ) (r : Interval) → AllByRecursion (λ e. same_call e.key key ≡ true) es → map (λ e. e.reach) es ≡ rs
    → slice_get rs i ≡ Some r → (d : Entry) → (same_call (get_or es i d).key key ≡ true) × ((get_or es i d).reach ≡ r)
read_at key [] [] i r own are h d = let no : None ≡ Some r = h in cc
read_at key [] (s ∷ rs) i r own are h d = cc
read_at key (e ∷ es) [] i r own are h d = cc
read_at key (e ∷ es) (s ∷ rs) zero r own are h d = let h' : Some s ≡ Some r = h in let same : e.reach ≡ r = cc in (own.0, same)
read_at key (e ∷ es) (s ∷ rs) (suc i) r own are h d = let rest : map (λ o. o.reach) es ≡ rs = cc in read_at key es rs i r own.1 rest h d

pub range_at : (p : ℕ) (key : Call) (lo hi : ℕ) (es : List Entry) (rs : List Interval) (i : ℕ) (r : Interval) (b : Bool) → AreOf key es rs → slice_get rs i ≡ Some r → meets p lo hi r ≡ b
    → (d : Entry) → meets_range p key lo hi (get_or es i d) ≡ b
range_at p key lo hi es rs i r b are at h d =
    let k = read_at key es rs i r are.of_key are.reaches at d in
    ap (λ a. a && meets p lo hi (get_or es i d).reach) k.0 ∙ ap (meets p lo hi) k.1 ∙ h

pub lasts_at : (p : ℕ) (key : Call) (es : List Entry) (rs : List Interval) (i j : ℕ) (r s : Interval) (b : Bool) → AreOf key es rs → slice_get rs i ≡ Some r → slice_get rs j ≡ Some s
    → lasts_longer p r s ≡ b → (d : Entry) → outlasts p (get_or es i d) (get_or es j d) ≡ b
lasts_at p key es rs i j r s b are at there h d =
    let k = read_at key es rs i r are.of_key are.reaches at d in
    let l = read_at key es rs j s are.of_key are.reaches there d in
    ap (λ x. lasts_longer p x (get_or es j d).reach) k.1 ∙ ap (lasts_longer p r) l.1 ∙ h

-- ---- what is found

pub stands_found : (key : Call) (es : List Entry) (rs : List Interval) (o : Option Entry) (at : ℕ) (r : Interval) → AreOf key es rs → slice_get rs at ≡ Some r → StandsAt o es (Some at)
    → IsFound es o (Some (record { at = at; reach = r }))
stands_found key [] rs o at r are there h = absurd (omega (arith, h.0))
stands_found key (x ∷ es) rs o at r are there h =
    (get_or (x ∷ es) at x, h.1 x, slice_get-get_or (x ∷ es) at x h.0, sym (read_at key (x ∷ es) rs at r are.of_key are.reaches there x).1)

pub best_stands : (p : ℕ) (key : Call) (lo hi : ℕ) (es : List Entry) (rs : List Interval) (best : Option ℕ) → AreOf key es rs → BestSoFar p key lo hi es (length rs) best → StandsAt (find (is_best p key lo hi es) es) es best
best_stands p key lo hi es rs best are h = best_end p key lo hi es (length rs) best (ap length (sym are.reaches) ∙ length-map es (λ e. e.reach)) h

-- the entries of a key that begin with another stamp
prefix_like : (e : Entry) (es : List Entry) → AllByRecursion (λ o. same_call o.key e.key ≡ true) es
    → prefix_len (λ (i : Interval). not (eqb i.lo e.reach.lo)) (map (λ o. o.reach) es) ≡ prefix_len (λ o. not (same_place o e)) es
prefix_like e [] h = refl
prefix_like e (x ∷ es) h =
    ap (λ n. cond (not (eqb x.reach.lo e.reach.lo)) (1 + n) 0) (prefix_like e es h.1) ∙ ap (λ b. cond (not (b && eqb x.reach.lo e.reach.lo)) (1 + prefix_len (λ o. not (same_place o e)) es) 0) (sym h.0)

position_like : (e : Entry) (es : List Entry) (rs : List Interval) → AreOf e.key es rs → position (λ i. eqb i.lo e.reach.lo) rs ≡ position (λ o. same_place o e) es
position_like e es rs are =
    let n = prefix_len (λ o. not (same_place o e)) es in
    ap (λ (xs : List Interval). position (λ i. eqb i.lo e.reach.lo) xs) (sym are.reaches)
    ∙ ap (λ k. cond (ltb k (length (map (λ (o : Entry). o.reach) es))) (Some k) None) (prefix_like e es are.of_key)
    ∙ ap (λ l. cond (ltb n l) (Some n) None) (length-map es (λ o. o.reach))

pub place_stands : (e : Entry) (es : List Entry) (rs : List Interval) (lo : ℕ) (at : Option ℕ) → AreOf e.key es rs → lo ≡ e.reach.lo → at ≡ position (λ i. eqb i.lo lo) rs → StandsAt (find (λ o. same_place o e) es) es at
place_stands e es rs lo None are begins h =
    let k : position (λ o. same_place o e) es ≡ None = sym (h ∙ ap (λ n. position (λ (i : Interval). eqb i.lo n) rs) begins ∙ position_like e es rs are) in
    find_none (λ o. same_place o e) es (position_none (λ o. same_place o e) es k)
place_stands e es rs lo (Some i) are begins h =
    let k : position (λ o. same_place o e) es ≡ Some i = sym (h ∙ ap (λ n. position (λ (i : Interval). eqb i.lo n) rs) begins ∙ position_like e es rs are) in
    ((position-Some (λ o. same_place o e) es i e k).0, λ d. find_at (λ o. same_place o e) es i d k)
