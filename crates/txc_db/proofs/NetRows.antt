-- The rows that net changes find, and the tags of a commit.
use Rattle.std.proofs.Common.{◌≡◌, ◌⊎◌, inl, inr, ℕ, zero, suc, ◌+◌, ◌≤◌, List, [], ◌∷◌, ◌++◌, filter, take, Bool, true, false, cond, slice_get, Some, refl, sym, ap, subst, ◌∙◌, eqb-true, add-one}
use Rattle.std.specs.List.{AllByRecursion, list_any, flat_map}
use Rattle.std.proofs.lemmas.Grind.{flat_map-append}
use Rattle.txc_tags.specs.declared.tag.Tag.{Tag}
use Rattle.txc_tags.specs.Tags.{with_tags, set_of}
use Rattle.txc_tags.proofs.Lists.{in_either}
use Rattle.txc_tags.proofs.Sixteen.{with_tags_append}
use Rattle.txc_tags.proofs.All.{all_in}
use Rattle.txc_rows.specs.declared.query.Change.{Change}
use Rattle.txc_rows.specs.declared.query.Query.TheVariants.{ById}
use Rattle.txc_rows.specs.States.{RowValue, State, IsState, row_before, is_at, answer, after_changes}
use Rattle.txc_rows.specs.RowTags.{tags_of_row, tags_between}
use Rattle.txc_rows.specs.Net.{change_table, change_id, same_key, key_before, changes_state, placed, settled, net_changes, KeysAscend, puts_of, rows_at}
use Rattle.txc_rows.specs.Laws.{NetTags, NetTransition}
use Rattle.txc_rows.proofs.Offered.{IsIn, is_in, any_there, any_found, both_true, in_filter, from_filter, in_left, in_right}
use Rattle.txc_rows.proofs.Offered.{same_rows, filter_state}
use Rattle.txc_db.specs.DatabaseValue.{DatabaseValue}
use Rattle.txc_db.specs.Calls.{matching_of, row_query, AreFewNamed}
use Rattle.txc_db.specs.NetGrowth.{found_rows, IsNetWith}

-- ---- lists

all_of : {X : Type 0} (P : X → Type 0) (xs : List X) → ((x : X) → IsIn x xs → P x) → AllByRecursion P xs
all_of P [] each = tt
all_of P (y ∷ ys) each = (each y (inl refl), all_of P ys (λ x h. each x (inr h)))

pub at_in : {X : Type 0} (x : X) (xs : List X) (i : ℕ) → slice_get xs i ≡ Some x → IsIn x xs
at_in x [] i at = absurd (let f = at in cc)
at_in x (y ∷ ys) zero at = let same : x ≡ y = cc at in inl same
at_in x (y ∷ ys) (suc i) at = inr (at_in x ys i at)

append_state : (xs ys : State) → IsState xs → IsState ys → ((x y : RowValue) → IsIn x xs → IsIn y ys → row_before x y ≡ true) → IsState (xs ++ ys)
append_state [] ys hx hy before = hy
append_state (x ∷ xs) ys hx hy before = (
  all_of (λ (s : RowValue). row_before x s ≡ true) (xs ++ ys) (λ z h. elim (in_either z xs ys h) [
    | inl inside ↦ all_in (λ (s : RowValue). row_before x s ≡ true) xs z hx.0 inside
    | inr later ↦ before x z (inl refl) later
  ]),
  append_state xs ys hx.1 hy (λ a b h k. before a b (inr h) k),
)

-- ---- the rows that changes find

pub record FoundBy (s : State) (net : List Change) (r : RowValue) : Type 0 where
  pub change : Change
  pub one : IsIn change net
  pub stands : IsIn r s
  pub at : is_at (change_table change) (change_id change) r ≡ true

found_from : (net : List Change) (s : State) (r : RowValue) → IsIn r (found_rows s net) → FoundBy s net r
found_from [] s r h = absurd h
found_from (c ∷ cs) s r h = elim (in_either r (answer (ById (change_table c) (change_id c)) s) (found_rows s cs) h) [
  | inl here ↦ let it = from_filter (is_at (change_table c) (change_id c)) r s here in record { change = c; one = inl refl; stands = it.0; at = it.1 }
  | inr later ↦ let it = found_from cs s r later in record { change = it.change; one = inr it.one; stands = it.stands; at = it.at }
]

found_to : (net : List Change) (s : State) (r : RowValue) (c : Change) → IsIn c net → IsIn r s → is_at (change_table c) (change_id c) r ≡ true → IsIn r (found_rows s net)
found_to [] s r c one stands at = absurd one
found_to (d ∷ ds) s r c (inl same) stands at =
    in_left r (answer (ById (change_table d) (change_id d)) s) (found_rows s ds) (in_filter (is_at (change_table d) (change_id d)) r s stands (ap (λ (x : Change). is_at (change_table x) (change_id x) r) (sym same) ∙ at))
found_to (d ∷ ds) s r c (inr later) stands at = in_right r (answer (ById (change_table d) (change_id d)) s) (found_rows s ds) (found_to ds s r c later stands at)

keyed : (c d : Change) (x y : RowValue) → key_before c d ≡ true → is_at (change_table c) (change_id c) x ≡ true → is_at (change_table d) (change_id d) y ≡ true → row_before x y ≡ true
keyed c d x y before atx aty =
    let kx = both_true _ _ atx in
    let ky = both_true _ _ aty in
    let tx : x.table ≡ change_table c = eqb-true _ _ kx.0 in
    let ix : x.id ≡ change_id c = eqb-true _ _ kx.1 in
    let ty : y.table ≡ change_table d = eqb-true _ _ ky.0 in
    let iy : y.id ≡ change_id d = eqb-true _ _ ky.1 in
    rw (tx, ix, ty, iy) before

found_state : (net : List Change) (s : State) → KeysAscend net → IsState s → IsState (found_rows s net)
found_state [] s rise h = tt
found_state (c ∷ cs) s rise h =
    append_state (answer (ById (change_table c) (change_id c)) s) (found_rows s cs) (filter_state (is_at (change_table c) (change_id c)) s h) (found_state cs s rise.1 h)
    (λ x y hx hy.
    let it = found_from cs s y hy in
    keyed c it.change x y (all_in (λ (d : Change). key_before c d ≡ true) cs it.change rise.0 it.one) (from_filter (is_at (change_table c) (change_id c)) x s hx).1 it.at)

pub found_are_rows_at : (net : List Change) (s : State) → KeysAscend net → IsState s → found_rows s net ≡ rows_at net s
found_are_rows_at net s rise h = same_rows (found_rows s net) (rows_at net s) (found_state net s rise h) (filter_state (λ r. list_any (λ c. is_at (change_table c) (change_id c) r) net) s h) to from
  where
    to : (z : RowValue) → IsIn z (found_rows s net) → IsIn z (rows_at net s)
    to z k =
        let it = found_from net s z k in
        in_filter (λ r. list_any (λ c. is_at (change_table c) (change_id c) r) net) z s it.stands (any_there (λ c. is_at (change_table c) (change_id c) z) it.change net it.one it.at)

    from : (z : RowValue) → IsIn z (rows_at net s) → IsIn z (found_rows s net)
    from z k =
        let it = from_filter (λ r. list_any (λ c. is_at (change_table c) (change_id c) r) net) z s k in
        let by = any_found (λ c. is_at (change_table c) (change_id c) z) net it.1 in
        found_to net s z by.0 by.1 it.0 by.2

-- the tags of the rows found, and then those of the rows put, are the tags of the commit
pub commit_tags : NetTags → NetTransition → (s : State) (changes : List Change) (tags : List Tag) → IsState s
    → tags ≡ with_tags (flat_map tags_of_row (puts_of (net_changes s changes))) (with_tags (flat_map tags_of_row (found_rows s (net_changes s changes))) [])
    → tags ≡ tags_between s (after_changes changes s)
commit_tags law transition s changes tags h is =
    let net = transition s changes h in
    let found = found_are_rows_at (net_changes s changes) s net.rising h in
    is ∙ (sym (with_tags_append (flat_map tags_of_row (found_rows s (net_changes s changes))) (flat_map tags_of_row (puts_of (net_changes s changes))) [])
    ∙ (ap (λ (ts : List Tag). with_tags ts []) (sym (flat_map-append tags_of_row (found_rows s (net_changes s changes)) (puts_of (net_changes s changes))))
    ∙ (ap (λ (rs : List RowValue). set_of (flat_map tags_of_row (rs ++ puts_of (net_changes s changes)))) found ∙ sym (law s (after_changes changes s) (net_changes s changes) h net))))

-- ---- one change more

filter_suc : (p : Change → Bool) (cs : List Change) (i : ℕ) (c : Change) → slice_get cs i ≡ Some c → filter p (take i cs) ++ filter p (c ∷ []) ≡ filter p (take (suc i) cs)
filter_suc p [] i c at = absurd (let f = at in cc)
filter_suc p (d ∷ ds) zero c at = let same : c ≡ d = cc at in rw same refl
filter_suc p (d ∷ ds) (suc i) c at = go (p d) (filter_suc p ds i c at)
  where
    go : (b : Bool) → filter p (take i ds) ++ filter p (c ∷ []) ≡ filter p (take (suc i) ds) → cond b (d ∷ filter p (take i ds)) (filter p (take i ds)) ++ filter p (c ∷ []) ≡ cond b (d ∷ filter p (take (suc i) ds)) (filter p (take (suc i) ds))
    go true rest = ap (λ (xs : List Change). d ∷ xs) rest
    go false rest = rest

pub net_more : (s : State) (cs : List Change) (i : ℕ) (c : Change) (old new : List Change) (was is : List Tag) → slice_get cs i ≡ Some c → IsNetWith s c old new was is
    → old ≡ filter (changes_state s) (take i cs) → was ≡ with_tags (flat_map tags_of_row (found_rows s old)) []
    → (new ≡ filter (changes_state s) (take (i + 1) cs)) × (is ≡ with_tags (flat_map tags_of_row (found_rows s new)) [])
net_more s cs i c old new was is at more net tags = (
  more.net ∙ (ap (λ (xs : List Change). xs ++ filter (changes_state s) (c ∷ [])) net ∙ (filter_suc (changes_state s) cs i c at ∙ ap (λ n. filter (changes_state s) (take n cs)) (sym (add-one i)))),
  more.tags ∙ (ap (with_tags (flat_map tags_of_row (found_rows s (filter (changes_state s) (c ∷ []))))) tags
      ∙ (sym (with_tags_append (flat_map tags_of_row (found_rows s old)) (flat_map tags_of_row (found_rows s (filter (changes_state s) (c ∷ [])))) [])
      ∙ (ap (λ (ts : List Tag). with_tags ts []) (sym (flat_map-append tags_of_row (found_rows s old) (found_rows s (filter (changes_state s) (c ∷ [])))))
      ∙ (ap (λ (rs : List RowValue). with_tags (flat_map tags_of_row rs) []) (sym (flat_map-append (λ d. answer (ById (change_table d) (change_id d)) s) old (filter (changes_state s) (c ∷ []))))
      ∙ ap (λ (xs : List Change). with_tags (flat_map tags_of_row (found_rows s xs)) []) (sym more.net))))),
)

-- ---- what settles is among the changes

placed_in : (x c : Change) (ds : List Change) → IsIn x (placed c ds) → (x ≡ c) ⊎ IsIn x ds
placed_in x c [] (inl same) = inl same
placed_in x c [] (inr h) = absurd h
placed_in x c (d ∷ ds) h = go (same_key c d) (key_before c d) h (placed_in x c ds)
  where
    go : (b e : Bool) → IsIn x (cond b (d ∷ ds) (cond e (c ∷ (d ∷ ds)) (d ∷ placed c ds))) → (IsIn x (placed c ds) → (x ≡ c) ⊎ IsIn x ds) → (x ≡ c) ⊎ IsIn x (d ∷ ds)
    go true e k rest = inr k
    go false true (inl same) rest = inl same
    go false true (inr later) rest = inr later
    go false false (inl same) rest = inr (inl same)
    go false false (inr later) rest = elim (rest later) [ inl same ↦ inl same | inr there ↦ inr (inr there) ]

pub settled_in : (x : Change) (cs : List Change) → IsIn x (settled cs) → IsIn x cs
settled_in x [] h = absurd h
settled_in x (c ∷ cs) h = elim (placed_in x c (settled cs) h) [ inl same ↦ inl same | inr there ↦ inr (settled_in x cs there) ]

-- ---- each change has one of its key among what settles

pub record IsOfKey (c : Change) (ds : List Change) : Type 0 where
  pub change : Change
  pub one : IsIn change ds
  pub table : change_table change ≡ change_table c
  pub id : change_id change ≡ change_id c

placed_has : (c : Change) (ds : List Change) → IsOfKey c (placed c ds)
placed_has c [] = record { change = c; one = inl refl; table = refl; id = refl }
placed_has c (d ∷ ds) = go (same_key c d) refl (key_before c d) (placed_has c ds)
  where
    go : (b : Bool) → same_key c d ≡ b → (e : Bool) → IsOfKey c (placed c ds) → IsOfKey c (cond b (d ∷ ds) (cond e (c ∷ (d ∷ ds)) (d ∷ placed c ds)))
    go true is e rest = let keys = both_true _ _ is in record { change = d; one = inl refl; table = sym (eqb-true _ _ keys.0); id = sym (eqb-true _ _ keys.1) }
    go false is true rest = record { change = c; one = inl refl; table = refl; id = refl }
    go false is false rest = record { change = rest.change; one = inr rest.one; table = rest.table; id = rest.id }

placed_keeps : (c x : Change) (ds : List Change) → IsIn x ds → IsIn x (placed c ds)
placed_keeps c x [] h = absurd h
placed_keeps c x (d ∷ ds) h = go (same_key c d) (key_before c d) h (placed_keeps c x ds)
  where
    go : (b e : Bool) → IsIn x (d ∷ ds) → (IsIn x ds → IsIn x (placed c ds)) → IsIn x (cond b (d ∷ ds) (cond e (c ∷ (d ∷ ds)) (d ∷ placed c ds)))
    go true e k rest = k
    go false true k rest = inr k
    go false false (inl same) rest = inl same
    go false false (inr later) rest = inr (rest later)

settled_has : (c : Change) (cs : List Change) → IsIn c cs → IsOfKey c (settled cs)
settled_has c [] h = absurd h
settled_has c (d ∷ cs) (inl same) = subst (λ (x : Change). IsOfKey x (placed d (settled cs))) (sym same) (placed_has d (settled cs))
settled_has c (d ∷ cs) (inr later) =
    let it = settled_has c cs later in
    record { change = it.change; one = placed_keeps d it.change (settled cs) it.one; table = it.table; id = it.id }

-- what is so of each key that settles is so of each that a change names
pub few_named : (d : DatabaseValue) (changes : List Change) → ((x : Change) → IsIn x (settled changes) → matching_of d (row_query x) ≤ d.most) → AreFewNamed d changes
few_named d changes few c one =
    let it = settled_has c changes (is_in changes c one) in
    subst (λ (i : ℕ). matching_of d (ById (change_table c) i) ≤ d.most) it.id (subst (λ (t : ℕ). matching_of d (ById t (change_id it.change)) ≤ d.most) it.table (few it.change it.one))

-- what is among one more was among them, or is the one
pub taken_in : (cs : List Change) (i : ℕ) (c x : Change) → slice_get cs i ≡ Some c → IsIn x (take (i + 1) cs) → IsIn x (take i cs) ⊎ (x ≡ c)
taken_in cs i c x at h = go cs i at (subst (λ (n : ℕ). IsIn x (take n cs)) (add-one i) h)
  where
    go : (ds : List Change) (j : ℕ) → slice_get ds j ≡ Some c → IsIn x (take (suc j) ds) → IsIn x (take j ds) ⊎ (x ≡ c)
    go [] j k one = absurd one
    go (d ∷ ds) zero k (inl same) = let is : d ≡ c = cc k in inr (same ∙ is)
    go (d ∷ ds) zero k (inr later) = absurd later
    go (d ∷ ds) (suc j) k (inl same) = inl (inl same)
    go (d ∷ ds) (suc j) k (inr later) = elim (go ds j k later) [ inl before ↦ inl (inr before) | inr last ↦ inr last ]
