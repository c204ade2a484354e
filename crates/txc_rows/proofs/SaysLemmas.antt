-- How versions say states.
use Rattle.std.proofs.Common.{◌≡◌, ◌⊎◌, inl, inr, ℕ, suc, ◌<◌, ◌≤◌, List, [], ◌∷◌, ◌++◌, map, filter, cond, not, Option, Some, None, is_none, Bool, true, false, true≢false, nat_le, nat_lt, ◌&&◌, ◌||◌, ◌==◌, refl, sym, ap, subst, ◌∙◌, append-nil, arith}
use Rattle.std.proofs.lemmas.Bool.Decides.{nat_tests}
use borrow.Author.Tests.{eqb-true, lt-ltb, le-ltb, le-leb, lt-leb, leb-true, leb-false}
use Rattle.std.specs.List.{AllByRecursion, Contains}
use Rattle.sqlite_trees.proofs.ListLemmas.{map-map, filter-map, filter-filter, filter_same, all_of, all_weaker, all-append, all-filter, all-map}
use Rattle.std.proofs.lemmas.List.Elements.{filter-append}
use Rattle.txc_rows.specs.declared.query.Query.{Query}
use Rattle.txc_rows.specs.declared.query.Query.TheVariants.{ById, ByGroup, All, Range}
use Rattle.txc_rows.specs.declared.query.Change.{Change}
use Rattle.txc_rows.specs.declared.query.Change.TheVariants.{Put, Remove}
use Rattle.txc_rows.specs.States.{RowValue, State, IsState, row_before, is_at, query_table, matches, answer, after_change, after_changes}
use Rattle.txc_rows.proofs.Rising.{filter_state, same_rows}
use Rattle.txc_rows.specs.declared.version.Versioned.{Versioned}
use Rattle.txc_rows.specs.Versions.{lives_at, is_visible, row_of, visible_rows, shown_at, closed, removed, put, after_write, after_net, died_by, purged}
use Rattle.txc_rows.specs.VersionsAndStates.{VersionsSay, AreUpTo, IdsAscend}
use Rattle.txc_rows.specs.Laws.{SaysNothing, SaysAgree, SaysWritten, SaysQuiet, SaysPurged, SaysAnswer}
use Rattle.txc_rows.proofs.ChangeLemmas.{made_there, other_there, from_change}
use Rattle.txc_rows.proofs.Members.{IsIn, bool_cases, both_true, and_true, not_true_is, is_in, contains_it, in_filter, from_filter, in_left, in_right, in_either, in_map, from_map, all_in}

-- ---- what versions say, by `IsIn`

pub said_each : (t : ℕ) (vs : List Versioned) (s : State) (r : RowValue) → VersionsSay t vs s → IsIn r s → IsIn r (visible_rows t vs)
said_each t vs s r says h = is_in (visible_rows t vs) r (says.each r (contains_it s r h))

pub said_only : (t : ℕ) (vs : List Versioned) (s : State) (r : RowValue) → VersionsSay t vs s → IsIn r (visible_rows t vs) → IsIn r s
said_only t vs s r says h = is_in s r (says.only r (contains_it (visible_rows t vs) r h))

says_of : (t : ℕ) (vs : List Versioned) (s : State) → ((r : RowValue) → IsIn r s → IsIn r (visible_rows t vs)) → ((r : RowValue) → IsIn r (visible_rows t vs) → IsIn r s) → VersionsSay t vs s
says_of t vs s each only = record {
  each = λ r h. contains_it (visible_rows t vs) r (each r (is_in s r h));
  only = λ r h. contains_it s r (only r (is_in (visible_rows t vs) r h));
}

-- ---- a version behind a visible row

pub record Behind (p : Versioned → Bool) (vs : List Versioned) (r : RowValue) : Type 0 where
  pub version : Versioned
  pub stands : IsIn version vs
  pub passes : p version ≡ true
  pub is : r ≡ version.row

pub behind : (p : Versioned → Bool) (vs : List Versioned) (r : RowValue) → IsIn r (map row_of (filter p vs)) → Behind p vs r
behind p vs r h = let it = from_map row_of r (filter p vs) h in let at = from_filter p it.0 vs it.1 in record { version = it.0; stands = at.0; passes = at.1; is = it.2 }

pub in_front : (p : Versioned → Bool) (vs : List Versioned) (r : RowValue) → Behind p vs r → IsIn r (map row_of (filter p vs))
in_front p vs r b = subst (λ (x : RowValue). IsIn x (map row_of (filter p vs))) (sym b.is) (in_map row_of b.version (filter p vs) (in_filter p b.version vs b.stands b.passes))

-- ---- sight

and_off : (a b : Bool) → b ≡ false → a && b ≡ false
and_off true b e = e
and_off false b e = refl

-- what is closed later is as visible as before
seen_before : (t s i n : ℕ) (v : Versioned) → t < s → is_visible t (closed i n s v) ≡ is_visible t v
seen_before t s i n v early = ap (λ b. nat_le v.born t && b) (go (is_at i n v.row) v.died)
  where
    go : (b : Bool) (x : Option ℕ) → lives_at t (cond (b && is_none x) (Some s) x) ≡ lives_at t x
    go true None = lt-ltb t s early
    go true (Some d) = refl
    go false None = refl
    go false (Some d) = refl

-- a version that dies by the stamp is not visible there after a change of its key
gone : (s i n : ℕ) (v : Versioned) → ((d : ℕ) → v.died ≡ Some d → d ≤ s) → is_at i n v.row ≡ true → is_visible s (closed i n s v) ≡ false
gone s i n v upto at = and_off (nat_le v.born s) _ (go v.died refl)
  where
    go : (x : Option ℕ) → v.died ≡ x → lives_at s (cond (is_at i n v.row && is_none v.died) (Some s) v.died) ≡ false
    go None e = rw (at, e) (le-ltb s s (omega arith))
    go (Some d) e = rw (at, e) (le-ltb s d (upto d e))

-- and a version of another key is as it was
pub left : (s i n : ℕ) (v : Versioned) → is_at i n v.row ≡ false → closed i n s v ≡ v
left s i n v off = ap (λ b. record v { died = cond (b && is_none v.died) (Some s) v.died }) off

-- ---- one change

closed_by : (s i n : ℕ) (v : Versioned) → ((d : ℕ) → v.died ≡ Some d → d ≤ s) → (d : ℕ) → (closed i n s v).died ≡ Some d → d ≤ s
closed_by s i n v dead d e = go (is_at i n v.row && is_none v.died) e
  where
    go : (b : Bool) → cond b (Some s) v.died ≡ Some d → d ≤ s
    go true f = let same : s ≡ d = cc in omega arith
    go false f = dead d f

abbrev IsUpTo : ℕ → Versioned → Type 0
IsUpTo t v = (v.born ≤ t) × ((d : ℕ) → v.died ≡ Some d → d ≤ t)

abbrev DeadBy : ℕ → List Versioned → Type 0
DeadBy s = AllByRecursion (λ v. (d : ℕ) → v.died ≡ Some d → d ≤ s)

dead_removed : (s i n : ℕ) (vs : List Versioned) → DeadBy s vs → DeadBy s (removed i n s vs)
dead_removed s i n vs all = all-map (λ v. (d : ℕ) → v.died ≡ Some d → d ≤ s) (closed i n s) vs (all_weaker _ _ (closed_by s i n) vs all)

dead_after : (s : ℕ) (c : Change) (vs : List Versioned) → DeadBy s vs → DeadBy s (after_write s c vs)
dead_after s (Put row) vs all = all-append (λ v. (d : ℕ) → v.died ≡ Some d → d ≤ s) (removed row.table row.id s vs) (record { row = row; born = s; died = None } ∷ []) (dead_removed s row.table row.id vs all) (λ d e. absurd (let f = e in cc), tt)
dead_after s (Remove i n) vs all = dead_removed s i n vs all

-- the rows of the other keys
pub record IsOther (i n : ℕ) (s : State) (r : RowValue) : Type 0 where
  pub stands : IsIn r s
  pub apart : is_at i n r ≡ false

-- what is seen after a removal are the rows of other keys
seen_removed : (s i n : ℕ) (vs : List Versioned) (st : State) (r : RowValue) → DeadBy s vs → VersionsSay s vs st → Behind (is_visible s) (removed i n s vs) r → IsOther i n st r
seen_removed s i n vs st r dead says b =
    let it = from_map (closed i n s) b.version vs b.stands in
    let v = it.0 in
    let seen : is_visible s (closed i n s v) ≡ true = ap (is_visible s) (sym it.2) ∙ b.passes in
    let is : r ≡ v.row = b.is ∙ ap row_of it.2 in
    elim (bool_cases (is_at i n v.row)) [
      | inl at ↦ absurd (true≢false (sym seen ∙ gone s i n v (all_in (λ (x : Versioned). (d : ℕ) → x.died ≡ Some d → d ≤ s) vs v dead it.1) at))
      | inr off ↦ record {
        stands = said_only s vs st r says (in_front (is_visible s) vs r (record { version = v; stands = it.1; passes = ap (is_visible s) (sym (left s i n v off)) ∙ seen; is = is }));
        apart = ap (is_at i n) is ∙ off;
      }
    ]

removed_seen : (s i n : ℕ) (vs : List Versioned) (st : State) (r : RowValue) → VersionsSay s vs st → IsOther i n st r → Behind (is_visible s) (removed i n s vs) r
removed_seen s i n vs st r says o =
    let b = behind (is_visible s) vs r (said_each s vs st r says o.stands) in
    let same : closed i n s b.version ≡ b.version = left s i n b.version (ap (is_at i n) (sym b.is) ∙ o.apart) in
    record { version = b.version; stands = subst (λ (x : Versioned). IsIn x (removed i n s vs)) same (in_map (closed i n s) b.version vs b.stands); passes = b.passes; is = b.is }

one_change : (s : ℕ) (c : Change) (vs : List Versioned) (st : State) → DeadBy s vs → VersionsSay s vs st → VersionsSay s (after_write s c vs) (after_change c st)
one_change s (Put row) vs st dead says = says_of s (put row s vs) (after_change (Put row) st) each only
  where
    each : (r : RowValue) → IsIn r (after_change (Put row) st) → IsIn r (visible_rows s (put row s vs))
    each r h = in_front (is_visible s) (put row s vs) r (elim (from_change (Put row) r st h) [
      | inl same ↦ record { version = record { row = row; born = s; died = None }; stands = in_right _ (removed row.table row.id s vs) _ (inl refl); passes = and_true (nat_le s s) true (le-leb s s (omega arith)) refl; is = same }
      | inr other ↦ let b = removed_seen s row.table row.id vs st r says (record { stands = other.0; apart = other.1 }) in record { version = b.version; stands = in_left b.version (removed row.table row.id s vs) _ b.stands; passes = b.passes; is = b.is }
    ])

    only : (r : RowValue) → IsIn r (visible_rows s (put row s vs)) → IsIn r (after_change (Put row) st)
    only r h =
        let b = behind (is_visible s) (put row s vs) r h in
        elim (in_either b.version (removed row.table row.id s vs) (record { row = row; born = s; died = None } ∷ []) b.stands) [
          | inl old ↦ let o = seen_removed s row.table row.id vs st r dead says (record { version = b.version; stands = old; passes = b.passes; is = b.is }) in other_there (Put row) r st o.stands o.apart
          | inr new ↦ elim new [ inl same ↦ made_there (Put row) r st (b.is ∙ ap row_of same) | inr none ↦ absurd none ]
        ]
one_change s (Remove i n) vs st dead says = says_of s (removed i n s vs) (after_change (Remove i n) st)
    (λ r h. let it = from_filter (λ (x : RowValue). not (is_at i n x)) r st h in in_front (is_visible s) (removed i n s vs) r (removed_seen s i n vs st r says (record { stands = it.0; apart = not_true_is _ it.1 })))
    (λ r h. let o = seen_removed s i n vs st r dead says (behind (is_visible s) (removed i n s vs) r h) in in_filter (λ (x : RowValue). not (is_at i n x)) r st o.stands (ap not o.apart))

all_changes : (s : ℕ) (net : List Change) (vs : List Versioned) (st : State) → DeadBy s vs → VersionsSay s vs st → VersionsSay s (after_net s net vs) (after_changes net st)
all_changes s [] vs st dead says = says
all_changes s (c ∷ cs) vs st dead says = all_changes s cs (after_write s c vs) (after_change c st) (dead_after s c vs dead) (one_change s c vs st dead says)

-- ---- other stamps

upto_weaker : (t : ℕ) (vs : List Versioned) → AreUpTo t vs → AreUpTo (suc t) vs
upto_weaker t vs h = all_weaker (IsUpTo t) (IsUpTo (suc t)) (λ v k. (let b = k.0 in omega arith, λ d e. let low = k.1 d e in omega arith)) vs h

dead_upto : (t : ℕ) (vs : List Versioned) → AreUpTo t vs → DeadBy t vs
dead_upto t vs h = all_weaker (IsUpTo t) _ (λ v k. k.1) vs h

upto_removed : (s i n : ℕ) (vs : List Versioned) → AreUpTo s vs → AreUpTo s (removed i n s vs)
upto_removed s i n vs h = all-map (IsUpTo s) (closed i n s) vs (all_weaker (IsUpTo s) _ (λ v k. (k.0, closed_by s i n v k.1)) vs h)

upto_end : (s : ℕ) (row : RowValue) (vs : List Versioned) → AreUpTo s vs → AreUpTo s (vs ++ record { row = row; born = s; died = None } ∷ [])
upto_end s row vs h = all-append (IsUpTo s) vs _ h ((omega arith, λ d e. absurd (let f = e in cc)), tt)

upto_after : (s : ℕ) (net : List Change) (vs : List Versioned) → AreUpTo s vs → AreUpTo s (after_net s net vs)
upto_after s [] vs h = h
upto_after s (Put row ∷ cs) vs h = upto_after s cs (put row s vs) (upto_end s row (removed row.table row.id s vs) (upto_removed s row.table row.id vs h))
upto_after s (Remove i n ∷ cs) vs h = upto_after s cs (removed i n s vs) (upto_removed s i n vs h)

says_at : (t u : ℕ) (vs ws : List Versioned) (s : State) → visible_rows u ws ≡ visible_rows t vs → VersionsSay t vs s → VersionsSay u ws s
says_at t u vs ws s same h = record {
  each = λ r k. subst (λ (rs : List RowValue). Contains rs r) (sym same) (h.each r k);
  only = λ r k. h.only r (subst (λ (rs : List RowValue). Contains rs r) same k);
}

later_sight : (t : ℕ) (v : Versioned) → (v.born ≤ t) × ((d : ℕ) → v.died ≡ Some d → d ≤ t) → is_visible (suc t) v ≡ is_visible t v
later_sight t v h = go v.died refl
  where
    go : (x : Option ℕ) → v.died ≡ x → nat_le v.born (suc t) && lives_at (suc t) x ≡ nat_le v.born t && lives_at t x
    go None e = rw (le-leb v.born t h.0, le-leb v.born (suc t) (omega (arith, h.0))) refl
    go (Some d) e = let low = h.1 d e in rw (le-ltb t d low, le-ltb (suc t) d (omega arith)) (and_off (nat_le v.born (suc t)) false refl ∙ sym (and_off (nat_le v.born t) false refl))

quiet_rows : (t : ℕ) (vs : List Versioned) → AreUpTo t vs → visible_rows (suc t) vs ≡ visible_rows t vs
quiet_rows t vs h = ap (map row_of) (filter_same (is_visible (suc t)) (is_visible t) vs (all_weaker _ _ (later_sight t) vs h))

quiet : (t : ℕ) (vs : List Versioned) (s : State) → AreUpTo t vs → VersionsSay t vs s → VersionsSay (suc t) vs s × AreUpTo (suc t) vs
quiet t vs s h says = (says_at t (suc t) vs vs s (quiet_rows t vs h) says, upto_weaker t vs h)

written : (t : ℕ) (net : List Change) (vs : List Versioned) (s : State) → AreUpTo t vs → VersionsSay t vs s → VersionsSay (suc t) (after_net (suc t) net vs) (after_changes net s) × AreUpTo (suc t) (after_net (suc t) net vs)
written t net vs s h says =
    let on = quiet t vs s h says in
    (all_changes (suc t) net vs s (dead_upto (suc t) vs on.1) on.0, upto_after (suc t) net vs on.1)

removed_rows : (t s i n : ℕ) (vs : List Versioned) → t < s → visible_rows t (removed i n s vs) ≡ visible_rows t vs
removed_rows t s i n vs early =
    ap (map row_of) (filter-map (is_visible t) (closed i n s) vs)
    ∙ map-map row_of (closed i n s) (filter (λ v. is_visible t (closed i n s v)) vs)
    ∙ ap (map row_of) (filter_same (λ v. is_visible t (closed i n s v)) (is_visible t) vs (all_of _ (λ v. seen_before t s i n v early) vs))

end_rows : (t s : ℕ) (row : RowValue) (vs : List Versioned) → t < s → visible_rows t (vs ++ record { row = row; born = s; died = None } ∷ []) ≡ visible_rows t vs
end_rows t s row vs early =
    let new : List Versioned = record { row = row; born = s; died = None } ∷ [] in
    let none : filter (is_visible t) new ≡ [] = rw (lt-leb s t early) refl in
    ap (map row_of) (filter-append (is_visible t) vs new ∙ ap (λ ws. filter (is_visible t) vs ++ ws) none ∙ append-nil (filter (is_visible t) vs))

net_rows : (t s : ℕ) (net : List Change) (vs : List Versioned) → t < s → visible_rows t (after_net s net vs) ≡ visible_rows t vs
net_rows t s [] vs early = refl
net_rows t s (Put row ∷ cs) vs early = net_rows t s cs (put row s vs) early ∙ (end_rows t s row (removed row.table row.id s vs) early ∙ removed_rows t s row.table row.id vs early)
net_rows t s (Remove i n ∷ cs) vs early = net_rows t s cs (removed i n s vs) early ∙ removed_rows t s i n vs early

before : (t stamp : ℕ) (net : List Change) (vs : List Versioned) (s : State) → t < stamp → VersionsSay t vs s → VersionsSay t (after_net stamp net vs) s
before t stamp net vs s early says = says_at t t vs (after_net stamp net vs) s (net_rows t stamp net vs early) says

-- ---- a purge

dead_unseen : (h t : ℕ) (v : Versioned) → h ≤ t → died_by h v.died ≡ true → is_visible t v ≡ false
dead_unseen h t v late dead = and_off (nat_le v.born t) _ (go v.died dead)
  where
    go : (x : Option ℕ) → died_by h x ≡ true → lives_at t x ≡ false
    go None e = absurd (true≢false (sym e))
    go (Some d) e = let low = leb-true d h e in le-ltb t d (omega arith)

purged_rows : (h t : ℕ) (vs : List Versioned) → h ≤ t → visible_rows t (purged h vs) ≡ visible_rows t vs
purged_rows h t vs late = ap (map row_of) (filter-filter (is_visible t) (λ v. not (died_by h v.died)) left_in vs)
  where
    left_in : (v : Versioned) → is_visible t v ≡ true → not (died_by h v.died) ≡ true
    left_in v seen = elim (bool_cases (died_by h v.died)) [ inl dead ↦ absurd (true≢false (sym seen ∙ dead_unseen h t v late dead)) | inr off ↦ ap not off ]

purge_says : (horizon t : ℕ) (vs : List Versioned) (s : State) → horizon ≤ t → VersionsSay t vs s → VersionsSay t (purged horizon vs) s
purge_says h t vs s late says = says_at t t vs (purged h vs) s (purged_rows h t vs late) says

-- ---- answers

pub of_its_table : (q : Query) (r : RowValue) → matches q r ≡ true → r.table ≡ query_table q
of_its_table (ById table id) r e = eqb-true _ _ (both_true (r.table == table) (r.id == id) e).0
of_its_table (ByGroup table group) r e = eqb-true _ _ (both_true (r.table == table) (r.group == group) e).0
of_its_table (All table) r e = eqb-true _ _ e
of_its_table (Range table first last) r e = eqb-true _ _ (both_true (r.table == table) (nat_le first r.id && nat_le r.id last) e).0

by_id : (t i u j : ℕ) → t ≡ u → i < j → (nat_lt t u || ((t == u) && nat_lt i j)) ≡ true
by_id t i u j e low = grind (arith, nat_tests)

risen : (q : Query) (rs : List RowValue) → ((r : RowValue) → IsIn r rs → matches q r ≡ true) → IdsAscend rs → IsState rs
risen q [] fit rise = tt
risen q (r ∷ rs) fit rise = (under rs (λ s k. fit s (inr k)) rise.0, risen q rs (λ s k. fit s (inr k)) rise.1)
  where
    under : (ss : List RowValue) → ((s : RowValue) → IsIn s ss → matches q s ≡ true) → AllByRecursion (λ (s : RowValue). r.id < s.id) ss → AllByRecursion (λ (s : RowValue). row_before r s ≡ true) ss
    under [] f a = tt
    under (s ∷ ss) f a = (by_id r.table r.id s.table s.id (of_its_table q r (fit r (inl refl)) ∙ sym (of_its_table q s (f s (inl refl)))) a.0, under ss (λ x k. f x (inr k)) a.1)

-- those of the versions that match and are visible are enough
pub says_seen : (q : Query) (t : ℕ) (vs found : List Versioned) (s : State) → IsState s → VersionsSay t vs s → ((v : Versioned) → Contains found v → Contains vs v)
    → ((v : Versioned) → Contains vs v → matches q v.row ≡ true → is_visible t v ≡ true → Contains found v) → IdsAscend (shown_at q t found) → shown_at q t found ≡ answer q s
says_seen q t vs found s st says from_found to_found rise =
    same_rows (shown_at q t found) (answer q s) (risen q (shown_at q t found) fits rise) (filter_state (matches q) s st) to back
  where
    p : Versioned → Bool
    p v = is_visible t v && matches q v.row

    fits : (r : RowValue) → IsIn r (shown_at q t found) → matches q r ≡ true
    fits r k = let b = behind (λ v. is_visible t v && matches q v.row) found r k in ap (matches q) b.is ∙ (both_true (is_visible t b.version) (matches q b.version.row) b.passes).1

    to : (r : RowValue) → IsIn r (shown_at q t found) → IsIn r (answer q s)
    to r k =
        let b = behind (λ v. is_visible t v && matches q v.row) found r k in
        in_filter (matches q) r s (said_only t vs s r says (in_front (is_visible t) vs r (record { version = b.version; stands = is_in vs b.version (from_found b.version (contains_it found b.version b.stands)); passes = (both_true (is_visible t b.version) (matches q b.version.row) b.passes).0; is = b.is }))) (fits r k)

    back : (r : RowValue) → IsIn r (answer q s) → IsIn r (shown_at q t found)
    back r k =
        let it = from_filter (matches q) r s k in
        let b = behind (is_visible t) vs r (said_each t vs s r says it.0) in
        let fit : matches q b.version.row ≡ true = ap (matches q) (sym b.is) ∙ it.1 in
        in_front (λ v. is_visible t v && matches q v.row) found r (record { version = b.version; stands = is_in found b.version (to_found b.version (contains_it vs b.version b.stands) fit b.passes); passes = and_true (is_visible t b.version) (matches q b.version.row) b.passes fit; is = b.is })

pub says_answer : SaysAnswer
says_answer q t vs found s st says from_found to_found rise = says_seen q t vs found s st says from_found (λ v there fits _. to_found v there fits) rise

-- ---- each kept state

pub says_nothing : SaysNothing
says_nothing states empty = record {
  kept = λ t low high. let now : t ≡ 0 = omega arith in rw (now, empty) (says_of 0 [] [] (λ r h. absurd h) (λ r h. absurd h));
  upto = tt;
}

pub says_agree : SaysAgree
says_agree states others horizon newest vs same says = record {
  kept = λ t low high. subst (VersionsSay t vs) (same t low high) (says.kept t low high);
  upto = says.upto;
}

-- the last stamp, or one before it
pub newest_or : (t n : ℕ) → t ≤ suc n → (t ≡ suc n) ⊎ (t ≤ n)
newest_or t n h = elim (bool_cases (nat_le t n)) [ inl low ↦ inr (leb-true t n low) | inr high ↦ inl (let above = leb-false t n high in omega arith) ]

pub says_written : SaysWritten
says_written states horizon newest net vs kept transition says = record {
  kept = λ t low high. elim (newest_or t newest high) [
    | inl now ↦ rw (now, transition) new.0
    | inr then ↦ before t (suc newest) net vs (states t) (omega arith) (says.kept t low then)
  ];
  upto = new.1;
}
  where
    new : VersionsSay (suc newest) (after_net (suc newest) net vs) (after_changes net (states newest)) × AreUpTo (suc newest) (after_net (suc newest) net vs)
    new = written newest net vs (states newest) says.upto (says.kept newest kept (omega arith))

pub says_quiet : SaysQuiet
says_quiet states horizon newest vs kept same says = record {
  kept = λ t low high. elim (newest_or t newest high) [
    | inl now ↦ rw (now, same) new.0
    | inr then ↦ says.kept t low then
  ];
  upto = new.1;
}
  where
    new : VersionsSay (suc newest) vs (states newest) × AreUpTo (suc newest) vs
    new = quiet newest vs (states newest) says.upto (says.kept newest kept (omega arith))

pub says_purged : SaysPurged
says_purged states horizon newest next vs later says = record {
  kept = λ t low high. purge_says next t vs (states t) low (says.kept t (omega arith) high);
  upto = all-filter (IsUpTo newest) (λ v. not (died_by next v.died)) vs says.upto;
}
