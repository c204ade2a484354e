-- What commits of versions make of the rows under a tag.
use Rattle.std.proofs.Common.{◌≡◌, ◌⊎◌, inl, inr, ℕ, List, [], ◌∷◌, ◌++◌, filter, fold, Bool, true, false, cond, ◌&&◌, ◌||◌, ◌==◌, nat_lt, append-nil, refl, sym, ap, ◌∙◌, arith}
use borrow.Author.Tests.{eqb-true, eq-eqb}
use Rattle.std.specs.List.{AllByRecursion, flat_map}
use Rattle.std.proofs.lemmas.List.Elements.{filter-append}
use Rattle.std.proofs.lemmas.Bool.Decides.{nat_tests}
use Rattle.txc_tags.proofs.Lists.{bool_cases, both_true, and_true, not_both, IsIn}
use Rattle.txc_tags.proofs.All.{all-append}
use Rattle.txc_rows.specs.declared.query.Query.TheVariants.{ById}
use Rattle.txc_rows.specs.declared.query.Change.{Change}
use Rattle.txc_rows.specs.declared.query.Change.TheVariants.{Put}
use Rattle.txc_rows.specs.States.{RowValue, State, row_before, answer, after_change, after_changes}
use Rattle.txc_rows.proofs.ChangeLemmas.{changes_then}
use Rattle.txc_db.specs.Facts.{Fact, commit, pin, EventValue, net_of}
use Rattle.txc_db.specs.History.{state_after_event}
use Rattle.txc_app_external.specs.Snapshots.{Tag, Snapshots, equal_tags, is_noted, version_row}
use Rattle.txc_app_external.specs.VersionHistory.{PutsVersion, IsStepCommit, AreStepCommits}

-- ---- filters of filters

module _ (p q : RowValue → Bool) where
  none_of : ((r : RowValue) → p r ≡ true → q r ≡ false) → (s : State) → filter p (filter q s) ≡ []
  none_of apart [] = refl
  none_of apart (r ∷ rs) = go (q r) refl (none_of apart rs)
    where
      go : (b : Bool) → q r ≡ b → filter p (filter q rs) ≡ [] → filter p (cond b (r ∷ filter q rs) (filter q rs)) ≡ []
      go false e h = h
      go true e h = elim (bool_cases (p r)) [ inl passes ↦ not_both (q r) e (apart r passes) | inr fails ↦ rw fails h ]

  all_of : ((r : RowValue) → p r ≡ true → q r ≡ true) → (s : State) → filter p (filter q s) ≡ filter p s
  all_of within [] = refl
  all_of within (r ∷ rs) = go (q r) refl (all_of within rs)
    where
      go : (b : Bool) → q r ≡ b → filter p (filter q rs) ≡ filter p rs → filter p (cond b (r ∷ filter q rs) (filter q rs)) ≡ cond (p r) (r ∷ filter p rs) (filter p rs)
      go true e h = elim (bool_cases (p r)) [ inl passes ↦ rw passes (ap (λ xs. r ∷ xs) h) | inr fails ↦ rw fails h ]
      go false e h = elim (bool_cases (p r)) [ inl passes ↦ not_both (q r) (within r passes) e | inr fails ↦ rw fails h ]

-- ---- the rows under a tag after one put

-- the order of places
abbrev place_before : ℕ → ℕ → ℕ → ℕ → Bool
place_before a b c d = nat_lt a c || ((a == c) && nat_lt b d)

not_itself : (a b : ℕ) → place_before a b a b ≡ false
not_itself a b = grind (arith, nat_tests)

one_way : (a b c d : ℕ) → place_before a b c d ≡ true → place_before c d a b ≡ false
one_way a b c d h = grind (arith, nat_tests)

other_way : (a b c d : ℕ) → (a == c) && (b == d) ≡ false → place_before a b c d ≡ false → place_before c d a b ≡ true
other_way a b c d apart h = grind (arith, nat_tests)

-- the rows under a tag
abbrev pub under : Tag → State → List RowValue
under t s = answer (ById t.table t.id) s

abbrev is_under : Tag → RowValue → Bool
is_under t r = (r.table == t.table) && (r.id == t.id)

stands_before : (t : Tag) (r row : RowValue) → is_under t r ≡ true → row_before r row ≡ place_before t.table t.id row.table row.id
stands_before t r row h =
    let two = both_true (r.table == t.table) (r.id == t.id) h in
    let table = eqb-true r.table t.table two.0 in
    let id = eqb-true r.id t.id two.1 in
    ap (λ n. place_before n r.id row.table row.id) table ∙ ap (λ n. place_before t.table n row.table row.id) id

stands_after : (t : Tag) (r row : RowValue) → is_under t r ≡ true → row_before row r ≡ place_before row.table row.id t.table t.id
stands_after t r row h =
    let two = both_true (r.table == t.table) (r.id == t.id) h in
    let table = eqb-true r.table t.table two.0 in
    let id = eqb-true r.id t.id two.1 in
    ap (λ n. place_before row.table row.id n r.id) table ∙ ap (λ n. place_before row.table row.id t.table n) id

under_put : (t : Tag) (row : RowValue) (s : State)
    → under t (after_change (Put row) s) ≡ filter (is_under t) (filter (λ r. row_before r row) s) ++ filter (is_under t) (row ∷ filter (λ r. row_before row r) s)
under_put t row s = filter-append (is_under t) (filter (λ r. row_before r row) s) (row ∷ filter (λ r. row_before row r) s)

-- a put under the tag leaves its row alone there
put_here : (t : Tag) (row : RowValue) (s : State) → row.table ≡ t.table → row.id ≡ t.id → under t (after_change (Put row) s) ≡ row ∷ []
put_here t row s table id =
    let none : place_before row.table row.id t.table t.id ≡ false = ap (λ n. place_before n row.id t.table t.id) table ∙ (ap (λ n. place_before t.table n t.table t.id) id ∙ not_itself t.table t.id) in
    let none_back : place_before t.table t.id row.table row.id ≡ false = ap (λ n. place_before t.table t.id n row.id) table ∙ (ap (λ n. place_before t.table t.id t.table n) id ∙ not_itself t.table t.id) in
    let itself : is_under t row ≡ true = and_true (row.table == t.table) (row.id == t.id) (eq-eqb row.table t.table table) (eq-eqb row.id t.id id) in
    let first = none_of (is_under t) (λ r. row_before r row) (λ r h. stands_before t r row h ∙ none_back) s in
    let last = none_of (is_under t) (λ r. row_before row r) (λ r h. stands_after t r row h ∙ none) s in
    under_put t row s ∙ rw (first, itself) (ap (λ rs. row ∷ rs) last)

-- a put elsewhere leaves the rows under the tag
put_elsewhere : (t : Tag) (row : RowValue) (s : State) → (t.table == row.table) && (t.id == row.id) ≡ false → under t (after_change (Put row) s) ≡ under t s
put_elsewhere t row s apart = elim (bool_cases (place_before t.table t.id row.table row.id)) [
  | inl low ↦
      let first = all_of (is_under t) (λ r. row_before r row) (λ r h. stands_before t r row h ∙ low) s in
      let last = none_of (is_under t) (λ r. row_before row r) (λ r h. stands_after t r row h ∙ one_way t.table t.id row.table row.id low) s in
      under_put t row s ∙ rw (first, not_under, last) (append-nil (under t s))
  | inr high ↦
      let first = none_of (is_under t) (λ r. row_before r row) (λ r h. stands_before t r row h ∙ high) s in
      let last = all_of (is_under t) (λ r. row_before row r) (λ r h. stands_after t r row h ∙ other_way t.table t.id row.table row.id apart high) s in
      under_put t row s ∙ rw (first, not_under) last
]
  where
    not_under : is_under t row ≡ false
    not_under = grind (arith, nat_tests)

-- ---- after commits of one step

module _ (D : Snapshots) (k : ℕ) (t : Tag) where
  -- a tag that the step did not note keeps its rows
  pub keeps : (net : List Change) → AllByRecursion (PutsVersion D k) net → is_noted D k t ≡ false → (s : State) → under t (after_changes net s) ≡ under t s
  keeps [] all none s = refl
  keeps (c ∷ cs) all none s =
      let it = all.0 in
      let u : Tag = it.0 in
      keeps cs all.1 none (after_change c s)
      ∙ (ap (λ (x : Change). under t (after_change x s)) it.2 ∙ put_elsewhere t (version_row u k) s (apart u it.1))
    where
      same_noted : (u : Tag) → equal_tags t u ≡ true → is_noted D k u ≡ true → is_noted D k t ≡ true
      same_noted u same noted =
          let two = both_true (t.table == u.table) (t.id == u.id) same in
          let table = eqb-true t.table u.table two.0 in
          let id = eqb-true t.id u.id two.1 in
          let is : t ≡ u = λ i. record { table = table i; id = id i } in
          ap (is_noted D k) is ∙ noted

      apart : (u : Tag) → is_noted D k u ≡ true → equal_tags t u ≡ false
      apart u noted = elim (bool_cases (equal_tags t u)) [ inl same ↦ not_both (is_noted D k t) (same_noted u same noted) none | inr other ↦ other ]

  -- once its row of the step is there, it stays
  stays : (net : List Change) → AllByRecursion (PutsVersion D k) net → (s : State) → under t s ≡ version_row t k ∷ [] → under t (after_changes net s) ≡ version_row t k ∷ []
  stays [] all s h = h
  stays (c ∷ cs) all s h =
      let it = all.0 in
      let u : Tag = it.0 in
      stays cs all.1 (after_change c s) (ap (λ (x : Change). under t (after_change x s)) it.2 ∙ one u (bool_cases (equal_tags t u)))
    where
      one : (u : Tag) → (equal_tags t u ≡ true) ⊎ (equal_tags t u ≡ false) → under t (after_change (Put (version_row u k)) s) ≡ version_row t k ∷ []
      one u (inr other) = put_elsewhere t (version_row u k) s other ∙ h
      one u (inl same) =
          let two = both_true (t.table == u.table) (t.id == u.id) same in
          let table = eqb-true t.table u.table two.0 in
          let id = eqb-true t.id u.id two.1 in
          let is : u ≡ t = λ i. record { table = sym table i; id = sym id i } in
          ap (λ (x : Tag). under t (after_change (Put (version_row x k)) s)) is ∙ put_here t (version_row t k) s refl refl

  -- it is there once it was put
  pub is_put : (net : List Change) → AllByRecursion (PutsVersion D k) net → IsIn (Put (version_row t k)) net → (s : State) → under t (after_changes net s) ≡ version_row t k ∷ []
  is_put [] all h s = absurd h
  is_put (c ∷ cs) all (inr later) s = is_put cs all.1 later (after_change c s)
  is_put (c ∷ cs) all (inl same) s = stays cs all.1 (after_change c s) (ap (λ (x : Change). under t (after_change x s)) (sym same) ∙ put_here t (version_row t k) s refl refl)

-- ---- lists of events

-- the changes of events
abbrev pub changes_of : List EventValue → List Change
changes_of events = flat_map (λ e. net_of e.fact) events

event_is : (f : Fact) (tags : _) (s : State) → state_after_event s (record { fact = f; tags = tags }) ≡ after_changes (net_of f) s
event_is (commit net) tags s = refl
event_is (pin moment) tags s = refl

pub events_are : (events : List EventValue) (s : State) → fold state_after_event s events ≡ after_changes (changes_of events) s
events_are [] s = refl
events_are (e ∷ es) s =
    events_are es (state_after_event s e)
    ∙ (ap (after_changes (changes_of es)) (event_is e.fact e.tags s) ∙ sym (changes_then (net_of e.fact) (changes_of es) s))

net_puts : (D : Snapshots) (k : ℕ) (f : Fact) → IsStepCommit D k f → AllByRecursion (PutsVersion D k) (net_of f)
net_puts D k (commit net) h = h
net_puts D k (pin moment) h = absurd h

pub all_put : (D : Snapshots) (k : ℕ) (events : List EventValue) → AreStepCommits D k events → AllByRecursion (PutsVersion D k) (changes_of events)
all_put D k [] h = tt
all_put D k (e ∷ es) h = all-append (PutsVersion D k) (net_of e.fact) (changes_of es) (net_puts D k e.fact h.0) (all_put D k es h.1)
