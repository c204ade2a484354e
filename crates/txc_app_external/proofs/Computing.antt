-- A computation over the version table of a snapshot, and the same computation with no cache.
use Rattle.std.proofs.Common.{◌≡◌, ℕ, zero, suc, ◌≤◌, List, [], ◌∷◌, ◌++◌, length, length-append, map, take, drop, append_assoc, append-nil, Option, Some, None, Bool, true, false, cond, ◌==◌, nat_le, refl, sym, ap, subst, ◌∙◌, arith}
use borrow.Author.Tests.{eq-eqb}
use Rattle.std.specs.Option.{option_and_then}
use Rattle.std.proofs.lemmas.List.{map-append, length-map, take-append-le, drop-append-le, take_all, drop_all}
use Rattle.std.proofs.lemmas.Option.{none-some, cond_some}
use Rattle.txc_tags.specs.Keys.{Call}
use Rattle.txc_rows.specs.declared.query.Query.TheVariants.{ById}
use Rattle.txc_rows.specs.States.{State, answer}
use Rattle.txc_app.specs.declared.ask.Ask.{Ask}
use Rattle.txc_app.specs.declared.ask.Ask.TheVariants as asks
use Rattle.txc_app.specs.declared.ask.Answer.{Answer}
use Rattle.txc_app.specs.declared.ask.Answer.TheVariants as answers
use Rattle.txc_app.specs.Eval.{Rows, Calls, Evaluation, after_value, after_ask, activation, called_with, call_below, eval}
use Rattle.txc_app_external.specs.Snapshots.{Read, Tag, Snapshots, last_snapshot, ReadsAreCovered, last_noted, version_rows, IsVersionTable}
use Rattle.txc_app_external.specs.Functions.{OwnAct, read, call, done, Functions, Results, after_act, computed, uncached_below, uncached, first_with, ask_for, ask_after, over_versions}
use Rattle.txc_app_external.specs.Laws.{AreNumbered, CachedIsUncached}
use Rattle.txc_app_external.proofs.Versions.{found_in_each}

-- ---- lists

take_first : {X : Type 0} (n : ℕ) (xs ys : List X) → n ≡ length xs → take n (xs ++ ys) ≡ xs
take_first n xs ys e = take-append-le n xs ys (omega arith) ∙ take_all n xs (omega arith)

drop_first : {X : Type 0} (n : ℕ) (xs ys : List X) → n ≡ length xs → drop n (xs ++ ys) ≡ ys
drop_first n xs ys e = drop-append-le n xs ys (omega arith) ∙ ap (λ zs. zs ++ ys) (drop_all n xs (omega arith))

-- ---- one act of an activation

module _ (most : ℕ) (says : List Answer → Option Ask) (rows : Rows) (c : Calls) (m : ℕ) (used : List Answer) (v : List ℕ) where
  -- an activation that may ask once more has this value
  abbrev Comes : Type 0
  Comes = (activation most says rows c (suc m) used).value ≡ Some v

  abbrev rest : Answer → Evaluation
  rest a = activation most says rows c m (used ++ a ∷ [])

  after_this : (o : Option Ask) → says used ≡ o → Comes → (after_ask most rows c o rest).value ≡ Some v
  unfolding activation
  after_this o is h = subst (λ (x : Option Ask). (after_ask most rows c x rest).value ≡ Some v) is h

  never : says used ≡ None → Comes → ⊥
  never is h = none-some v (after_this None is h)

  done_is : (bytes : List ℕ) → says used ≡ Some (asks.Done bytes) → Comes → bytes ≡ v
  done_is bytes is h = (cond_some (nat_le (length bytes) most) bytes v (after_this (Some (asks.Done bytes)) is h)).1

  value_is : (o : Option (List ℕ)) → (after_value o rest).value ≡ Some v → (w : List ℕ) × (o ≡ Some w) × ((rest (answers.Value w)).value ≡ Some v)
  value_is None h = absurd (none-some v h)
  value_is (Some w) h = (w, refl, h)

  called : (k : Call) → says used ≡ Some (asks.Call k) → Comes → (w : List ℕ) × ((c k).value ≡ Some w) × ((rest (answers.Value w)).value ≡ Some v)
  called k is h = value_is (c k).value (after_this (Some (asks.Call k)) is h)

nothing_left : (most : ℕ) (says : List Answer → Option Ask) (rows : Rows) (c : Calls) (used : List Answer) (v : List ℕ) → (activation most says rows c zero used).value ≡ Some v → ⊥
unfolding activation
nothing_left most says rows c used v h = none-some v h

-- ---- a version table

module _ (D : Snapshots) (k : ℕ) (s : State) (covered : ReadsAreCovered D) (few : AreNumbered D) (taken : k ≤ last_snapshot D) (table : IsVersionTable D k s) where
  abbrev rows : Rows
  rows q = answer q s

  abbrev shown : Tag → Answer
  shown t = answers.Rows (rows (ById t.table t.id))

  abbrev versions : List Tag → List Answer
  versions tags = map shown tags

  versions_are : (tags : List Tag) → versions tags ≡ map (λ t. answers.Rows (version_rows t (last_noted D t k))) tags
  versions_are [] = refl
  versions_are (t ∷ ts) = ap (λ r. answers.Rows r ∷ versions ts) (table t) ∙ ap (λ xs. answers.Rows (version_rows t (last_noted D t k)) ∷ xs) (versions_are ts)

  read_is : (r : Read) → D.find (first_with (versions (D.tags_of r))) r ≡ D.find k r
  read_is r = ap (λ xs. D.find (first_with xs) r) (versions_are (D.tags_of r)) ∙ found_in_each D r k covered few taken

  -- all versions of a read were answered
  ready : (r : Read) (more : List Answer) (go_on : List ℕ → List Answer → Option Ask)
      → ask_for D (Some (read r)) (versions (D.tags_of r) ++ more) go_on ≡ go_on (D.find k r) more
  ready r more go_on =
      let tags = D.tags_of r in
      let long : length (versions tags) ≡ length tags = length-map tags shown in
      let none : drop (length (versions tags ++ more)) tags ≡ [] = drop_all (length (versions tags ++ more)) tags (let both = length-append (versions tags) more in omega (arith, both, long)) in
      let front : take (length tags) (versions tags ++ more) ≡ versions tags = take_first (length tags) (versions tags) more (sym long) in
      let back : drop (length tags) (versions tags ++ more) ≡ more = drop_first (length tags) (versions tags) more (sym long) in
      rw (none, front, back) (ap (λ bytes. go_on bytes more) (read_is r))

  -- the next version is asked
  next_tag : (r : Read) (before : List Tag) (t : Tag) (after : List Tag) (go_on : List ℕ → List Answer → Option Ask) → before ++ t ∷ after ≡ D.tags_of r
      → ask_for D (Some (read r)) (versions before) go_on ≡ Some (asks.Query (ById t.table t.id))
  next_tag r before t after go_on is =
      let long : length (versions before) ≡ length before = length-map before shown in
      let left : drop (length (versions before)) (D.tags_of r) ≡ t ∷ after = ap (drop (length (versions before))) (sym is) ∙ drop_first (length (versions before)) before (t ∷ after) long in
      rw left refl

  module _ (most : ℕ) (acts : List (List ℕ) → Option OwnAct) (says : List Answer → Option Ask) (c : Calls) (u : Results)
      (below : (g : Call) (v : List ℕ) → (c g).value ≡ Some v → u g ≡ Some v) where
    -- after these answers the function has come so far
    abbrev Stands : List Answer → (List Answer → Option Ask) → Type 0
    Stands used so = (more : List Answer) → says (used ++ more) ≡ so more

    abbrev Gives : ℕ → List Answer → List ℕ → Type 0
    Gives m used v = (activation most says rows c m used).value ≡ Some v

    abbrev goes_on : ℕ → List (List ℕ) → List ℕ → List Answer → Option Ask
    goes_on n results bytes more = ask_after D acts n (results ++ bytes ∷ []) more

    now : (used : List Answer) (so : List Answer → Option Ask) → Stands used so → says used ≡ so []
    now used so at = ap says (sym (append-nil used)) ∙ at []

    -- the versions of a read are asked, one after the other
    reads : (r : Read) (go_on : List ℕ → List Answer → Option Ask) (used : List Answer) (v : List ℕ) → Stands used (λ more. ask_for D (Some (read r)) more go_on)
        → (after before : List Tag) (m : ℕ) → before ++ after ≡ D.tags_of r → Gives m (used ++ versions before) v
        → (left : ℕ) × Gives left (used ++ versions (D.tags_of r)) v
    reads r go_on used v at [] before m is h = (m, subst (λ (tags : List Tag). Gives m (used ++ versions tags) v) (sym (append-nil before) ∙ is) h)
    reads r go_on used v at (t ∷ after) before zero is h = absurd (nothing_left most says rows c (used ++ versions before) v h)
    reads r go_on used v at (t ∷ after) before (suc m) is h =
        let asked : says (used ++ versions before) ≡ Some (asks.Query (ById t.table t.id)) = at (versions before) ∙ next_tag r before t after go_on is in
        let one = after_this most says rows c m (used ++ versions before) v (Some (asks.Query (ById t.table t.id))) asked h in
        let more : (used ++ versions before) ++ shown t ∷ [] ≡ used ++ versions (before ++ t ∷ []) =
        append_assoc used (versions before) (shown t ∷ []) ∙ ap (λ xs. used ++ xs) (sym (map-append shown before (t ∷ []))) in
        reads r go_on used v at after (before ++ t ∷ []) m (append_assoc before (t ∷ []) after ∙ is) (subst (λ (xs : List Answer). Gives m xs v) more one)

    -- what is to be shown of the rest of a computation that may act n times
    abbrev ComputesAfter : ℕ → Type 0
    ComputesAfter n = (m : ℕ) (results : List (List ℕ)) (used : List Answer) (v : List ℕ) → Stands used (ask_after D acts n results)
        → Gives m used v → computed acts (D.find k) u n results ≡ Some v

    act : (n : ℕ) → ComputesAfter n → (o : Option OwnAct) (m : ℕ) (results : List (List ℕ)) (used : List Answer) (v : List ℕ)
        → Stands used (λ more. ask_for D o more (goes_on n results)) → Gives m used v
        → after_act (D.find k) u o (λ bytes. computed acts (D.find k) u n (results ++ bytes ∷ [])) ≡ Some v
    act n go None zero results used v at h = absurd (nothing_left most says rows c used v h)
    act n go None (suc m) results used v at h = absurd (never most says rows c m used v (now used (λ more. None) at) h)
    act n go (Some (done bytes)) zero results used v at h = absurd (nothing_left most says rows c used v h)
    act n go (Some (done bytes)) (suc m) results used v at h = ap Some (done_is most says rows c m used v bytes (now used (λ more. Some (asks.Done bytes)) at) h)
    act n go (Some (call g)) zero results used v at h = absurd (nothing_left most says rows c used v h)
    act n go (Some (call g)) (suc m) results used v at h =
        let it = called most says rows c m used v g (now used (λ more. ask_for D (Some (call g)) more (goes_on n results)) at) h in
        let next : Stands (used ++ answers.Value it.0 ∷ []) (goes_on n results it.0) = λ more. ap says (append_assoc used (answers.Value it.0 ∷ []) more) ∙ at (answers.Value it.0 ∷ more) in
        ap (option_and_then (λ bytes. computed acts (D.find k) u n (results ++ bytes ∷ []))) (below g it.0 it.1)
        ∙ go m (results ++ it.0 ∷ []) (used ++ answers.Value it.0 ∷ []) v next it.2
    act n go (Some (read r)) m results used v at h =
        let it = reads r (goes_on n results) used v at (D.tags_of r) [] m refl (subst (λ (xs : List Answer). Gives m xs v) (sym (append-nil used)) h) in
        let next : Stands (used ++ versions (D.tags_of r)) (goes_on n results (D.find k r)) =
        λ more. ap says (append_assoc used (versions (D.tags_of r)) more) ∙ (at (versions (D.tags_of r) ++ more) ∙ ready r more (goes_on n results)) in
        go it.0 (results ++ D.find k r ∷ []) (used ++ versions (D.tags_of r)) v next it.1

    computes : (n : ℕ) → ComputesAfter n
    unfolding ask_after computed
    computes zero zero results used v at h = absurd (nothing_left most says rows c used v h)
    computes zero (suc m) results used v at h = absurd (never most says rows c m used v (now used (λ more. None) at) h)
    computes (suc n) m results used v at h = act n (computes n) (acts results) m results used v at h

  calls_below : (own : Functions) (f : ℕ) (g : Call) (v : List ℕ) → (call_below (over_versions D own) rows f g).value ≡ Some v
      → uncached_below own (D.find k) f g ≡ Some v
  unfolding call_below uncached_below
  calls_below own zero g v h = absurd (none-some v h)
  calls_below own (suc f) g v h = go (g.function == f) (calls_below own f) h
    where
      go : (b : Bool) → ((g : Call) (v : List ℕ) → (call_below (over_versions D own) rows f g).value ≡ Some v → uncached_below own (D.find k) f g ≡ Some v)
          → (cond b (called_with (over_versions D own) rows (call_below (over_versions D own) rows f) g) (call_below (over_versions D own) rows f g)).value ≡ Some v
          → cond b (computed (own.acts g.function g.args) (D.find k) (uncached_below own (D.find k) f) own.limits.asks []) (uncached_below own (D.find k) f g) ≡ Some v
      go true below e = computes own.limits.value (own.acts g.function g.args) ((over_versions D own).says g.function g.args) (call_below (over_versions D own) rows f) (uncached_below own (D.find k) f) below
          own.limits.asks own.limits.asks [] [] v (λ more. refl) e
      go false below e = below g v e

  called_is : (own : Functions) (g : Call) (v : List ℕ) → eval (over_versions D own) g s ≡ Some v → uncached own (D.find k) g ≡ Some v
  unfolding call_below
  called_is own g v h =
      let here : (g.function == g.function) ≡ true = eq-eqb g.function g.function refl in
      calls_below own (suc g.function) g v (rw here h)

pub cached_is_uncached : CachedIsUncached
cached_is_uncached D covered few own k s g v taken table h = called_is D k s covered few taken table own g v h
