-- The states of a history that follows the snapshots.
use Rattle.std.proofs.Common.{◌≡◌, ◌⊎◌, inl, inr, ℕ, zero, suc, ◌+◌, ◌-◌, ◌<◌, ◌≤◌, List, [], ◌∷◌, ◌++◌, length, length-append, append-nil, take, fold, slice_get, Some, Bool, true, false, cond, refl, sym, ap, subst, ◌∙◌, arith}
use Rattle.std.proofs.lemmas.List.{take-append-le, take_all}
use Rattle.std.proofs.lemmas.List.Sums.{fold-append}
use Rattle.std.proofs.lemmas.Option.{none-some, same_Some}
use Rattle.std.proofs.lemmas.Bool.{cases_lt}
use Rattle.txc_rows.specs.declared.query.Change.TheVariants.{Put}
use Rattle.txc_rows.specs.States.{State, after_changes}
use Rattle.txc_rows.proofs.Offered.{is_in}
use Rattle.txc_db.specs.Facts.{Fact, commit, pin, EventValue}
use Rattle.txc_db.specs.History.{History, state_after_event, moment_of, pinned_moment, moment_at, pin_event}
use Rattle.txc_app_external.specs.Snapshots.{Snapshots, last_snapshot, is_noted, last_noted, version_row, version_rows, IsVersionTable}
use Rattle.txc_app_external.specs.VersionHistory.{IsStepCommit, AreStepCommits, PutAll, HasFollowed, start, pinned, stepped, FollowsSnapshots}
use Rattle.txc_app_external.specs.Laws.{BeginningsFollow, PinsShowVersionTables}
use Rattle.txc_app_external.proofs.Puts.{under, changes_of, events_are, all_put, keeps, is_put}

-- the state after all events of a history
abbrev state_of : History → State
state_of L = fold state_after_event [] L

-- the commits of the next step make the next version table
after_step : (D : Snapshots) (k : ℕ) (s : State) (commits : List EventValue) → IsVersionTable D k s → AreStepCommits D (suc k) commits → PutAll D (suc k) commits
    → IsVersionTable D (suc k) (fold state_after_event s commits)
after_step D k s commits table of_step all t =
    ap (under t) (events_are commits s) ∙ go (is_noted D (suc k) t) refl
  where
    go : (b : Bool) → is_noted D (suc k) t ≡ b → under t (after_changes (changes_of commits) s) ≡ version_rows t (cond b (Some (suc k)) (last_noted D t k))
    go true noted = is_put D (suc k) t (changes_of commits) (all_put D (suc k) commits of_step) (is_in (changes_of commits) (Put (version_row t (suc k))) (all t noted)) s
    go false not_noted = keeps D (suc k) t (changes_of commits) (all_put D (suc k) commits of_step) not_noted s ∙ table t

module _ (D : Snapshots) where
  pub followed_table : {L : History} {k : ℕ} → HasFollowed D L k → IsVersionTable D k (state_of L)
  followed_table start = λ t. refl
  followed_table (pinned L k moment h within) = subst (IsVersionTable D k) (sym (fold-append state_after_event [] L (pin_event moment ∷ []))) (followed_table h)
  followed_table (stepped L k commits h within of_step all) =
      subst (IsVersionTable D (suc k)) (sym (fold-append state_after_event [] L commits)) (after_step D k (state_of L) commits (followed_table h) of_step all)

  followed_taken : {L : History} {k : ℕ} → HasFollowed D L k → k ≤ last_snapshot D
  followed_taken start = omega arith
  followed_taken (pinned L k moment h within) = followed_taken h
  followed_taken (stepped L k commits h within of_step all) = within

  -- ---- pins

  no_pin : (f : Fact) (k m : ℕ) → IsStepCommit D k f → moment_of f ≡ Some m → ⊥
  no_pin (commit net) k m h e = none-some m e
  no_pin (pin moment) k m h e = h

  no_pins : (events : List EventValue) (k i m : ℕ) → AreStepCommits D k events → pinned_moment (slice_get events i) ≡ Some m → ⊥
  no_pins [] k i m h e = none-some m e
  no_pins (x ∷ xs) k zero m h e = no_pin x.fact k m h.0 e
  no_pins (x ∷ xs) k (suc i) m h e = no_pins xs k i m h.1 e

  -- event i + 1 stands in the first list, or in the second
  abbrev InEither : List EventValue → List EventValue → ℕ → ℕ → Type 0
  InEither xs ys i m = ((i < length xs) × (pinned_moment (slice_get xs i) ≡ Some m)) ⊎ ((j : ℕ) × (i ≡ length xs + j) × (pinned_moment (slice_get ys j) ≡ Some m))

  in_either : (xs ys : List EventValue) (i m : ℕ) → pinned_moment (slice_get (xs ++ ys) i) ≡ Some m → InEither xs ys i m
  in_either [] ys i m e = inr (i, omega arith, e)
  in_either (x ∷ xs) ys zero m e = inl (omega arith, e)
  in_either (x ∷ xs) ys (suc i) m e = elim (in_either xs ys i m e) [
    | inl h ↦ inl (let low = h.0 in omega (arith, low), h.1)
    | inr h ↦ inr (h.0, (let same = h.1 in omega (arith, same)), h.2)
  ]

  -- the history up to the pin has followed the snapshots, up to one that is no older than its moment
  abbrev ShowsUpTo : History → ℕ → ℕ → Type 0
  ShowsUpTo L e m = (k : ℕ) × HasFollowed D (take e L) k × (m ≤ D.moment k)

  shown_in_longer : (L more : History) (i m : ℕ) → i < length L → ShowsUpTo L (suc i) m → ShowsUpTo (L ++ more) (suc i) m
  shown_in_longer L more i m low h = (h.0, subst (λ (M : History). HasFollowed D M h.0) (sym (take-append-le (suc i) L more (omega arith))) h.1, h.2)

  at_end : (L : History) (k moment i j m : ℕ) → HasFollowed D (L ++ pin_event moment ∷ []) k → moment ≤ D.moment k → i ≡ length L + j
      → pinned_moment (slice_get (pin_event moment ∷ []) j) ≡ Some m → ShowsUpTo (L ++ pin_event moment ∷ []) (suc i) m
  at_end L k moment i (suc j) m h within same e = absurd (none-some m e)
  at_end L k moment i zero m h within same e =
      let whole : take (suc i) (L ++ pin_event moment ∷ []) ≡ L ++ pin_event moment ∷ [] =
      take_all (suc i) _ (let both = length-append L (pin_event moment ∷ []) in omega (arith, both)) in
      (k, subst (λ (M : History). HasFollowed D M k) (sym whole) h, subst (λ (n : ℕ). n ≤ D.moment k) (same_Some moment m e) within)

  shown : {L : History} {k : ℕ} → HasFollowed D L k → (i m : ℕ) → pinned_moment (slice_get L i) ≡ Some m → ShowsUpTo L (suc i) m
  shown start i m e = absurd (none-some m e)
  shown (pinned L k moment h within) i m e = elim (in_either L (pin_event moment ∷ []) i m e) [
    | inl before ↦ shown_in_longer L (pin_event moment ∷ []) i m before.0 (shown h i m before.1)
    | inr here ↦ at_end L k moment i here.0 m (pinned L k moment h within) within here.1 here.2
  ]
  shown (stepped L k commits h within of_step all) i m e = elim (in_either L commits i m e) [
    | inl before ↦ shown_in_longer L commits i m before.0 (shown h i m before.1)
    | inr here ↦ absurd (no_pins commits (suc k) here.0 m of_step here.2)
  ]

  shown_at : (complete commits : History) (k e m : ℕ) → HasFollowed D complete k → AreStepCommits D (suc k) commits → moment_at (complete ++ commits) e ≡ Some m
      → ShowsUpTo (complete ++ commits) e m
  shown_at complete commits k zero m h of_next e = absurd (none-some m e)
  shown_at complete commits k (suc i) m h of_next e = elim (in_either complete commits i m e) [
    | inl before ↦ shown_in_longer complete commits i m before.0 (shown h i m before.1)
    | inr here ↦ absurd (no_pins commits (suc k) here.0 m of_next here.2)
  ]

-- ---- beginnings

take_past : {X : Type 0} (n j : ℕ) (xs ys : List X) → n ≡ length xs + j → take n (xs ++ ys) ≡ xs ++ take j ys
take_past n j [] ys same = ap (λ i. take i ys) (omega arith)
take_past zero j (x ∷ xs) ys same = absurd (omega arith)
take_past (suc n) j (x ∷ xs) ys same = ap (λ zs. x ∷ zs) (take_past n j xs ys (omega arith))

low_or_past : (n l : ℕ) → (n ≤ l) ⊎ ((j : ℕ) × (n ≡ l + suc j))
low_or_past n l = elim (cases_lt l n) [ inl past ↦ inr (n - suc l, omega arith) | inr low ↦ inl low ]

first_commits : (D : Snapshots) (k j : ℕ) (commits : List EventValue) → AreStepCommits D k commits → AreStepCommits D k (take j commits)
first_commits D k zero commits h = tt
first_commits D k (suc j) [] h = tt
first_commits D k (suc j) (e ∷ es) h = (h.0, first_commits D k j es h.1)

module _ (D : Snapshots) where
  so_far : {L : History} {k : ℕ} → HasFollowed D L k → FollowsSnapshots D L
  so_far {L = L} {k = k} h = record { complete = L; number = k; commits = []; is = sym (append-nil L); followed = h; of_next = tt }

  begun : (L commits : History) (k n j : ℕ) → HasFollowed D L k → AreStepCommits D (suc k) commits → n ≡ length L + suc j → FollowsSnapshots D (take n (L ++ commits))
  begun L commits k n j h of_next same =
      record { complete = L; number = k; commits = take (suc j) commits; is = take_past n (suc j) L commits same; followed = h; of_next = first_commits D (suc k) (suc j) commits of_next }

  beginning : {L : History} {k : ℕ} → HasFollowed D L k → (n : ℕ) → FollowsSnapshots D (take n L)
  beginning start n = subst (FollowsSnapshots D) (sym (take_all n [] (omega arith))) (so_far start)
  beginning (pinned L k moment h within) n = elim (low_or_past n (length L)) [
    | inl low ↦ subst (FollowsSnapshots D) (sym (take-append-le n L (pin_event moment ∷ []) low)) (beginning h n)
    | inr past ↦ subst (FollowsSnapshots D) (sym (take_all n _ (let both = length-append L (pin_event moment ∷ []) in let p = past.1 in omega (arith, both, p)))) (so_far (pinned L k moment h within))
  ]
  beginning (stepped L k commits h within of_step all) n = elim (low_or_past n (length L)) [
    | inl low ↦ subst (FollowsSnapshots D) (sym (take-append-le n L commits low)) (beginning h n)
    | inr past ↦ begun L commits k n past.0 h of_step past.1
  ]

pub beginnings_follow : BeginningsFollow
beginnings_follow D L n follows = subst (λ (M : History). FollowsSnapshots D (take n M)) (sym follows.is) (go (low_or_past n (length follows.complete)))
  where
    go : (n ≤ length follows.complete) ⊎ ((j : ℕ) × (n ≡ length follows.complete + suc j)) → FollowsSnapshots D (take n (follows.complete ++ follows.commits))
    go (inl low) = subst (FollowsSnapshots D) (sym (take-append-le n follows.complete follows.commits low)) (beginning D follows.followed n)
    go (inr past) = begun D follows.complete follows.commits follows.number n past.0 follows.followed follows.of_next past.1

pub pins_show : PinsShowVersionTables
pins_show D L stamp moment follows at =
    let it = shown_at D follows.complete follows.commits follows.number stamp moment follows.followed follows.of_next (ap (λ (M : History). moment_at M stamp) (sym follows.is) ∙ at) in
    let there = subst (λ (M : History). HasFollowed D (take stamp M) it.0) (sym follows.is) it.1 in
    record { number = it.0; taken = followed_taken D there; followed = there; table = followed_table D there; no_later = it.2 }
