-- What puts of rows make of the newest state, and of the versions.
use Rattle.std.proofs.Common.{◌≡◌, ◌≢◌, ℕ, suc, List, [], ◌∷◌, ◌++◌, map, length, true, false, cond, None, refl, sym, ap, ◌∙◌, add-one}
use Rattle.std.proofs.lemmas.List.{length_push}
use Rattle.std.specs.List.{AllByRecursion}
use Rattle.txc_rows.specs.declared.query.Change.{Change}
use Rattle.txc_rows.specs.declared.query.Change.TheVariants.{Put, Remove}
use Rattle.txc_rows.specs.declared.version.Versioned.{Versioned}
use Rattle.txc_rows.specs.States.{RowValue, State, after_changes}
use Rattle.txc_rows.specs.Net.{same_key, key_before, changes_state, placed, settled, net_changes, IsNet}
use Rattle.txc_rows.specs.Versions.{removed, after_write, after_net}
use Rattle.txc_rows.specs.Laws.{ChangedIsState, NetTransition}
use Rattle.txc_db.specs.Facts.{EventValue}
use Rattle.txc_db.specs.History.{History, state_at, commit_event}
use Rattle.txc_db.specs.DatabaseValue.{DatabaseValue, newest, newest_state, newest_net, where_some, after_event_of, after_commit}
use Rattle.txc_db.proofs.Histories.{is_state, state_pushed}
use Rattle.txc_tags.proofs.All.{all-filter, all-append}

-- ---- a commit

module _ (d : DatabaseValue) (changes : List Change) where
  -- what holds where there is no net change and where there is one holds after the commit
  pub after_either : (P : DatabaseValue → Type 0) → (newest_net d changes ≡ [] → P d)
      → (newest_net d changes ≢ [] → P (after_event_of d (commit_event (newest_state d) changes) (newest_net d changes)))
      → P (after_commit d changes)
  after_either P quiet event = go (newest_net d changes) refl
    where
      go : (net : List Change) → newest_net d changes ≡ net → P (where_some net d (after_event_of d (commit_event (newest_state d) changes) (newest_net d changes)))
      go [] e = quiet e
      go (c ∷ cs) e = event (λ none. let f : c ∷ cs ≡ [] = sym e ∙ none in absurd (cc f))

  pushed_state : (L : History) (e : EventValue) → state_at (L ++ e ∷ []) (length (L ++ e ∷ [])) ≡ state_at (L ++ e ∷ []) (suc (length L))
  pushed_state L e = ap (state_at (L ++ e ∷ [])) (length_push L e ∙ add-one (length L))

  pub commit_state : ChangedIsState → NetTransition → newest_state (after_commit d changes) ≡ after_changes changes (newest_state d)
  commit_state changed transition =
      let net : IsNet (newest_state d) (newest_net d changes) (after_changes changes (newest_state d)) = transition (newest_state d) changes (is_state changed d.history (newest d)) in
      after_either (λ v. newest_state v ≡ after_changes changes (newest_state d))
      (λ none. sym (ap (λ (n : List Change). after_changes n (newest_state d)) none) ∙ net.transition)
      (λ some. pushed_state d.history (commit_event (newest_state d) changes) ∙ (state_pushed d.history (commit_event (newest_state d) changes) ∙ net.transition))

-- ---- the versions

abbrev pub Puts : (RowValue → Type 0) → Change → Type 0
Puts P (Put row) = P row
Puts P (Remove table id) = Unit {0}

all_placed : (Q : Change → Type 0) (c : Change) (cs : List Change) → Q c → AllByRecursion Q cs → AllByRecursion Q (placed c cs)
all_placed Q c [] q a = (q, tt)
all_placed Q c (d ∷ ds) q a =
    let rest = all_placed Q c ds q a.1 in
    elim (same_key c d) as (λ b. AllByRecursion Q (cond b (d ∷ ds) (cond (key_before c d) (c ∷ (d ∷ ds)) (d ∷ placed c ds)))) [
      | true ↦ a
      | false ↦ elim (key_before c d) as (λ b. AllByRecursion Q (cond b (c ∷ (d ∷ ds)) (d ∷ placed c ds))) [
        | true ↦ (q, a)
        | false ↦ (a.0, rest)
      ]
    ]

all_settled : (Q : Change → Type 0) (cs : List Change) → AllByRecursion Q cs → AllByRecursion Q (settled cs)
all_settled Q [] a = tt
all_settled Q (c ∷ cs) a = all_placed Q c (settled cs) a.0 (all_settled Q cs a.1)

pub all_net : (Q : Change → Type 0) (s : State) (cs : List Change) → AllByRecursion Q cs → AllByRecursion Q (net_changes s cs)
all_net Q s cs a = all-filter Q (changes_state s) (settled cs) (all_settled Q cs a)

module _ (P : RowValue → Type 0) where
  all_closed : (t i stamp : ℕ) (vs : List Versioned) → AllByRecursion (λ v. P v.row) vs → AllByRecursion (λ v. P v.row) (removed t i stamp vs)
  all_closed t i stamp [] a = tt
  all_closed t i stamp (v ∷ vs) a = (a.0, all_closed t i stamp vs a.1)

  all_write : (stamp : ℕ) (c : Change) (vs : List Versioned) → Puts P c → AllByRecursion (λ v. P v.row) vs → AllByRecursion (λ v. P v.row) (after_write stamp c vs)
  all_write stamp (Put row) vs p a = all-append (λ v. P v.row) (removed row.table row.id stamp vs) (record { row = row; born = stamp; died = None } ∷ []) (all_closed row.table row.id stamp vs a) (p, tt)
  all_write stamp (Remove table id) vs p a = all_closed table id stamp vs a

  pub all_written : (stamp : ℕ) (net : List Change) (vs : List Versioned) → AllByRecursion (Puts P) net → AllByRecursion (λ v. P v.row) vs → AllByRecursion (λ v. P v.row) (after_net stamp net vs)
  all_written stamp [] vs q a = a
  all_written stamp (c ∷ cs) vs q a = all_written stamp cs (after_write stamp c vs) q.1 (all_write stamp c vs q.0 a)

  pub all_puts : (rows : List RowValue) → AllByRecursion P rows → AllByRecursion (Puts P) (map Put rows)
  all_puts [] a = tt
  all_puts (r ∷ rs) a = (a.0, all_puts rs a.1)
