-- The versions of a store go on saying the kept states, and what is found of them shows the answers.
use Rattle.std.proofs.Common.{◌≡◌, inl, inr, ℕ, zero, suc, ◌+◌, ◌-◌, ◌≤◌, not, List, [], ◌∷◌, filter, cond, Option, Some, None, is_none, refl, sym, ap, subst, ◌∙◌, add-zero, arith}
use borrow.Author.Tests.{le-leb}
use Rattle.std.proofs.lemmas.List.Sorted.{IsPermutation-sym, Contains-permutation}
use Rattle.txc_rows.specs.declared.version.Versioned.{Versioned}
use Rattle.txc_rows.specs.declared.query.Query.{Query}
use Rattle.txc_rows.specs.declared.query.Change.{Change}
use Rattle.txc_rows.specs.States.{State, IsState}
use Rattle.txc_rows.specs.Net.{IsNet}
use Rattle.txc_rows.specs.Versions.{suits, current, after_net, purged, died_by, has_died_by}
use Rattle.txc_rows.specs.FoundVersions.{Finds}
use Rattle.txc_rows.specs.VersionsAndStates.{AreUpTo}
use Rattle.txc_rows.specs.StorableVersions.{IsStorable}
use Rattle.std.specs.List.{AllByRecursion}
use Rattle.txc_rows.specs.KeptStates.{KeepsStates, KeepsWritten, KeepsPurged, AnswersStates}
use Rattle.txc_rows.proofs.Members.{is_in, contains_it, in_filter, from_filter}
use Rattle.txc_rows.proofs.Rising.{changes_state}
use Rattle.txc_rows.proofs.SaysLemmas.{newest_or, says_answer, says_nothing, says_written, says_quiet, says_purged}
use Rattle.txc_rows.proofs.Writable.{net_is_writable}
use Rattle.txc_rows.proofs.VersionLemmas.{written_versions, kept_versions}
use Rattle.txc_rows.proofs.Clean.{purged_twice, clean_net}
use Rattle.txc_rows.proofs.Finding.{finds_versions, shown_rises}

-- ---- no versions

pub keeps_nothing : (states : ℕ → State) → states 0 ≡ [] → KeepsStates states 0 0 []
keeps_nothing states empty = record {
  kept = omega arith;
  each = λ t low high. let now : t ≡ 0 = omega arith in rw (now, empty) tt;
  says = says_nothing states empty;
  clean = refl;
  versions = record { each = tt; apart = tt };
}

-- ---- stamps at which no state changes

one_more_state : (states : ℕ → State) (horizon newest : ℕ) (vs : List Versioned) → KeepsStates states horizon newest vs → IsState (states (suc newest)) → (t : ℕ) → horizon ≤ t → t ≤ suc newest → IsState (states t)
one_more_state states horizon newest vs keeps next t low high = elim (newest_or t newest high) [
  | inl now ↦ rw now next
  | inr then ↦ keeps.each t low then
]

pub keeps_quiet : (states : ℕ → State) (horizon newest : ℕ) (vs : List Versioned) → states (suc newest) ≡ states newest → KeepsStates states horizon newest vs → KeepsStates states horizon (suc newest) vs
keeps_quiet states horizon newest vs same keeps = record {
  kept = let k = keeps.kept in omega arith;
  each = one_more_state states horizon newest vs keeps (rw same (keeps.each newest keeps.kept (omega arith)));
  says = says_quiet states horizon newest vs keeps.kept same keeps.says;
  clean = keeps.clean;
  versions = keeps.versions;
}

keeps_long : (states : ℕ → State) (horizon newest : ℕ) (vs : List Versioned) (k : ℕ) → ((t : ℕ) → newest ≤ t → t ≤ newest + k → states t ≡ states newest) → KeepsStates states horizon newest vs → KeepsStates states horizon (newest + k) vs
keeps_long states horizon newest vs zero stays keeps = rw add-zero keeps
keeps_long states horizon newest vs (suc k) stays keeps =
    let before = keeps_long states horizon newest vs k (λ t low high. stays t low (omega arith)) keeps in
    let same : states (suc (newest + k)) ≡ states (newest + k) = stays (suc (newest + k)) (omega arith) (omega arith) ∙ sym (stays (newest + k) (omega arith) (omega arith)) in
    let next : suc (newest + k) ≡ newest + suc k = omega arith in
    subst (λ n. KeepsStates states horizon n vs) next (keeps_quiet states horizon (newest + k) vs same before)

-- up to a later stamp
pub keeps_to : (states : ℕ → State) (horizon newest last : ℕ) (vs : List Versioned) → newest ≤ last → ((t : ℕ) → newest ≤ t → t ≤ last → states t ≡ states newest) → KeepsStates states horizon newest vs → KeepsStates states horizon last vs
keeps_to states horizon newest last vs later stays keeps =
    let apart : newest + (last - newest) ≡ last = omega arith in
    subst (λ n. KeepsStates states horizon n vs) apart (keeps_long states horizon newest vs (last - newest) (λ t low high. stays t low (omega arith)) keeps)

-- ---- a write

keeps_next : (states : ℕ → State) (horizon newest : ℕ) (net : List Change) (vs : List Versioned) → IsNet (states newest) net (states (suc newest)) → AllByRecursion IsStorable (after_net (suc newest) net vs)
    → KeepsStates states horizon newest vs → KeepsStates states horizon (suc newest) (after_net (suc newest) net vs)
keeps_next states horizon newest net vs is held keeps = record {
  kept = let k = keeps.kept in omega arith;
  each = one_more_state states horizon newest vs keeps (subst IsState is.transition (changes_state net (states newest) (keeps.each newest keeps.kept (omega arith))));
  says = says_written states horizon newest net vs keeps.kept (sym is.transition) keeps.says;
  clean = clean_net horizon (suc newest) (let k = keeps.kept in omega arith) net vs keeps.clean;
  versions = written_versions (suc newest) net vs keeps.versions (net_is_writable states horizon newest net vs (states (suc newest)) keeps.kept keeps.says is) held;
}

pub keeps_written : (net : List Change) (stamp : ℕ) (vs : List Versioned) → AllByRecursion IsStorable (after_net stamp net vs) → KeepsWritten net stamp vs (after_net stamp net vs)
keeps_written net zero vs held states horizon newest keeps transition = absurd (let late = transition.later in omega arith)
keeps_written net (suc last) vs held states horizon newest keeps transition =
    let late = transition.later in
    let before = keeps_to states horizon newest last vs (omega arith) (λ t low high. transition.quiet t low (omega arith)) keeps in
    let same : states last ≡ states newest = transition.quiet last (omega arith) (omega arith) in
    keeps_next states horizon last net vs (subst (λ s. IsNet s net (states (suc last))) (sym same) transition.changes) held before

-- ---- a purge

pub keeps_purged : (next : ℕ) (vs : List Versioned) → KeepsPurged next vs (purged next vs)
keeps_purged next vs states horizon newest keeps later known = record {
  kept = known;
  each = λ t low high. keeps.each t (omega arith) high;
  says = says_purged states horizon newest next vs later keeps.says;
  clean = purged_twice next vs;
  versions = kept_versions (λ v. not (has_died_by next v)) vs keeps.versions;
}

-- ---- what has not died

-- where nothing has happened after a stamp, those that have not died are those that a purge up to it leaves
pub no_later : (t : ℕ) (vs : List Versioned) → AreUpTo t vs → current vs ≡ purged t vs
no_later t [] all = refl
no_later t (v ∷ vs) all = go v.died all.0.1 (no_later t vs all.1)
  where
    go : (d : Option ℕ) → ((s : ℕ) → d ≡ Some s → s ≤ t) → current vs ≡ purged t vs
        → cond (is_none d) (v ∷ current vs) (current vs) ≡ cond (not (died_by t d)) (v ∷ purged t vs) (purged t vs)
    go None low same = ap (λ xs. v ∷ xs) same
    go (Some d) low same = rw (le-leb d t (low d refl)) same

-- ---- what is found

pub found_answers : (q : Query) (vs found : List Versioned) → Finds q vs found → AnswersStates q vs found
found_answers q vs found finds states horizon newest keeps =
    let versions = finds_versions q vs found keeps.versions finds in
    record {
      answers = λ t low high. says_answer q t vs found (states t) (keeps.each t low high) (keeps.says.kept t low high)
          (λ v there.
          let passed = Contains-permutation found (filter (suits q) vs) v (IsPermutation-sym _ _ finds.same) there in
          contains_it vs v (from_filter (suits q) v vs (is_in (filter (suits q) vs) v passed)).0)
          (λ v there fits.
          let passed = in_filter (suits q) v vs (is_in vs v there) fits in
          Contains-permutation (filter (suits q) vs) found v finds.same (contains_it (filter (suits q) vs) v passed))
          (shown_rises t q found versions.apart finds.sorted);
      versions = versions;
    }
