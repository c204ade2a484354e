-- Through all that is done to a store its versions keep the states.
use Rattle.std.proofs.Common.{◌≡◌, ℕ, ◌<◌, ◌≤◌, max, not, List, [], ◌∷◌, fold, refl, sym, ap, subst, ◌∙◌, arith}
use Rattle.std.proofs.lemmas.Bool.Decides.{nat_tests}
use borrow.Author.Tests.{le-leb, lt-leb}
use Rattle.std.specs.List.{AllByRecursion}
use Rattle.txc_rows.specs.declared.version.Versioned.{Versioned}
use Rattle.txc_rows.specs.declared.query.Change.{Change}
use Rattle.txc_rows.specs.States.{State, IsState, after_changes}
use Rattle.txc_rows.specs.Net.{IsNet}
use Rattle.txc_rows.specs.Versions.{after_net, after_write, purged, has_died_by}
use Rattle.txc_rows.specs.StorableVersions.{AreHeld, IsWritable}
use Rattle.txc_rows.specs.KeptStates.{KeepsStates, StateTransition}
use Rattle.txc_rows.specs.StoreHistory.{Use, write, purge, versions_after_use, use_at, horizon_after_use, AreUsesInOrder, UsesAnswer, KeepsNothing, KeepsAgreed, KeepsQuiet}
use Rattle.txc_rows.proofs.SaysLemmas.{says_agree}
use Rattle.txc_rows.proofs.StoredVersions.{held_write, held_kept}
use Rattle.txc_rows.proofs.KeepingLemmas.{keeps_nothing, keeps_quiet, keeps_to, keeps_written, keeps_purged, found_answers}

pub nothing_kept : KeepsNothing
nothing_kept = keeps_nothing

pub quiet_kept : KeepsQuiet
quiet_kept = keeps_quiet

pub agreed_kept : KeepsAgreed
agreed_kept states others horizon newest vs same keeps = record {
  kept = keeps.kept;
  each = λ t low high. subst IsState (same t low high) (keeps.each t low high);
  says = says_agree states others horizon newest vs same keeps.says;
  clean = keeps.clean;
  versions = keeps.versions;
}

held_net : (stamp : ℕ) (net : List Change) (vs : List Versioned) → AllByRecursion (IsWritable stamp) net → AreHeld vs → AreHeld (after_net stamp net vs)
held_net stamp [] vs can held = held
held_net stamp (c ∷ cs) vs can held = held_net stamp cs (after_write stamp c vs) can.1 (held_write stamp c vs can.0 held)

low_max : (a b : ℕ) → a ≤ max a b
low_max a b = grind (arith, nat_tests)

high_max : (a b : ℕ) → b ≤ max a b
high_max a b = grind (arith, nat_tests)

-- the states that the versions keep after some uses, and the stamp after which they stay
record KeptAfter (states : ℕ → State) (horizon : ℕ) (vs : List Versioned) : Type 0 where
  pub last : ℕ
  pub keeps : KeepsStates states horizon last vs
  pub stays : (t : ℕ) → last ≤ t → states t ≡ states last

keeps_uses : (uses : List Use) (states : ℕ → State) (horizon newest : ℕ) (vs : List Versioned) → KeepsStates states horizon newest vs → ((t : ℕ) → newest ≤ t → states t ≡ states newest) → AreHeld vs
    → AreUsesInOrder (states newest) horizon newest uses → KeptAfter (λ t. fold (use_at t) (states t) uses) (fold horizon_after_use horizon uses) (fold versions_after_use vs uses)
keeps_uses [] states horizon newest vs keeps stays held rising = record { last = newest; keeps = keeps; stays = stays }
keeps_uses (write net stamp ∷ uses) states horizon newest vs keeps stays held rising =
    keeps_uses uses next horizon stamp (after_net stamp net vs) (keeps_written net stamp vs written.each next horizon newest before transition)
    (λ t low. rw (le-leb stamp t low, le-leb stamp stamp (omega arith)) (ap (after_changes net) (stays t (omega arith) ∙ sym (stays stamp (omega arith))))) written (subst (λ s. AreUsesInOrder s horizon stamp uses) (sym changed) rising.3)
  where
    next : ℕ → State
    next t = use_at t (states t) (write net stamp)

    later : newest < stamp
    later = rising.0

    written : AreHeld (after_net stamp net vs)
    written = held_net stamp net vs rising.2 held

    as_before : (t : ℕ) → t < stamp → states t ≡ next t
    as_before t low = rw (lt-leb stamp t low) refl

    changed : next stamp ≡ after_changes net (states newest)
    changed = rw (le-leb stamp stamp (omega arith)) (ap (after_changes net) (stays stamp (omega arith)))

    before : KeepsStates next horizon newest vs
    before = agreed_kept states next horizon newest vs (λ t low high. as_before t (omega arith)) keeps

    transition : StateTransition next newest stamp net
    transition = record {
      later = later;
      quiet = λ t low high. sym (as_before t high) ∙ stays t low ∙ as_before newest later;
      changes = subst (λ s. IsNet s net (next stamp)) (as_before newest later) (subst (IsNet (states newest) net) (sym changed) rising.1);
    }
keeps_uses (purge next ∷ uses) states horizon newest vs keeps stays held rising =
    let low = low_max newest next in
    let high = high_max newest next in
    let all = keeps_to states horizon newest (max newest next) vs low (λ t from to. stays t from) keeps in
    let same : states (max newest next) ≡ states newest = stays (max newest next) low in
    keeps_uses uses states next (max newest next) (purged next vs) (keeps_purged next vs states horizon (max newest next) all rising.0 high)
    (λ t late. stays t (omega arith) ∙ sym same) (held_kept (λ v. not (has_died_by next v)) vs held) (subst (λ s. AreUsesInOrder s next (max newest next) uses) (sym same) rising.1)

pub uses_answer : UsesAnswer
uses_answer uses q found t rising finds late =
    let kept = keeps_uses uses (λ s. []) 0 0 [] (keeps_nothing (λ s. []) refl) (λ s low. refl) (record { each = tt; ended = tt }) rising in
    let low = low_max kept.last t in
    let high = high_max kept.last t in
    let all = keeps_to _ _ kept.last (max kept.last t) _ low (λ s from to. kept.stays s from) kept.keeps in
    let shows = found_answers q _ found finds _ _ (max kept.last t) all in
    (shows.answers t late high, shows.versions)
