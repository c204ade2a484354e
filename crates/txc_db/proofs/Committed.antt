-- What a commit does, and what its answer says of the history after it.
use Rattle.std.proofs.Common.{◌≡◌, ◌≢◌, ◌⊎◌, inl, inr, ℕ, ◌+◌, ◌≤◌, List, [], ◌∷◌, ◌++◌, length, Some, refl, ap, sym, subst, ◌∙◌, add-one}
use Rattle.std.specs.Prelude.{Result, Ok, Err, IfOk, OnOk, IsOk}
use Rattle.std.proofs.lemmas.List.{length_push}
use mathlib.Core.List.{IsPrefix}
use Rattle.txc_stream.proofs.Offered.{prefix_self, prefix_push, push_get}
use Rattle.txc_tags.specs.declared.tag.Tag.{Tag}
use Rattle.txc_tags.specs.Tags.{sets_match}
use Rattle.txc_rows.specs.declared.query.Change.{Change}
use Rattle.txc_rows.specs.States.{State}
use Rattle.txc_rows.specs.Net.{net_changes}
use Rattle.txc_db.specs.declared.answered.Answered.{Answered}
use Rattle.txc_db.specs.declared.answered.CommitError.{CommitError}
use Rattle.txc_db.specs.Facts.{EventValue}
use Rattle.txc_db.specs.FrontsAndFeeds.{FrontValue}
use Rattle.txc_db.specs.History.{History, state_at, event_at, commit_event}
use Rattle.txc_db.specs.DatabaseValue.{DatabaseValue, newest, newest_state, newest_net, front_of, where_some, after_event_of, after_commit}
use Rattle.txc_db.specs.Refusals.{NoneMatches}
use Rattle.txc_db.specs.Calls.{IsCommittable}
use Rattle.txc_db.specs.DatabaseReply.{IsQuietIn, IsEventIn}
use Rattle.txc_db.proofs.Histories.{state_before, tags_stay}

-- ---- with a net change or none

pub empty_or : (net : List Change) → (net ≡ []) ⊎ (net ≢ [])
empty_or [] = inl refl
empty_or (c ∷ cs) = inr (λ e. let f = e in absurd cc)

some_is : (net : List Change) (d other : DatabaseValue) → net ≢ [] → where_some net d other ≡ other
some_is [] d other some = absurd (some refl)
some_is (c ∷ cs) d other some = refl

quiet_commit : (d : DatabaseValue) (changes : List Change) → newest_net d changes ≡ [] → after_commit d changes ≡ d
quiet_commit d changes none = ap (λ (net : List Change). where_some net d (after_event_of d (commit_event (newest_state d) changes) (newest_net d changes))) none

event_commit : (d : DatabaseValue) (changes : List Change) → newest_net d changes ≢ []
    → after_commit d changes ≡ after_event_of d (commit_event (newest_state d) changes) (newest_net d changes)
event_commit d changes some = some_is (newest_net d changes) d (after_event_of d (commit_event (newest_state d) changes) (newest_net d changes)) some

pub event_history : (d : DatabaseValue) (changes : List Change) → newest_net d changes ≢ []
    → (after_commit d changes).history ≡ d.history ++ commit_event (newest_state d) changes ∷ []
event_history d changes some = ap (λ (v : DatabaseValue). v.history) (event_commit d changes some)

pub commit_begins : (d : DatabaseValue) (changes : List Change) → IsPrefix d.history (after_commit d changes).history
commit_begins d changes = elim (empty_or (newest_net d changes)) [
  | inl none ↦ subst (λ (v : DatabaseValue). IsPrefix d.history v.history) (sym (quiet_commit d changes none)) (prefix_self d.history)
  | inr some ↦ subst (λ (l : History). IsPrefix d.history l) (sym (event_history d changes some)) (prefix_push d.history (commit_event (newest_state d) changes))
]

-- a commit that leaves another newest stamp has a net change
pub some_net : (d : DatabaseValue) (changes : List Change) (was is : ℕ) → was ≡ newest d → is ≡ newest (after_commit d changes) → was ≢ is → newest_net d changes ≢ []
some_net d changes was is old new more none = more (old ∙ (sym (ap newest (quiet_commit d changes none)) ∙ sym new))

-- ---- its answer

commit_event_last : (L : History) (e : EventValue) (base : ℕ) (read : List Tag) (changes : List Change) → base ≤ length L → NoneMatches L base (length L) read
    → net_changes (state_at L (length L)) changes ≢ [] → e ≡ commit_event (state_at L (length L)) changes → IsEventIn (L ++ e ∷ []) base read changes (length L + 1)
commit_event_last L e base read changes known apart some is = record {
  before = length L;
  next = refl;
  newest = sym (length_push L e);
  known = known;
  apart = λ t low high. ap (λ ts. sets_match ts read) (tags_stay L (e ∷ []) t high) ∙ apart t low high;
  some = λ none. some (ap (λ (s : State). net_changes s changes) (sym (state_before L e)) ∙ none);
  event = ap (event_at (L ++ e ∷ [])) (add-one (length L)) ∙ (push_get L e ∙ ap (λ (x : EventValue). Some x) (is ∙ ap (λ (s : State). commit_event s changes) (sym (state_before L e))));
}

commit_answer : (d : DatabaseValue) (base stamp : ℕ) (read : List Tag) (changes : List Change) (L : History)
    → L ≡ (after_commit d changes).history → stamp ≡ newest (after_commit d changes) → IsCommittable d base read changes
    → IsQuietIn L base read changes stamp ⊎ IsEventIn L base read changes stamp
commit_answer d base stamp read changes L is at due = elim (empty_or (newest_net d changes)) [
  | inl none ↦
      let same : L ≡ d.history = is ∙ ap (λ (v : DatabaseValue). v.history) (quiet_commit d changes none) in
      let last : stamp ≡ newest d = at ∙ ap newest (quiet_commit d changes none) in
      let quiet : IsQuietIn d.history base read changes (newest d) = record { newest = refl; known = due.unread.known; apart = due.unread.apart; none = none } in
      inl (subst (λ (l : History). IsQuietIn l base read changes stamp) (sym same) (subst (λ (n : ℕ). IsQuietIn d.history base read changes n) (sym last) quiet))
  | inr some ↦
      let e = commit_event (newest_state d) changes in
      let same : L ≡ d.history ++ commit_event (newest_state d) changes ∷ [] = is ∙ event_history d changes some in
      let last : stamp ≡ newest d + 1 = at ∙ (ap (λ (l : History). length l) (event_history d changes some) ∙ length_push d.history e) in
      let event = commit_event_last d.history e base read changes due.unread.known due.unread.apart some refl in
      inr (subst (λ (l : History). IsEventIn l base read changes stamp) (sym same) (subst (λ (n : ℕ). IsEventIn (d.history ++ e ∷ []) base read changes n) (sym last) event))
]

pub commit_result : (d new : DatabaseValue) (base : ℕ) (read : List Tag) (changes : List Change) (r : Result (Answered ℕ) CommitError)
    → OnOk r (new ≡ after_commit d changes)
    → IfOk r (λ answered. answered.answer ≡ newest new)
    → IfOk r (λ answered. answered.front ≡ front_of new)
    → (IsOk r → IsCommittable d base read changes)
    → IfOk r (λ answered. IsQuietIn answered.front.history base read changes answered.answer ⊎ IsEventIn answered.front.history base read changes answered.answer)
commit_result d new base read changes (Ok answered) after answer front due =
    commit_answer d base answered.answer read changes answered.front.history
    (ap (λ (f : FrontValue). f.history) front ∙ ap (λ (v : DatabaseValue). v.history) after) (answer ∙ ap newest after) (due refl)
commit_result d new base read changes (Err e) after answer front due = tt
