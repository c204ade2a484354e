-- What a commit of a read-write transaction makes of the history, and what it explains.
use Rattle.std.proofs.Common.{◌≡◌, ◌≢◌, ◌∙◌, inl, inr, ℕ, ◌+◌, arith, List, [], ◌∷◌, ◌++◌, length, Option, Some, None, refl, ap, sym, subst, add-one}
use Rattle.std.specs.Prelude.{option_map, Ok}
use Rattle.std.proofs.lemmas.List.{length_push, take_all}
use Rattle.txc_stream.proofs.Offered.{prefix_push, push_get}
use Rattle.txc_tags.specs.declared.tag.Tag.{Tag}
use Rattle.txc_tags.specs.Tags.{sets_match}
use Rattle.txc_rows.specs.declared.query.Change.{Change}
use Rattle.txc_rows.specs.declared.query.Query.{Query}
use Rattle.txc_rows.specs.Net.{net_changes}
use Rattle.txc_rows.specs.States.{State}
use Rattle.txc_db.specs.Facts.{EventValue}
use Rattle.txc_db.specs.History.{History, state_at, event_at, commit_event}
use Rattle.txc_db.specs.DatabaseValue.{DatabaseValue, after_commit, after_event_of, newest, newest_net, newest_state, where_some}
use Rattle.txc_db.specs.Calls.{IsCommittable}
use Rattle.txc_db.specs.Laws.{StatesStay, TagsStay}
use Rattle.txc_db.specs.DatabaseReply.{IsQuietIn, IsEventIn}
use Rattle.txc_db.proofs.Committed.{empty_or, event_history}
use Rattle.txc_app.specs.Eval.{Next}
use Rattle.txc_call_registry.specs.Objects.{Objects}
use Rattle.txc_txn_rw.specs.RwCore.{RwValue, RwHolds, tags_read}
use Rattle.txc_txn_rw.specs.Laws.{AnswersAreRight, EventCommitsAreRight, HoldsInLonger, QuietCommitsAreRight}
use Rattle.txc_txn_rw.specs.Outcomes.{HasChanged, HasChangedNothing}
use Rattle.txc_world.specs.declared.actor.OpenCall.{OpenCall}
use Rattle.txc_world.specs.Observation.{Writing, CommitExplains}
use Rattle.txc_world.specs.Ports.{PortsValue}
use Rattle.txc_world.specs.KeeperAtPorts.{CommitTransition}
use Rattle.txc_world.specs.Actors.{told_answers}

-- ---- with a net change or none

quiet_history : (d : DatabaseValue) (changes : List Change) → newest_net d changes ≡ [] → (after_commit d changes).history ≡ d.history
quiet_history d changes none =
    ap (λ (net : List Change). (where_some net d (after_event_of d (commit_event (newest_state d) changes) (newest_net d changes))).history) none

-- ---- what the database did

module _ (states : StatesStay) (tags : TagsStay) (d : DatabaseValue) (base : ℕ) (read : List Tag) (changes : List Change) (due : IsCommittable d base read changes) where
  quiet_in : newest_net d changes ≡ [] → IsQuietIn d.history base read changes (newest d)
  quiet_in none = record { newest = refl; known = due.unread.known; apart = due.unread.apart; none = none }

  state_stays : (e : EventValue) → state_at (d.history ++ e ∷ []) (newest d) ≡ newest_state d
  state_stays e = states d.history (e ∷ []) (newest d) (omega arith)

  event_in : (e : EventValue) → e ≡ commit_event (newest_state d) changes → newest_net d changes ≢ [] → IsEventIn (d.history ++ e ∷ []) base read changes (newest d + 1)
  event_in e is some = record {
    before = newest d;
    next = refl;
    newest = sym (length_push d.history e);
    known = due.unread.known;
    apart = λ t low high. ap (λ ts. sets_match ts read) (tags d.history (e ∷ []) t high) ∙ due.unread.apart t low high;
    some = λ none. some (ap (λ (s : State). net_changes s changes) (sym (state_stays e)) ∙ none);
    event = ap (event_at (d.history ++ e ∷ [])) (add-one (newest d)) ∙ (push_get d.history e
        ∙ ap (λ (x : EventValue). Some x) (is ∙ ap (λ (s : State). commit_event s changes) (sym (state_stays e))));
  }

-- ---- what it explains

-- what is shown of a transaction without an open call
abbrev pub told_writing : RwValue → Writing
told_writing c = record { base = c.base; call = None; answers = c.answers; changes = c.changes }

module _ (next : Next) (objects : Objects) (c : RwValue) (d : DatabaseValue) (h : RwHolds next d.history objects c)
    (base_right : AnswersAreRight) (quiet_right : QuietCommitsAreRight) (event_right : EventCommitsAreRight) (longer : HoldsInLonger)
    (states : StatesStay) (tags : TagsStay) where
  explained_quiet : IsCommittable d c.base (tags_read c) c.changes → newest_net d c.changes ≡ [] → CommitExplains next d.history (newest d) (told_writing c) (newest d)
  explained_quiet due none = record {
    within = h.within;
    at_base = base_right next d.history objects c h;
    made = inl (
      refl,
      subst (λ (L : History). HasChangedNothing next L c.changes c.answers (newest d)) (sym (take_all (newest d) d.history (omega arith)))
          (quiet_right next d.history objects c (newest d) h (quiet_in states tags d c.base (tags_read c) c.changes due none)),
    );
  }

  explained_event : (e : EventValue) → e ≡ commit_event (newest_state d) c.changes → IsCommittable d c.base (tags_read c) c.changes → newest_net d c.changes ≢ []
      → CommitExplains next (d.history ++ e ∷ []) (newest d) (told_writing c) (newest d + 1)
  explained_event e is due some =
      let L' = d.history ++ e ∷ [] in
      let long : length L' ≡ newest d + 1 = length_push d.history e in
      let h' = longer next d.history L' objects c (prefix_push d.history e) h in
      record {
        within = h.within;
        at_base = base_right next L' objects c h';
        made = inr (
          refl,
          subst (λ (L : History). HasChanged next L c.changes c.answers (newest d + 1)) (sym (take_all (newest d + 1) L' (omega (arith, long))))
              (event_right next L' objects c (newest d + 1) h' (event_in states tags d c.base (tags_read c) c.changes due e is some)),
        );
      }

  explained_commit : (L' : History) (stamp : ℕ) → IsCommittable d c.base (tags_read c) c.changes → L' ≡ (after_commit d c.changes).history → stamp ≡ length L'
      → CommitExplains next L' (newest d) (told_writing c) stamp
  explained_commit L' stamp due is at = elim (empty_or (newest_net d c.changes)) [
    | inl none ↦
        let same : L' ≡ d.history = is ∙ quiet_history d c.changes none in
        let last : stamp ≡ newest d = at ∙ ap (λ (L : History). length L) same in
        subst (λ (L : History). CommitExplains next L (newest d) (told_writing c) stamp) (sym same)
        (subst (λ (n : ℕ). CommitExplains next d.history (newest d) (told_writing c) n) (sym last) (explained_quiet due none))
    | inr some ↦
        let e = commit_event (newest_state d) c.changes in
        let same : L' ≡ d.history ++ commit_event (newest_state d) c.changes ∷ [] = is ∙ event_history d c.changes some in
        let last : stamp ≡ newest d + 1 = at ∙ (ap (λ (L : History). length L) same ∙ length_push d.history e) in
        subst (λ (L : History). CommitExplains next L (newest d) (told_writing c) stamp) (sym same)
        (subst (λ (n : ℕ). CommitExplains next (d.history ++ e ∷ []) (newest d) (told_writing c) n) (sym last) (explained_event e refl due some))
  ]

  -- what was lent to the commit is the core's
  pub explained_lent : (old new : PortsValue) (base : ℕ) (read : List Tag) (changes : List Change) (stamp : ℕ) → old.database ≡ d → CommitTransition base read changes old new (Ok stamp)
      → base ≡ c.base → read ≡ tags_read c → changes ≡ c.changes
      → CommitExplains next new.database.history (newest d) (told_writing c) stamp
  explained_lent old new base read changes stamp same transition one two three =
      let due : IsCommittable d c.base (tags_read c) c.changes =
      subst (λ (cs : List Change). IsCommittable d c.base (tags_read c) cs) three
      (subst (λ (r : List Tag). IsCommittable d c.base r changes) two
      (subst (λ (b : ℕ). IsCommittable d b read changes) one
      (subst (λ (v : DatabaseValue). IsCommittable v base read changes) same transition.2))) in
      let is : new.database.history ≡ (after_commit d c.changes).history =
      ap (λ (p : PortsValue). p.database.history) transition.0
      ∙ (ap (λ (v : DatabaseValue). (after_commit v changes).history) same ∙ ap (λ (cs : List Change). (after_commit d cs).history) three) in
      explained_commit new.database.history stamp due is transition.1

-- and where no call is open, it is all that is shown
pub explained_open : (next : Next) (L : History) (count : ℕ) (c : RwValue) (stamp : ℕ) (call : Option (OpenCall Query)) → call ≡ None → CommitExplains next L count (told_writing c) stamp
    → CommitExplains next L count (record { base = c.base; call = option_map (λ k. k.key) call; answers = told_answers call c.answers; changes = c.changes }) stamp
explained_open next L count c stamp call none h = rw none h
