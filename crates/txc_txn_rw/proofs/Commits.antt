-- What a commit did.
use Rattle.std.proofs.Common.{◌≡◌, ◌⊎◌, inl, inr, ⊎_elim, ℕ, zero, suc, ◌+◌, ◌-◌, ◌≤◌, List, sym, ap, ◌∙◌, arith, Contains, length, subst}
use mathlib.Core.List.{IsPrefix}
use Rattle.txc_tags.specs.declared.tag.Tag.{Tag}
use Rattle.txc_rows.specs.declared.query.Change.{Change}
use Rattle.txc_rows.specs.States.{State}
use Rattle.txc_rows.specs.declared.query.Query.{Query}
use Rattle.txc_rows.specs.States.{answer}
use Rattle.txc_db.specs.History.{History, state_at}
use Rattle.txc_db.specs.Refusals.{NoneMatches}
use Rattle.txc_db.specs.Laws.{EventTagsAreSound, StatesStay}
use Rattle.txc_rows.proofs.Rising.{changes_state}
use Rattle.txc_rows.proofs.RowTagLemmas.{tags_sound}
use Rattle.txc_db.proofs.Histories.{event_tags_sound}
use Rattle.txc_db.specs.DatabaseReply.{IsQuietIn, IsEventIn}
use Rattle.txc_app.specs.Eval.{Next}
use Rattle.txc_call_registry.specs.Objects.{Objects}
use Rattle.txc_txn_rw.specs.Answers.{AgreeOn, state_of}
use Rattle.txc_txn_rw.specs.RwCore.{RwValue, RwHolds, tags_of, tags_read}
use Rattle.txc_txn_rw.specs.Outcomes.{HasChanged, HasChangedNothing, IsCommitted}
use Rattle.txc_txn_rw.proofs.Holding.{holds_in_longer, right_where}
use Rattle.txc_txn_rw.proofs.Lists.{tags_cover}

module _ (sound : EventTagsAreSound) (L : History) (qs : List Query) (base last : ℕ) (apart : NoneMatches L base last (tags_of qs)) where
  -- no event after the base changes what a query gives
  same_answer : (q : Query) → Contains qs q → (k t : ℕ) → t ≡ base + k → t ≤ last → answer q (state_at L t) ≡ answer q (state_at L base)
  same_answer q there zero t is within =
      let same : t ≡ base = omega (arith, is) in
      ap (λ (n : ℕ). answer q (state_at L n)) same
  same_answer q there (suc k) zero is within = absurd (omega (arith, is))
  same_answer q there (suc k) (suc t) is within =
      sym (sound L t q (tags_of qs) (apart (suc t) (omega (arith, is)) within) (tags_cover qs q there))
      ∙ same_answer q there k t (omega (arith, is)) (omega (arith, within))

  pub agree_at : base ≤ last → AgreeOn qs (state_at L base) (state_at L last)
  agree_at known = λ q there. same_answer q there (last - base) last (omega (arith, known)) (omega arith)

-- an event whose tags do not match leaves the answers that they cover
pub event_tags_are_sound : EventTagsAreSound
event_tags_are_sound = event_tags_sound changes_state tags_sound

pub quiet_commits_are_right : EventTagsAreSound → (next : Next) (L : History) (objects : Objects) (c : RwValue) (stamp : ℕ) → RwHolds next L objects c
    → IsQuietIn L c.base (tags_read c) c.changes stamp → HasChangedNothing next L c.changes c.answers stamp
quiet_commits_are_right sound next L objects c stamp h quiet = record {
  newest = quiet.newest;
  none = quiet.none;
  right = right_where next L objects c h stamp (agree_at sound L c.queried c.base stamp quiet.apart quiet.known);
}

pub event_commits_are_right : EventTagsAreSound → (next : Next) (L : History) (objects : Objects) (c : RwValue) (stamp : ℕ) → RwHolds next L objects c
    → IsEventIn L c.base (tags_read c) c.changes stamp → HasChanged next L c.changes c.answers stamp
event_commits_are_right sound next L objects c stamp h one = record {
  before = one.before;
  one_more = one.next;
  newest = one.newest;
  some = one.some;
  event = one.event;
  right = right_where next L objects c h one.before (agree_at sound L c.queried c.base one.before one.apart one.known);
}

pub commits_are_right : EventTagsAreSound → (next : Next) (L : History) (objects : Objects) (c : RwValue) (stamp : ℕ) → RwHolds next L objects c
    → IsQuietIn L c.base (tags_read c) c.changes stamp ⊎ IsEventIn L c.base (tags_read c) c.changes stamp → IsCommitted next L c stamp
commits_are_right sound next L objects c stamp h =
    ⊎_elim
    (λ (quiet : IsQuietIn L c.base (tags_read c) c.changes stamp). inl (quiet_commits_are_right sound next L objects c stamp h quiet))
    (λ (one : IsEventIn L c.base (tags_read c) c.changes stamp). inr (event_commits_are_right sound next L objects c stamp h one))

-- what holds in a history holds in another that begins alike and has the base
pub holds_seen : StatesStay → (next : Next) (L F : History) (objects : Objects) (c : RwValue) → IsPrefix L F ⊎ IsPrefix F L → c.base ≤ length F → RwHolds next L objects c → RwHolds next F objects c
holds_seen stay next L F objects c agree within h =
    ⊎_elim
    (λ (longer : IsPrefix L F). holds_in_longer stay next L F objects c longer h)
    (λ (shorter : IsPrefix F L).
    let same : state_at L c.base ≡ state_at F c.base = subst (λ (l : History). state_at l c.base ≡ state_at F c.base) shorter.1 (stay F shorter.0 c.base within) in
    record {
      within = within;
      answers = λ changes on. h.answers changes (subst (λ (s : State). AgreeOn c.queried s (state_of changes)) (sym same) on);
      call = λ changes on. h.call changes (subst (λ (s : State). AgreeOn c.queried s (state_of changes)) (sym same) on);
    })
    agree

-- a commit knows its base
pub knows_base : (L : History) (base stamp : ℕ) (read : List Tag) (changes : List Change) → IsQuietIn L base read changes stamp ⊎ IsEventIn L base read changes stamp → base ≤ length L
knows_base L base stamp read changes =
    ⊎_elim
    (λ (quiet : IsQuietIn L base read changes stamp). let known = quiet.known in let newest = quiet.newest in omega (arith, known, newest))
    (λ (one : IsEventIn L base read changes stamp). let known = one.known in let newest = one.newest in let more = one.next in omega (arith, known, newest, more))

-- the database's answer to a commit
abbrev pub Answer : History → ℕ → List Tag → List Change → ℕ → Type 0
Answer L base read changes stamp = IsQuietIn L base read changes stamp ⊎ IsEventIn L base read changes stamp

-- the answer to what was lent
pub answer_lent : (L : History) (stamp base base' : ℕ) (read read' : List Tag) (changes changes' : List Change) → base ≡ base' → read ≡ read' → changes ≡ changes'
    → Answer L base read changes stamp → Answer L base' read' changes' stamp
answer_lent L stamp base base' read read' changes changes' one two three h =
    subst (λ (cs : List Change). Answer L base' read' cs stamp) three
    (subst (λ (r : List Tag). Answer L base' r changes stamp) two (subst (λ (b : ℕ). Answer L b read changes stamp) one h))
