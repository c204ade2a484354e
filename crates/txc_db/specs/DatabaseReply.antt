-- Results of the shared database, by their values and by the front with them.
use Rattle.std.specs.Prelude.{◌≡◌, ◌≢◌, ℕ, ◌+◌, ◌≤◌, false, List, [], length, Some}
use Rattle.txc_tags.specs.declared.tag.Tag.{Tag}
use Rattle.txc_stream.specs.Names.{Name}
use Rattle.txc_rows.specs.declared.query.Change.{Change}
use Rattle.txc_rows.specs.declared.query.Query.{Query}
use Rattle.txc_rows.specs.Net.{net_changes}
use Rattle.txc_validity.specs.declared.answer.Found.{Found}
use Rattle.txc_validity.specs.Answers.{IsAnswer}
use Rattle.txc_db.specs.declared.error.DbError.TheVariants.{Conflict, Memory}
use Rattle.txc_db.specs.declared.answered.Answered.{Answered}
use Rattle.txc_db.specs.declared.answered.CommitError.{CommitError}
use Rattle.txc_db.specs.declared.answered.CommitError.TheVariants as commits
use Rattle.txc_db.specs.History.{History, state_at, event_at, commit_event}
use Rattle.txc_db.specs.DatabaseValue.{DatabaseValue, IsSound, front_of}
use Rattle.txc_db.specs.Room.{events_room}
use Rattle.txc_db.specs.Refusals.{NoneMatches, IsConflict}
use Rattle.txc_db.specs.Calls.{IsAnswerable, matching_of, IsBase, IsCommitRefused}

-- a database with this history: it has no more events than there is room for, and unless it is broken, it is
-- sound
pub record IsDatabaseOf (events : Name) (d : DatabaseValue) : Type 0 where
  pub named : d.events ≡ events
  pub fits : length d.history ≤ events_room d.events
  pub sound : d.broken ≡ false → IsSound d

-- some database with the history of this name answers so
abbrev pub MayAnswer : {A : Type 0} → Name → (DatabaseValue → A → Type 0) → A → Type 0
MayAnswer events answers a = (d : DatabaseValue) × IsDatabaseOf events d × answers d a

-- ---- answers of a query

-- the front shows the whole history of the database, which can answer at the stamp; and this is the answer in
-- that history, valid from the database's horizon to its newest stamp
pub record IsQueryAnswer (d : DatabaseValue) (q : Query) (stamp : ℕ) (answered : Answered Found) : Type 0 where
  pub known : IsAnswerable d stamp
  pub few : matching_of d q ≤ d.most
  pub front : answered.front ≡ front_of d
  pub answer : let L = answered.front.history
      in IsAnswer (state_at L) q stamp d.horizon (length L) answered.answer

-- ---- answers of a commit

-- nothing changed: there is no net change over the newest state, which the stamp names
pub record IsQuietIn (L : History) (base : ℕ) (read : List Tag) (changes : List Change) (stamp : ℕ)
    : Type 0 where
  pub newest : stamp ≡ length L
  pub known : base ≤ stamp
  pub apart : NoneMatches L base stamp read
  pub none : net_changes (state_at L stamp) changes ≡ []

-- the last event is the commit of the net changes over the state before it, and none from the base up to it
-- matches what was read
pub record IsEventIn (L : History) (base : ℕ) (read : List Tag) (changes : List Change) (stamp : ℕ)
    : Type 0 where
  pub before : ℕ
  pub next : stamp ≡ before + 1
  pub newest : stamp ≡ length L
  pub known : base ≤ before
  pub apart : NoneMatches L base before read
  pub some : net_changes (state_at L before) changes ≢ []
  pub event : event_at L stamp ≡ Some (commit_event (state_at L before) changes)

-- ---- errors

-- some database with this history fails so
abbrev pub MayRefuse : {E : Type 0} → Name → (DatabaseValue → E → Type 0) → E → Type 0
MayRefuse events refused e = MayAnswer events refused e

-- the first event after the base that matches what was read, and a front of the whole history, which has it
pub record IsConflictShown (d : DatabaseValue) (base : ℕ) (read : List Tag) (conflict : Answered ℕ)
    : Type 0 where
  pub known : IsBase d base
  pub first : IsConflict d.history base read conflict.answer
  pub front : conflict.front ≡ front_of d

-- a commit fails as it does without a lock, except that memory may be missing as soon as the base is known; a
-- conflict comes with a front
abbrev pub IsSharedCommitRefused : DatabaseValue → ℕ → List Tag → List Change → CommitError → Type 0
IsSharedCommitRefused d base read changes (commits.Conflict conflict) = IsConflictShown d base read conflict
IsSharedCommitRefused d base read changes (commits.Database (Conflict first)) = ⊥
IsSharedCommitRefused d base read changes (commits.Database Memory) = IsBase d base
IsSharedCommitRefused d base read changes (commits.Database refusal) =
    IsCommitRefused d base read changes refusal
