-- The laws of a service's own database.
use Rattle.std.specs.Prelude.{◌≡◌, ℕ, ◌<◌, ◌≤◌, ◌^◌, List, map, take, Some}
use Rattle.txc_tags.specs.Keys.{Call}
use Rattle.txc_rows.specs.States.{State}
use Rattle.txc_db.specs.History.{History, state_at, moment_at}
use Rattle.txc_app.specs.declared.ask.Answer.TheVariants as answers
use Rattle.txc_app.specs.Eval.{eval}
use Rattle.txc_app_external.specs.Snapshots.{Read, Snapshots, last_snapshot, ReadsAreCovered, last_noted, version_rows, IsVersionTable}
use Rattle.txc_app_external.specs.Functions.{Functions, uncached, first_with, over_versions}
use Rattle.txc_app_external.specs.VersionHistory.{HasFollowed, FollowsSnapshots}

-- the number of each snapshot fits 64 bits
abbrev pub AreNumbered : Snapshots → Type 0
AreNumbered D = last_snapshot D < 2 ^ 64

-- a read may be made in any snapshot in which its tags have their versions: it finds the same as in the first
-- of these
abbrev pub FoundInEachSuchSnapshot : Type 0
FoundInEachSuchSnapshot = (D : Snapshots) (r : Read) (k : ℕ) → ReadsAreCovered D → AreNumbered D → k ≤ last_snapshot D
    → D.find (first_with (map (λ t. answers.Rows (version_rows t (last_noted D t k))) (D.tags_of r))) r ≡ D.find k r

-- a value that a call has over the version table of a snapshot is its result if reads find what this snapshot
-- has, with no cache
abbrev pub ValuesAreUncached : Snapshots → Type 0
ValuesAreUncached D = (own : Functions) (k : ℕ) (s : State) (call : Call) (value : List ℕ)
    → k ≤ last_snapshot D → IsVersionTable D k s
    → eval (over_versions D own) call s ≡ Some value → uncached own (D.find k) call ≡ Some value

-- the premise implies it, if the snapshots are numbered so
abbrev pub CachedIsUncached : Type 0
CachedIsUncached = (D : Snapshots) → ReadsAreCovered D → AreNumbered D → ValuesAreUncached D

-- each beginning of a history that follows the snapshots follows them too: so does what a receipt has seen of
-- it
abbrev pub BeginningsFollow : Type 0
BeginningsFollow = (D : Snapshots) (L : History) (n : ℕ) → FollowsSnapshots D L → FollowsSnapshots D (take n L)

-- The pin at this stamp, of this moment, shows a snapshot: the history up to and with the pin has followed the
-- snapshots up to it. The state there is the snapshot's version table, and the pin's moment is not after the
-- snapshot's.
pub record ShowsSnapshot (D : Snapshots) (L : History) (stamp moment : ℕ) : Type 0 where
  pub number : ℕ
  pub taken : number ≤ last_snapshot D
  pub followed : HasFollowed D (take stamp L) number
  pub table : IsVersionTable D number (state_at L stamp)
  pub no_later : moment ≤ D.moment number

-- each pin of a history that follows the snapshots shows one
abbrev pub PinsShowVersionTables : Type 0
PinsShowVersionTables = (D : Snapshots) (L : History) (stamp moment : ℕ) → FollowsSnapshots D L
    → moment_at L stamp ≡ Some moment → ShowsSnapshot D L stamp moment
