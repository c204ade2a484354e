-- Words for what is done under the lock, which only this crate's private functions promise.
use Rattle.std.specs.Prelude.{◌≡◌, ◌⊎◌, ◌+◌, true, false, length, fold, Some}
use Rattle.txc_stream.specs.Published.{PosterValue}
use Rattle.txc_db.specs.declared.error.DbError.{DbError}
use Rattle.txc_db.specs.declared.error.DbError.TheVariants.{Conflict, Broken}
use Rattle.txc_db.specs.declared.answered.CommitError.{CommitError}
use Rattle.txc_db.specs.declared.answered.CommitError.TheVariants as commits
use Rattle.txc_db.specs.Facts.{EventValue}
use Rattle.txc_db.specs.FrontsAndFeeds.{FrontValue}
use Rattle.txc_db.specs.History.{History}
use Rattle.txc_db.specs.DatabaseValue.{DatabaseValue}

-- the database after an error: as before; after `Broken`, it was broken before, or is so from now on, since
-- another record was in one of its logs
abbrev pub IsLockedLeft : DatabaseValue → DatabaseValue → DbError → Type 0
IsLockedLeft old new Broken =
    ((new ≡ old) × (old.broken ≡ true)) ⊎ ((old.broken ≡ false) × (new.broken ≡ true))
IsLockedLeft old new e = new ≡ old

-- the database after a failed commit
abbrev pub IsCommitLeft : DatabaseValue → DatabaseValue → CommitError → Type 0
IsCommitLeft old new (commits.Conflict conflict) = new ≡ old
IsCommitLeft old new (commits.Database refusal) = IsLockedLeft old new refusal

-- the error of a commit as its caller gets it: a conflict has the front with it
abbrev pub IsRefusalWith : FrontValue → DbError → CommitError → Type 0
IsRefusalWith front (Conflict first) e = e ≡ commits.Conflict (record { answer = first; front = front })
IsRefusalWith front refusal e = e ≡ commits.Database refusal

-- each event was posted, or preceded the publisher, and the last posted front shows the whole history
abbrev pub AreAllPosted : History → PosterValue EventValue → Type 0
AreAllPosted L p = (p.from + length p.posted ≡ length L) × (fold (λ before last. last) (Some L) p.posted ≡ Some L)
