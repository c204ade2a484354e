-- The source of jobs, a database and its pincushion, and the effect of changes and pins on it.
use Rattle.std.specs.Prelude.{◌≡◌, ℕ, false, [], ◌∷◌, length, Result, Ok, Err}
use Rattle.txc_db.specs.Room.{HasCapacity}
use Rattle.txc_rows.specs.declared.store_error.TheConstants.{MAX_MATCHING}
use Rattle.txc_rows.specs.declared.query.Change.{Change}
use Rattle.txc_db.specs.declared.error.DbError.{DbError}
use Rattle.txc_db.specs.declared.pinned.Pinned.{Pinned}
use Rattle.txc_db.specs.DatabaseValue.{after_commit, after_pin, after_unpin, front_of, newest, DatabaseValue}
use Rattle.txc_db.specs.Calls.{IsCommittable, IsCommitRefused, IsLeft, IsPinnable, IsPinRefused}
use Rattle.txc_cushion.specs.declared.error.AddError.{AddError}
use Rattle.txc_cushion.specs.Cushion.{after_add, after_give_back, empty_cushion, CushionValue}
use Rattle.txc_cushion.specs.Refusals.{IsAddable, IsAddRefused}
use Rattle.txc_script_batch.specs.declared.prepared.PrepareError.{PrepareError}
use Rattle.txc_script_batch.specs.declared.prepared.PrepareError.TheVariants.{Database, Pincushion}

-- a database, and its pincushion
pub record SourceValue : Type 0 where
  pub database : DatabaseValue
  pub cushion : CushionValue

-- a new database, with room for `row_cap` events, and no pin
pub record IsNewSource (row_cap : ℕ) (s : SourceValue) : Type 0 where
  pub history : s.database.history ≡ []
  pub room : HasCapacity s.database.events row_cap
  pub versions : s.database.versions ≡ []
  pub horizon : s.database.horizon ≡ 0
  pub limit : s.database.most ≡ MAX_MATCHING
  pub holds : s.database.holds ≡ []
  pub whole : s.database.broken ≡ false
  pub cushion : s.cushion ≡ empty_cushion (front_of s.database)

-- the database failed, and nothing else was called
pub record HasRefusedSource (old : SourceValue) (error : DbError) (new : SourceValue) : Type 0 where
  pub is : new ≡ record old { database = new.database }
  pub left : IsLeft old.database new.database error

-- the change was committed at the newest stamp, with nothing read, and this is the newest stamp after it
pub record HasMadeChange (change : Change) (old : SourceValue) (stamp : ℕ) (new : SourceValue) : Type 0 where
  pub is : new ≡ record old { database = after_commit old.database (change ∷ []) }
  pub stamp_is : stamp ≡ newest new.database
  pub only_if : IsCommittable old.database (newest old.database) [] (change ∷ [])

-- a change was committed, or the database failed to commit it
abbrev pub MakesChange : Change → SourceValue → Result ℕ PrepareError → SourceValue → Type 0
MakesChange change old (Ok stamp) new = HasMadeChange change old stamp new
MakesChange change old (Err (Database error)) new = HasRefusedSource old error new
    × IsCommitRefused old.database (newest old.database) [] (change ∷ []) error
MakesChange change old (Err (Pincushion error)) new = ⊥

-- the pin that the database makes of the present, at this moment
pub record IsPinOfPresent (now : ℕ) (d : DatabaseValue) (pinned : Pinned) : Type 0 where
  pub stamp : pinned.stamp ≡ newest (after_pin d now)
  pub moment : pinned.moment ≡ now
  pub front : pinned.front ≡ front_of (after_pin d now)
  pub only_if : IsPinnable d 0

-- the pin was added and its user returned, so that no transaction uses it
pub record HasPinnedPresent (now : ℕ) (old : SourceValue) (stamp : ℕ) (new : SourceValue) : Type 0 where
  pub pinned : Pinned
  pub made : IsPinOfPresent now old.database pinned
  pub stamp_is : stamp ≡ pinned.stamp
  pub only_if : IsAddable old.cushion stamp
  pub database : new.database ≡ after_pin old.database now
  pub cushion : new.cushion ≡ after_give_back (after_add old.cushion pinned) (stamp ∷ [])

-- the addition of the pin failed, and the pin's hold was released
pub record HasUnpinnedPresent (now : ℕ) (old : SourceValue) (error : AddError) (new : SourceValue)
    : Type 0 where
  pub pinned : Pinned
  pub made : IsPinOfPresent now old.database pinned
  pub refused : IsAddRefused old.cushion pinned.stamp error
  pub database : new.database ≡ after_unpin (after_pin old.database now) pinned.stamp
  pub cushion : new.cushion ≡ old.cushion

-- the present was pinned and the pin added; or the database failed, or the pincushion
abbrev pub MakesPin : ℕ → SourceValue → Result ℕ PrepareError → SourceValue → Type 0
MakesPin now old (Ok stamp) new = HasPinnedPresent now old stamp new
MakesPin now old (Err (Database error)) new = HasRefusedSource old error new × IsPinRefused old.database 0 error
MakesPin now old (Err (Pincushion error)) new = HasUnpinnedPresent now old error new

-- ---- only private functions need this

-- the pin was added and its user returned; or the addition failed, and nothing has changed
abbrev pub HasAddedPin : {T : Type 0} → Pinned → SourceValue → Result T AddError → SourceValue → Type 0
HasAddedPin pinned old (Ok added) new =
    (new ≡ record old { cushion = after_give_back (after_add old.cushion pinned) (pinned.stamp ∷ []) })
    × IsAddable old.cushion pinned.stamp
HasAddedPin pinned old (Err error) new = (new ≡ old) × IsAddRefused old.cushion pinned.stamp error
