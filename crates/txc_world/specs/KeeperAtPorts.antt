-- The effect of a step of the keeper at the plain ports.
use Rattle.std.specs.Prelude.{◌≡◌, ◌⊎◌, ℕ, Vec, Result, Ok, Err, Option, Some, None, List, [], ◌∷◌, ◌++◌, map, slice_get, true, false}
use Rattle.std.specs.List.{remove}
use Rattle.std.specs.declared.alloc.Global.{Global}
use Rattle.txc_tags.specs.declared.tag.Tag.{Tag}
use Rattle.txc_rows.specs.declared.query.Change.{Change}
use Rattle.txc_rows.specs.declared.query.Query.{Query}
use Rattle.txc_rows.specs.RowTags.{query_tag}
use Rattle.txc_validity.specs.declared.answer.Found.{Found}
use Rattle.txc_validity.specs.Answers.{IsAnswer}
use Rattle.txc_db.specs.declared.error.DbError.{DbError}
use Rattle.txc_db.specs.declared.error.DbError.TheVariants.{Memory}
use Rattle.txc_db.specs.declared.pinned.Pinned.{Pinned}
use Rattle.txc_db.specs.History.{state_at}
use Rattle.txc_db.specs.DatabaseValue.{after_commit, after_vacuum, is_held, newest, next_horizon, without}
use Rattle.txc_db.specs.Calls.{IsCommittable, IsCommitRefused, IsPinRefused, IsVacuumRefused}
use Rattle.txc_cushion.specs.declared.error.AddError.{AddError}
use Rattle.txc_cushion.specs.declared.error.UnknownPin.{UnknownPin}
use Rattle.txc_cushion.specs.Cushion.{after_give_back, after_retire, retired}
use Rattle.txc_cushion.specs.Refusals.{HaveUsers, IsFirstUnused}
use Rattle.txc_world.specs.declared.port_outcome.RowsFound.{RowsFound}
use Rattle.txc_world.specs.Ports.{PortsValue, HasRefused}
use Rattle.txc_world.specs.PortRequests.{AddTransition, HasPinned, IsToldOf}

-- ---- the database

-- of changes: they are committed at the base, with these tags read; or the database failed
abbrev pub CommitTransition : ℕ → List Tag → List Change → PortsValue → PortsValue → Result ℕ DbError → Type 0
CommitTransition base read changes old new (Ok stamp) =
    (new ≡ record old { database = after_commit old.database changes })
    × (stamp ≡ newest new.database)
    × IsCommittable old.database base read changes
CommitTransition base read changes old new (Err e) = HasRefused old new e
    × IsCommitRefused old.database base read changes e

-- of a change: it is committed at the newest stamp, without reads
abbrev pub WriteTransition : Change → PortsValue → PortsValue → Result ℕ DbError → Type 0
WriteTransition change old new result = CommitTransition (newest old.database) [] (change ∷ []) old new result

-- of a vacuum: the horizon is the least held stamp, or the newest if none is held; or the database failed
abbrev pub VacuumTransition : PortsValue → PortsValue → Result ℕ DbError → Type 0
VacuumTransition old new (Ok horizon) = (new ≡ record old { database = after_vacuum old.database })
    × (horizon ≡ next_horizon old.database)
VacuumTransition old new (Err e) = (new ≡ old) × IsVacuumRefused old.database e

-- the answer of the query at the stamp, as it is shown
abbrev pub IsToldAnswer : Query → ℕ → PortsValue → RowsFound → Type 0
IsToldAnswer query stamp p rows = (found : Found)
    × IsAnswer (state_at p.database.history) query stamp p.database.horizon (newest p.database) found
    × (found.tags ≡ query_tag query ∷ [])
    × IsToldOf found rows

-- ---- the keeper's pins

-- the stamps of the pins that the keeper has
abbrev pub stamps_of_pins : List Pinned → List ℕ
stamps_of_pins spare = map (λ pinned. pinned.stamp) spare

-- the keeper has a pin more, which it has just made
pub record HasPinnedSpare (now : ℕ) (old new : PortsValue) (stamp : ℕ) : Type 0 where
  pub pinned : Pinned
  pub made : HasPinned now 0 old (record new { spare = old.spare }) pinned
  pub stamp_is : stamp ≡ pinned.stamp
  pub spare : new.spare ≡ old.spare ++ pinned ∷ []

-- of a pin of the keeper: it was made; or the database failed, or there was no memory for it
abbrev pub PinSpareTransition : ℕ → PortsValue → PortsValue → Result ℕ DbError → Type 0
PinSpareTransition now old new (Ok stamp) = HasPinnedSpare now old new stamp
PinSpareTransition now old new (Err e) = HasRefused old new e × (IsPinRefused old.database 0 e ⊎ (e ≡ Memory))

-- the keeper does not have the pin any more, and the pincushion added it, or failed
pub record HasAddedSpare {A : Type 0} (stamp : ℕ) (old new : PortsValue) (reply : Result A AddError)
    : Type 0 where
  pub at : ℕ
  pub pinned : Pinned
  pub there : slice_get old.spare at ≡ Some pinned
  pub stamp_is : pinned.stamp ≡ stamp
  pub held : is_held stamp (stamps_of_pins old.spare) ≡ true
  pub spare : stamps_of_pins new.spare ≡ without stamp (stamps_of_pins old.spare)
  pub added : AddTransition pinned (record old { spare = remove old.spare at }) new reply

-- of adding a pin of the keeper's: it had it, and adds it; or it has none of the stamp, and nothing has changed
abbrev pub AddSpareTransition : {A : Type 0} → ℕ → PortsValue → PortsValue → Option (Result A AddError) → Type 0
AddSpareTransition stamp old new (Some added) = HasAddedSpare stamp old new added
AddSpareTransition stamp old new None = (new ≡ old) × (is_held stamp (stamps_of_pins old.spare) ≡ false)

-- ---- the pincushion

-- of returned users: each stamp has one fewer for each time that it is in the list; or a first one has none
-- left, and nothing has changed
abbrev pub GiveBackTransition : {A : Type 0} → List ℕ → PortsValue → PortsValue → Result A UnknownPin → Type 0
GiveBackTransition stamps old new (Ok given) = (new ≡ record old { cushion = after_give_back old.cushion stamps })
    × HaveUsers old.cushion.entries stamps
GiveBackTransition stamps old new (Err unknown) = (new ≡ old)
    × IsFirstUnused old.cushion.entries stamps unknown.stamp

-- of removed pins: exactly those without users that are too old; or nothing has changed
abbrev pub RetireTransition : {A : Type 0} → ℕ → ℕ → PortsValue → PortsValue → Result (Vec ℕ Global) A → Type 0
RetireTransition now age old new (Ok stamps) = (new ≡ record old { cushion = after_retire old.cushion now age })
    × (stamps.items ≡ retired old.cushion now age)
RetireTransition now age old new (Err e) = new ≡ old
