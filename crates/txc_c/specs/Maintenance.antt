-- The effect of a keep, and of a pin.
use Rattle.std.specs.Prelude.{◌≡◌, ◌⊎◌, ℕ, length, Result, Ok, Err}
use Rattle.txc_cushion.specs.Cushion.{retired}
use Rattle.txc_cushion.specs.declared.error.AddError.{AddError}
use Rattle.txc_cushion.specs.declared.error.AddError.TheVariants as adds
use Rattle.txc_caller.specs.SparePins.{HasNotPinned, HasPinnedNewest}
use Rattle.txc_caller.specs.declared.pin_error.PinError.{PinError}
use Rattle.txc_caller.specs.declared.pin_error.PinError.TheVariants as pins
use Rattle.txc_db.specs.DatabaseValue.{next_horizon}
use Rattle.txc_db.specs.declared.error.DbError.{DbError}
use Rattle.txc_shared.specs.declared.error.NodeError.{NodeError}
use Rattle.txc_shared.specs.declared.error.NodeError.TheVariants.{Memory}
use Rattle.txc_caller.specs.Ports.{CallerSweepTransition, GoesOnByEvents, HasRetired, HasVacuumedPorts, IsKeepRefused}
use Rattle.txc_caller.specs.CallerTxn.{CallerValue}
use Rattle.txc_c.specs.Sites.{SiteValue}
use Rattle.txc_c.specs.BeginAndEnd.{database_number}
use Rattle.txc_c.specs.declared.kept.TxcKept.{TxcKept}
use Rattle.txc_c_types.specs.declared.numbers.TheConstants.{DONE, NO_MEMORY, REFUSED}

-- the number of an error of the node
abbrev pub node_number : NodeError → ℕ
node_number Memory = NO_MEMORY
node_number error = REFUSED

-- ---- the node

abbrev pub sweep_number : Result ℕ NodeError → ℕ
sweep_number (Ok count) = DONE
sweep_number (Err error) = node_number error

abbrev pub sweep_told : Result ℕ NodeError → TxcKept → TxcKept
sweep_told (Ok count) was = record was { swept = count }
sweep_told (Err error) was = was

-- the node drops the entries that end below the horizon, and their number is written; or the sweep fails
pub record HasSweptNode (horizon : ℕ) (old : CallerValue) (number : ℕ) (was is : TxcKept) (new : CallerValue) : Type 0 where
  pub swept : Result ℕ NodeError
  pub transition : CallerSweepTransition horizon old.ports.node new.ports.node swept
  pub same : new ≡ record old { ports = record old.ports { node = new.ports.node } }
  pub number_is : number ≡ sweep_number swept
  pub told : is ≡ sweep_told swept was

-- ---- the database

-- the vacuum failed, and the only change is that the node took events
pub record HasRefusedVacuum (old : CallerValue) (number : ℕ) (was is : TxcKept) (new : CallerValue) : Type 0 where
  pub error : DbError
  pub number_is : number ≡ database_number error
  pub refused : IsKeepRefused old.ports.database old.ports.node new.ports.node error
  pub node : GoesOnByEvents old.ports.node new.ports.node
  pub same : new ≡ record old { ports = record old.ports { node = new.ports.node } }
  pub told : is ≡ was

-- the node has taken the events, and is swept up to the new horizon, which is written
pub record HasVacuumedOn (old : CallerValue) (number : ℕ) (was is : TxcKept) (new : CallerValue) : Type 0 where
  pub after : CallerValue
  pub vacuumed : HasVacuumedPorts old.ports after.ports
  pub same : after ≡ record old { ports = after.ports }
  pub rest : HasSweptNode (next_horizon old.ports.database) after number
      (record was { horizon = next_horizon old.ports.database }) is new

abbrev pub HasVacuumed : CallerValue → ℕ → TxcKept → TxcKept → CallerValue → Type 0
HasVacuumed old number was is new = HasVacuumedOn old number was is new ⊎ HasRefusedVacuum old number was is new

-- ---- the pins

-- old pins are gone, with their holds; then the rest is done
pub record HasKeptOn (now age : ℕ) (old : CallerValue) (number : ℕ) (was is : TxcKept) (new : CallerValue) : Type 0 where
  pub after : CallerValue
  pub retired_so : HasRetired now age old.ports after.ports
  pub same : after ≡ record old { ports = after.ports }
  pub rest : HasVacuumed after number (record was { retired = length (retired old.ports.cushion now age) }) is new

-- or memory is wanting, and all is as it was
abbrev pub HasKept : ℕ → ℕ → CallerValue → ℕ → TxcKept → TxcKept → CallerValue → Type 0
HasKept now age old number was is new =
    HasKeptOn now age old number was is new ⊎ ((number ≡ NO_MEMORY) × (new ≡ old) × (is ≡ was))

-- whatever is open stays so
abbrev pub SiteKeepTransition : ℕ → ℕ → TxcKept → TxcKept → SiteValue → ℕ → SiteValue → Type 0
SiteKeepTransition now age was is old number new =
    HasKept now age old.caller number was is new.caller × (new ≡ record old { caller = new.caller })

-- ---- a pin

-- the number of an error of the pincushion
abbrev pub add_number : AddError → ℕ
add_number adds.Memory = NO_MEMORY
add_number error = REFUSED

-- the number of a pin that was not made
abbrev pub pin_number : PinError → ℕ
pin_number (pins.Database error) = database_number error
pin_number (pins.Pincushion error) = add_number error

-- it was not made
pub record IsNotPinned (moment : ℕ) (old : CallerValue) (number : ℕ) (new : CallerValue) : Type 0 where
  pub error : PinError
  pub number_is : number ≡ pin_number error
  pub refused : HasNotPinned moment old.ports error new.ports

-- the newest state has a pin of that moment, which no transaction uses, and its stamp is written
abbrev pub HasPinnedOrNot : ℕ → ℕ → ℕ → CallerValue → ℕ → CallerValue → Type 0
HasPinnedOrNot moment was is old number new = ((number ≡ DONE) × HasPinnedNewest moment old.ports is new.ports)
    ⊎ (IsNotPinned moment old number new × (is ≡ was))

-- whatever is open stays so
abbrev pub SitePinTransition : ℕ → ℕ → ℕ → SiteValue → ℕ → SiteValue → Type 0
SitePinTransition moment was is old number new = HasPinnedOrNot moment was is old.caller number new.caller
    × (new.caller ≡ record old.caller { ports = new.caller.ports }) × (new ≡ record old { caller = new.caller })
