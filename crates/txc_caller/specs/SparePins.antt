-- Pins of the newest state that no transaction uses yet.
use Rattle.std.specs.Prelude.{◌≡◌, ℕ}
use Rattle.txc_cushion.specs.Entries.{with_entry}
use Rattle.txc_cushion.specs.Refusals.{IsAddable, IsAddRefused}
use Rattle.txc_cushion.specs.declared.error.AddError.{AddError}
use Rattle.txc_db.specs.Calls.{IsLeft, IsPinnable, IsPinRefused}
use Rattle.txc_db.specs.DatabaseValue.{after_pin, after_unpin, newest}
use Rattle.txc_db.specs.declared.error.DbError.{DbError}
use Rattle.txc_caller.specs.Ports.{CallerPorts}
use Rattle.txc_caller.specs.declared.pin_error.PinError.{PinError}
use Rattle.txc_caller.specs.declared.pin_error.PinError.TheVariants.{Database, Pincushion}

-- A pin of that moment is one event more, and the database holds its stamp, which is the newest. The pincushion
-- has it, and no transaction uses it. The node is as it was.
pub record HasPinnedNewest (moment : ℕ) (old : CallerPorts) (stamp : ℕ) (new : CallerPorts) : Type 0 where
  pub could : IsPinnable old.database 0
  pub stamp_is : stamp ≡ newest new.database
  pub addable : IsAddable old.cushion stamp
  pub database : new.database ≡ after_pin old.database moment
  pub entries : new.cushion.entries
      ≡ with_entry (record { pin = record { stamp = stamp; moment = moment }; users = 0 }) old.cushion.entries
  pub node : new.node ≡ old.node
  pub budget : new.budget ≡ old.budget

-- the database did not make the pin
pub record HasRefusedEvent (old : CallerPorts) (error : DbError) (new : CallerPorts) : Type 0 where
  pub refused : IsPinRefused old.database 0 error
  pub left_so : IsLeft old.database new.database error
  pub same : new ≡ record old { database = new.database }

-- The pincushion did not add it. The event stays, and its hold is removed. The pincushion and the node are as
-- before.
pub record HasRefusedUnusedPin (moment : ℕ) (old : CallerPorts) (error : AddError) (new : CallerPorts) : Type 0 where
  pub could : IsPinnable old.database 0
  pub refused : IsAddRefused old.cushion (newest (after_pin old.database moment)) error
  pub unheld : new.database ≡ after_unpin (after_pin old.database moment) (newest (after_pin old.database moment))
  pub same : new ≡ record old { database = new.database }

-- the error of pinning, and the ports after it
abbrev pub HasNotPinned : ℕ → CallerPorts → PinError → CallerPorts → Type 0
HasNotPinned moment old (Database error) new = HasRefusedEvent old error new
HasNotPinned moment old (Pincushion error) new = HasRefusedUnusedPin moment old error new
