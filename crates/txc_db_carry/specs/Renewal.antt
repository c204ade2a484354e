-- Databases that went on in place: words that only this crate's private functions promise.
use Rattle.std.specs.Prelude.{◌≡◌, ℕ, false, [], Option, None}
use Rattle.txc_stream.specs.Names.{HasRow}
use Rattle.txc_db.specs.DatabaseValue.{DatabaseValue, newest, newest_state}

-- No log was asked for, and the database was not broken: its newest state is the single event of another
-- history, from which on it can be read. The limit of a query stays.
pub record IsRenewed (room : Option ℕ) (old new : DatabaseValue) : Type 0 where
  pub asked : room ≡ None
  pub was : old.broken ≡ false
  pub whole : new.broken ≡ false
  pub unstored : ¬ (HasRow new.events)
  pub state : newest_state new ≡ newest_state old
  pub one : newest new ≡ 1
  pub horizon : new.horizon ≡ 1
  pub limit : new.most ≡ old.most
  pub holds : new.holds ≡ []
