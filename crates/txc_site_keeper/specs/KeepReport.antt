-- The effect of one keep.
use Rattle.std.specs.Prelude.{◌≡◌, ◌⊎◌, ℕ, ◌+◌, List, IfErr, IfOk, Result, Some, Vec, length}
use Rattle.std.specs.declared.alloc.AllocError.{AllocError}
use Rattle.std.specs.declared.alloc.Global.{Global}
use Rattle.txc_cushion.specs.Cushion.{retired}
use Rattle.txc_cushion.specs.Pincushion.{CushionMayAnswer}
use Rattle.txc_db.specs.declared.error.DbError.{DbError}
use Rattle.txc_db.specs.declared.error.DbError.TheVariants as databases
use Rattle.txc_db.specs.Calls.{IsHoldRefused, IsPinRefused, IsVacuumRefused}
use Rattle.txc_db.specs.DatabaseValue.{next_horizon}
use Rattle.txc_db.specs.History.{event_at, pin_event}
use Rattle.txc_db.specs.Room.{events_room}
use Rattle.txc_db.specs.FrontsAndFeeds.{FrontValue}
use Rattle.txc_db.specs.DatabaseReply.{MayAnswer, MayRefuse}
use Rattle.txc_stream.specs.Names.{Name}
use Rattle.txc_site_keeper.specs.declared.keeper.KeepReport.{KeepReport}
use Rattle.txc_site_keeper.specs.declared.keeper.NodeReport.{NodeReport}
use Rattle.txc_site_keeper.specs.NodeReports.{HaveKept, ok_of}
use Rattle.txc_site_keeper.specs.KeeperNodes.{KeeperNodeValue}

-- the report of a keep that did not fail, without the names of the site's histories
pub record KeepTold : Type 0 where
  pub seen : FrontValue
  pub events_left : ℕ
  pub pinned : Result ℕ DbError
  pub retired : Result (Vec ℕ Global) AllocError
  pub horizon : Result ℕ DbError
  pub nodes : List NodeReport

abbrev pub keep_told : {J : Type 0} → KeepReport J → KeepTold
keep_told kept = record {
  seen = kept.seen;
  events_left = kept.events_left;
  pinned = kept.pinned;
  retired = kept.retired;
  horizon = kept.horizon;
  nodes = kept.nodes.items;
}

-- it was of this moment, took away pins older than this age, and did so with the nodes
pub record IsKeep (row : Name) (histories : ℕ → Name) (now age : ℕ) (old : List KeeperNodeValue) (told : KeepTold) (new : List KeeperNodeValue) : Type 0 where
  pub seen : told.seen.events ≡ row
  pub events_left : told.events_left + length told.seen.history ≡ events_room row
  pub pinned : IfOk told.pinned (λ stamp. event_at told.seen.history stamp ≡ Some (pin_event now))
  pub not_pinned : IfErr told.pinned (MayRefuse row (λ d. IsPinRefused d 0))
  pub retired : IfOk told.retired (CushionMayAnswer row (λ c stamps. stamps.items ≡ retired c now age))
  pub horizon : IfOk told.horizon (MayAnswer row (λ d horizon. horizon ≡ next_horizon d))
  pub no_horizon : IfErr told.horizon (MayRefuse row IsVacuumRefused)
  pub nodes : HaveKept row histories (ok_of told.horizon) old told.nodes new

-- a keep did nothing, for this reason
pub record IsNoKeep (row : Name) (old : List KeeperNodeValue) (error : DbError) (new : List KeeperNodeValue) : Type 0 where
  pub refused : (error ≡ databases.Memory) ⊎ MayRefuse row IsHoldRefused error
  pub same : new ≡ old
