-- The effect of a site's own keeper, by the site's plan.
use Rattle.std.specs.Prelude.{ℕ, Option, Result}
use Rattle.txc_stream.specs.Names.{Name}
use Rattle.txc_site_keeper.specs.declared.error.SiteError.{SiteError}
use Rattle.txc_site_keeper.specs.declared.site_keeper.KeeperTotals.{KeeperTotals}
use Rattle.txc_site_keeper.specs.SiteKeeper.{IsTendedAs}
use Rattle.txc_site_workers.specs.declared.plan.Plan.{Plan}
use Rattle.txc_site_workers.specs.Plans.{nodes_of, share_of}

-- the own keeper of a site of this plan kept as the plan prescribes
pub record IsTendedAsPlanned (plan : Plan) (tells : ℕ → Type 0) (row : Name) (came : Option (Result KeeperTotals SiteError)) : Type 0 where
  pub tended : IsTendedAs plan.keep (nodes_of plan) (share_of plan) tells row came
