-- What the own keeper of a site did, by the site's plan.
use Rattle.std.proofs.Common.{◌≡◌, ℕ, List, Option, Some, None, refl, sym, subst}
use Rattle.std.specs.Prelude.{All, Result, IfOk, IfErr}
use Rattle.txc_shared.specs.declared.settings.NodeSettings.{NodeSettings}
use Rattle.txc_stream.specs.Names.{Name}
use Rattle.txc_site_keeper.specs.declared.error.SiteError.{SiteError}
use Rattle.txc_site_keeper.specs.declared.site_keeper.KeeperSettings.{KeeperSettings}
use Rattle.txc_site_keeper.specs.declared.site_keeper.KeeperTotals.{KeeperTotals}
use Rattle.txc_site_keeper.specs.Refusals.{IsKeeperRefused}
use Rattle.txc_site_keeper.specs.KeeperNodes.{KeeperNodeValue}
use Rattle.txc_site_keeper.specs.SiteKeeper.{IsTendedAs, IsTendedBy}
use Rattle.txc_site_workers.specs.declared.plan.Plan.{Plan}
use Rattle.txc_site_workers.specs.Plans.{nodes_of, share_of}
use Rattle.txc_site_workers.specs.SiteKeeperByPlan.{IsTendedAsPlanned}

-- a keeper of these nodes with this budget is one of those with that, if they are the same
pub tended_of : (row : Name) (nodes others : List NodeSettings) (budget share : Option ℕ) (tells : ℕ → Type 0) (keeping : KeeperSettings) (result : Result KeeperTotals SiteError)
    → nodes ≡ others → budget ≡ share → IfOk result (IsTendedBy row nodes budget tells keeping) → IfOk result (IsTendedBy row others share tells keeping)
tended_of row nodes others budget share tells keeping result same equal h =
    subst (λ (all : List NodeSettings). IfOk result (IsTendedBy row all share tells keeping)) same
    (subst (λ (b : Option ℕ). IfOk result (IsTendedBy row nodes b tells keeping)) equal h)

-- the same of a keeper whose stations have this budget
pub budgets_of : (budget share : Option ℕ) (result : Result (List KeeperNodeValue) SiteError) → budget ≡ share
    → IfOk result (λ keeper. All (λ s. s.budget ≡ budget) keeper) → IfOk result (λ keeper. All (λ s. s.budget ≡ share) keeper)
budgets_of budget share result equal h = subst (λ (b : Option ℕ). IfOk result (λ keeper. All (λ s. s.budget ≡ b) keeper)) equal h

-- what a site's own keeper did, as its plan says
module _ (plan : Plan) (tells : ℕ → Type 0) (row : Name) where
  pub planned_none : plan.keep ≡ None → IsTendedAsPlanned plan tells row None
  planned_none is =
      record { tended = subst (λ (keep : Option KeeperSettings). IsTendedAs keep (nodes_of plan) (share_of plan) tells row None) (sym is) refl }

  pub planned_some : (keeping : KeeperSettings) (result : Result KeeperTotals SiteError) → plan.keep ≡ Some keeping
      → IfOk result (IsTendedBy row (nodes_of plan) (share_of plan) tells keeping) → IfErr result IsKeeperRefused
      → IsTendedAsPlanned plan tells row (Some result)
  planned_some keeping result is ok err = record {
    tended = subst (λ (keep : Option KeeperSettings). IsTendedAs keep (nodes_of plan) (share_of plan) tells row (Some result)) (sym is) (result, refl, ok, err);
  }

  pub tended_at : (events : Name) (came : Option (Result KeeperTotals SiteError)) → events ≡ row → IsTendedAsPlanned plan tells row came
      → IsTendedAsPlanned plan tells events came
  tended_at events came same h = subst (λ (rows : Name). IsTendedAsPlanned plan tells rows came) (sym same) h
