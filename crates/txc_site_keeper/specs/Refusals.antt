-- The causes for which no keeper can be made.
use Rattle.txc_shared.specs.declared.error.NodeError.{NodeError}
use Rattle.txc_shared.specs.declared.error.NodeError.TheVariants as refusals
use Rattle.txc_site_keeper.specs.declared.error.SiteError.{SiteError}
use Rattle.txc_site_keeper.specs.declared.error.SiteError.TheVariants as sites

-- a node gives no pass: it is broken, it has given as many as it may, or there is no memory
abbrev pub IsNoPass : NodeError → Type 0
IsNoPass refusals.EmptyRange = ⊥
IsNoPass refusals.HistoryFull = ⊥
IsNoPass error = Unit {0}

-- of a keeper: a node gives no pass, or there is no memory
abbrev pub IsKeeperRefused : SiteError → Type 0
IsKeeperRefused (sites.Node cause) = IsNoPass cause
IsKeeperRefused sites.Memory = Unit {0}
IsKeeperRefused error = ⊥
