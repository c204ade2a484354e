-- The effect of the keeper of a site that keeps itself.
use Rattle.std.specs.Prelude.{◌≡◌, ◌⊎◌, ℕ, ◌+◌, ◌-◌, ◌^◌, ◌≤◌, ◌<◌, min, List, [], ◌∷◌, All, IfErr, IfOk, None, Option, Result, Some, map}
use Rattle.txc_db.specs.declared.error.DbError.{DbError}
use Rattle.txc_shared.specs.declared.settings.NodeSettings.{NodeSettings}
use Rattle.txc_stream.specs.Names.{Name}
use Rattle.txc_site_ledger.specs.CommitCounter.{counted_again}
use Rattle.txc_site_keeper.specs.declared.error.SiteError.{SiteError}
use Rattle.txc_site_keeper.specs.declared.site_keeper.KeeperSettings.{KeeperSettings}
use Rattle.txc_site_keeper.specs.declared.site_keeper.KeeperTotals.{KeeperTotals}
use Rattle.txc_site_keeper.specs.KeepReport.{IsKeep, IsNoKeep, KeepTold}
use Rattle.txc_site_keeper.specs.Refusals.{IsKeeperRefused}
use Rattle.txc_site_keeper.specs.KeeperNodes.{KeeperNodeValue}

-- a keeper's nodes, and its totals
pub record OwnKeeperValue : Type 0 where
  pub stations : List KeeperNodeValue
  pub tended : KeeperTotals

-- it has a new pass through each of these nodes, which have this budget each, and has not kept yet
pub record IsNewOwnKeeper (all : List NodeSettings) (budget : Option ℕ) (own : OwnKeeperValue) : Type 0 where
  pub nodes : map (λ s. s.pass.settings) own.stations ≡ all
  pub records : All (λ s. s.pass.records ≡ []) own.stations
  pub budgets : All (λ s. s.budget ≡ budget) own.stations
  pub tended : own.tended ≡ record { keeps = 0; refused = None }

-- the totals of a keeper after one keep more
abbrev pub tended_after : KeeperTotals → Option DbError → KeeperTotals
tended_after t None = record t { keeps = counted_again t.keeps }
tended_after t (Some error) = record { keeps = counted_again t.keeps; refused = Some error }

-- one keep more, with its report; or a keep that failed
abbrev pub HasTended : Name → (ℕ → Name) → ℕ → ℕ → OwnKeeperValue → OwnKeeperValue → Type 0
HasTended row histories now age old new =
    ((told : KeepTold) × IsKeep row histories now age old.stations told new.stations × (new.tended ≡ tended_after old.tended None))
    ⊎ ((error : DbError) × IsNoKeep row old.stations error new.stations × (new.tended ≡ tended_after old.tended (Some error)))

-- the moment from which a keep is due after one at `last`: `every` later, at most the greatest moment
abbrev pub due_after : ℕ → ℕ → ℕ
due_after every last = min (last + every) (2 ^ 64 - 1)

-- One look at the clock, which showed this moment. If a keep was due, the keeper kept, and the next one is due
-- after the interval. Otherwise nothing has changed.
abbrev pub HasLooked : Name → (ℕ → Name) → KeeperSettings → ℕ → ℕ → OwnKeeperValue → OwnKeeperValue → ℕ → Type 0
HasLooked row histories keeping due now old new next =
    ((due ≤ now) × HasTended row histories now keeping.age old new × (next ≡ due_after keeping.every now))
    ⊎ ((now < due) × (new ≡ old) × (next ≡ due))

-- the moment from which a keep is due, after keeps at these moments, the latest first; the first keep is due at
-- once
abbrev pub due_at : ℕ → List ℕ → ℕ
due_at every [] = 0
due_at every (last ∷ earlier) = due_after every last

-- it kept at each of these moments, the latest first, which the clock showed, and not before it was due
abbrev pub HaveTended : Name → (ℕ → Name) → (ℕ → Type 0) → KeeperSettings → OwnKeeperValue → List ℕ → OwnKeeperValue → Type 0
HaveTended row histories tells keeping first [] last = last ≡ first
HaveTended row histories tells keeping first (now ∷ earlier) last = (before : OwnKeeperValue)
    × HaveTended row histories tells keeping first earlier before × tells now × (due_at keeping.every earlier ≤ now)
    × HasTended row histories now keeping.age before last

-- the keeper began as a new one of these nodes, and did nothing but keep
pub record HasTendedSince (row : Name) (histories : ℕ → Name) (nodes : List NodeSettings) (budget : Option ℕ) (tells : ℕ → Type 0) (keeping : KeeperSettings) (own : OwnKeeperValue) : Type 0 where
  pub first : OwnKeeperValue
  pub moments : List ℕ
  pub new : IsNewOwnKeeper nodes budget first
  pub kept : HaveTended row histories tells keeping first moments own

-- such a keeper of these nodes, whatever their histories, did this
pub record IsTendedBy (row : Name) (nodes : List NodeSettings) (budget : Option ℕ) (tells : ℕ → Type 0) (keeping : KeeperSettings) (tended : KeeperTotals) : Type 0 where
  pub histories : ℕ → Name
  pub own : OwnKeeperValue
  pub since : HasTendedSince row histories nodes budget tells keeping own
  pub told : tended ≡ own.tended

-- The site's own keeper: none if the plan has none. Otherwise it did this; or there was none, because a node
-- gave it no pass, or there was no memory.
abbrev pub IsTendedAs : Option KeeperSettings → List NodeSettings → Option ℕ → (ℕ → Type 0) → Name → Option (Result KeeperTotals SiteError) → Type 0
IsTendedAs None nodes budget tells row came = came ≡ None
IsTendedAs (Some keeping) nodes budget tells row came = (result : Result KeeperTotals SiteError) × (came ≡ Some result)
    × IfOk result (IsTendedBy row nodes budget tells keeping) × IfErr result IsKeeperRefused
