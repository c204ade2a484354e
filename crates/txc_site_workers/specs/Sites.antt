-- Sites and their clients.
use Rattle.std.specs.Prelude.{◌≡◌, ℕ, ◌<◌, List, [], All, length, map}
use Rattle.std.specs.List.{range_with_len, slice_index_or}
use Rattle.txc_call_registry.specs.Objects.{Objects, HasTwice}
use Rattle.txc_txn_client.specs.RoTxn.{ClientValue}
use Rattle.txc_db.specs.Refusals.{IsWant}
use Rattle.txc_site_ledger.specs.declared.run_error.RunError.{RunError}
use Rattle.txc_stream.specs.Names.{Name}
use Rattle.txc_site_workers.specs.declared.plan.Plan.{Plan}
use Rattle.txc_site_keeper.specs.declared.error.SiteError.{SiteError}
use Rattle.txc_site_keeper.specs.declared.error.SiteError.TheVariants as sites
use Rattle.txc_site_workers.specs.declared.error.LastError.{LastError}
use Rattle.txc_site_workers.specs.declared.error.LastError.TheVariants as lasts
use Rattle.txc_site_workers.specs.declared.error.OpenError.{OpenError}
use Rattle.txc_site_workers.specs.declared.error.OpenError.TheVariants as opens
use Rattle.txc_site_keeper.specs.Refusals.{IsNoPass}
use Rattle.txc_site_pages.specs.Pages.{IsPageRefused}
use Rattle.txc_site_workers.specs.Histories.{HaveHistoriesBy}
use Rattle.txc_site_workers.specs.Plans.{nodes_of, IsPlan}

-- a client of a site: the site's plan, the client that reads, what the objects do that a change calls, how
-- often a change was run, and how often one was committed
pub record SiteClientValue : Type 0 where
  pub plan : Plan
  pub reader : ClientValue
  pub writer : Objects
  pub updates : ℕ
  pub commits : ℕ

-- The client is new: it has a pass through each node of its site's plan, and has seen none of their records.
-- Each history is stored, or is not, by the plan. The client has run no change, and committed nothing.
pub record IsNewClient (named : ℕ → Name) (client : SiteClientValue) : Type 0 where
  pub planned : IsPlan client.plan
  pub nodes : map (λ pass. pass.settings) client.reader.passes ≡ nodes_of client.plan
  pub histories : HaveHistoriesBy client.plan named
  pub unseen : All (λ pass. pass.records ≡ []) client.reader.passes
  pub renew_after : client.reader.renew_after ≡ client.plan.renew_after
  pub updates : client.updates ≡ 0
  pub commits : client.commits ≡ 0

-- the numbers of `count` threads
abbrev pub numbers_below : ℕ → List ℕ
numbers_below count = map (λ number. number) (range_with_len 0 count)

-- each output is one that the thread of its position gives
abbrev pub HaveCome : {T : Type 0} → (ℕ → T → Type 0) → List T → Type 0
HaveCome {T} gives outputs =
    (number : ℕ) (d : T) → number < length outputs → gives number (slice_index_or outputs number d)

-- ---- errors

-- of a registry: two functions have the number, or there is no memory
abbrev pub IsRegistryRefused : List ℕ → SiteError → Type 0
IsRegistryRefused numbers (sites.Twice f) = HasTwice f numbers
IsRegistryRefused numbers sites.Memory = Unit {0}
IsRegistryRefused numbers error = ⊥

-- of the database and the histories of the nodes: the database cannot be made, or there is no memory
abbrev pub IsDatabaseRefused : SiteError → Type 0
IsDatabaseRefused (sites.Database cause) = IsWant cause
IsDatabaseRefused sites.Memory = Unit {0}
IsDatabaseRefused error = ⊥

-- of a client: an error of a registry; or a node gives no pass
abbrev pub IsClientRefused : List ℕ → SiteError → Type 0
IsClientRefused numbers (sites.Node cause) = IsNoPass cause
IsClientRefused numbers error = IsRegistryRefused numbers error

-- of a site: its plan is invalid; else the database cannot be made; or an error of a client
abbrev pub IsSiteRefused : Plan → List ℕ → SiteError → Type 0
IsSiteRefused plan numbers sites.Plan = ¬ (IsPlan plan)
IsSiteRefused plan numbers (sites.Database cause) = IsPlan plan × IsWant cause
IsSiteRefused plan numbers error = IsPlan plan × IsClientRefused numbers error

-- of a page of the last state: an error of a client, or of a page
abbrev pub IsLastRefused : List ℕ → (RunError → Type 0) → LastError → Type 0
IsLastRefused numbers refuses (lasts.Site error) = IsClientRefused numbers error
IsLastRefused numbers refuses (lasts.Page error) = IsPageRefused refuses error

-- of the workers' run: an error of a client; or there was no memory for the threads
abbrev pub AreWorkersRefused : List ℕ → OpenError → Type 0
AreWorkersRefused numbers (opens.Site error) = IsClientRefused numbers error
AreWorkersRefused numbers (opens.Opening error) = ⊥
AreWorkersRefused numbers opens.Threads = Unit {0}
