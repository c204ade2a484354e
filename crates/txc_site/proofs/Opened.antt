-- Why a site is not opened, by its parts.
use Rattle.std.proofs.Common.{ℕ, List}
use Rattle.txc_site_ledger.specs.declared.run_error.RunError.{RunError}
use Rattle.txc_txn_rw.specs.RwCore.{RwValue}
use Rattle.txc_stream.specs.Names.{Name}
use Rattle.txc_db_carry.specs.Rooms.{IsHistoryFor}
use Rattle.txc_site_workers.specs.declared.error.OpenError.{OpenError}
use Rattle.txc_site_workers.specs.declared.error.OpenError.TheVariants as opens
use Rattle.txc_site_keeper.specs.declared.error.SiteError.{SiteError}
use Rattle.txc_site_keeper.specs.declared.error.SiteError.TheVariants as sites
use Rattle.txc_site_workers.specs.declared.plan.Plan.{Plan}
use Rattle.txc_site.specs.SiteResult.{IsOpeningRefused, IsOpenRefused}
use Rattle.txc_site_workers.specs.Sites.{AreWorkersRefused, IsClientRefused, IsDatabaseRefused, IsRegistryRefused, IsSiteRefused}
use Rattle.txc_site_workers.specs.Plans.{IsPlan}

module _ (plan : Plan) (numbers : List ℕ) (sound : IsPlan plan) where
  pub database_so : (error : SiteError) → IsDatabaseRefused error → IsSiteRefused plan numbers error
  database_so sites.Plan h = absurd h
  database_so (sites.Twice f) h = absurd h
  database_so (sites.Database cause) h = (sound, h)
  database_so (sites.Node cause) h = absurd h
  database_so sites.Memory h = (sound, tt)

  registry_so : (error : SiteError) → IsRegistryRefused numbers error → IsSiteRefused plan numbers error
  registry_so sites.Plan h = absurd h
  registry_so (sites.Twice f) h = (sound, h)
  registry_so (sites.Database cause) h = absurd h
  registry_so (sites.Node cause) h = absurd h
  registry_so sites.Memory h = (sound, tt)

  client_so : (error : SiteError) → IsClientRefused numbers error → IsSiteRefused plan numbers error
  client_so sites.Plan h = absurd h
  client_so (sites.Twice f) h = (sound, h)
  client_so (sites.Database cause) h = absurd h
  client_so (sites.Node cause) h = (sound, h)
  client_so sites.Memory h = (sound, tt)

  -- the opening was refused
  pub opening_so : {T : Type 0} (row : Name) (makes : RwValue → T → Type 0) (refuses : RunError → Type 0) (error : OpenError) → IsHistoryFor plan.events row
      → IsOpeningRefused numbers row makes refuses error → IsOpenRefused plan numbers makes refuses error
  opening_so row makes refuses (opens.Site error) room h = registry_so error h
  opening_so row makes refuses (opens.Opening error) room h = (sound, record { row = row; room = room; refused = h })
  opening_so row makes refuses opens.Threads room h = absurd h

  -- the workers were
  pub visit_so : {T : Type 0} (makes : RwValue → T → Type 0) (refuses : RunError → Type 0) (error : OpenError)
      → AreWorkersRefused numbers error → IsOpenRefused plan numbers makes refuses error
  visit_so makes refuses (opens.Site error) h = client_so error h
  visit_so makes refuses (opens.Opening error) h = absurd h
  visit_so makes refuses opens.Threads h = sound
