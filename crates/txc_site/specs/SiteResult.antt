-- The result of a site's run.
use Rattle.std.specs.Prelude.{◌≡◌, ℕ, List, Option, vec_len}
use Rattle.txc_stream.specs.Names.{Name}
use Rattle.txc_db_carry.specs.Rooms.{IsHistoryFor}
use Rattle.txc_app.specs.Eval.{Next}
use Rattle.txc_site_ledger.specs.declared.run_error.RunError.{RunError}
use Rattle.txc_txn_rw.specs.RwCore.{RwValue}
use Rattle.txc_site_workers.specs.declared.error.OpenError.{OpenError}
use Rattle.txc_site_workers.specs.declared.error.OpenError.TheVariants as opens
use Rattle.txc_site_ledger.specs.declared.error.WriteError.{WriteError}
use Rattle.txc_site.specs.declared.opening.SiteResult.{SiteResult}
use Rattle.txc_site_workers.specs.declared.plan.Plan.{Plan}
use Rattle.txc_site_workers.specs.Plans.{IsPlan}
use Rattle.txc_site_workers.specs.Sites.{HaveCome, IsRegistryRefused, IsSiteRefused}
use Rattle.txc_site_ledger.specs.ChangeResult.{IsWritten, IsSiteWriteRefused}

-- Over a database whose history is stored by the plan, the opening was committed in its first run. There are
-- `count` outputs, each of which the thread of its number gives there. The final state is of that history.
pub record IsVisited {O T : Type 0} (next : Next) (plan : Plan) (count : ℕ) (makes : RwValue → O → Type 0)
    (gives : Plan → Name → ℕ → T → Type 0) (visited : SiteResult O T) : Type 0 where
  pub row : Name
  pub room : IsHistoryFor plan.events row
  pub opened : IsWritten next row makes visited.opening.output visited.opening.committed
  pub once : vec_len visited.opening.conflicts ≡ 0
  pub each : vec_len visited.outputs ≡ count
  pub came : HaveCome (gives plan row) visited.outputs.items
  pub last : visited.last.events ≡ row

-- over a database with this kind of history the opening failed, in one try
pub record IsUnopened {T : Type 0} (events : Option ℕ) (makes : RwValue → T → Type 0) (refuses : RunError → Type 0) (error : WriteError)
    : Type 0 where
  pub row : Name
  pub room : IsHistoryFor events row
  pub refused : IsSiteWriteRefused row makes refuses 1 error

-- of a site: it was not made; or its opening failed; or there was no memory for the threads
abbrev pub IsOpenRefused : {T : Type 0} → Plan → List ℕ → (RwValue → T → Type 0) → (RunError → Type 0) → OpenError → Type 0
IsOpenRefused plan numbers makes refuses (opens.Site error) = IsSiteRefused plan numbers error
IsOpenRefused plan numbers makes refuses (opens.Opening error) = IsPlan plan × IsUnopened plan.events makes refuses error
IsOpenRefused plan numbers makes refuses opens.Threads = IsPlan plan

-- ---- by its parts

-- of the opening: an error of a registry; or an error of a change, in one try
abbrev pub IsOpeningRefused : {T : Type 0} → List ℕ → Name → (RwValue → T → Type 0) → (RunError → Type 0) → OpenError → Type 0
IsOpeningRefused numbers row makes refuses (opens.Site error) = IsRegistryRefused numbers error
IsOpeningRefused numbers row makes refuses (opens.Opening error) = IsSiteWriteRefused row makes refuses 1 error
IsOpeningRefused numbers row makes refuses opens.Threads = ⊥
