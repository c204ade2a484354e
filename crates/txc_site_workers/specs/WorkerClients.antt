-- Only private functions need this file: the clients of threads.
use Rattle.std.specs.Prelude.{◌≡◌, ℕ, List, All, length, map}
use Rattle.txc_stream.specs.Names.{Name}
use Rattle.txc_site_workers.specs.declared.plan.Plan.{Plan}
use Rattle.txc_site_workers.specs.declared.threads.WorkerClient.{WorkerClient}
use Rattle.txc_site_workers.specs.Sites.{numbers_below, IsNewClient, SiteClientValue}

-- each has the number of its place, and a new client of a site of this plan
pub record AreGuests (histories : ℕ → Name) (plan : Plan) (guests : List (WorkerClient SiteClientValue)) : Type 0 where
  pub numbers : map (λ guest. guest.number) guests ≡ numbers_below (length guests)
  pub plans : All (λ guest. guest.client.plan ≡ plan) guests
  pub new : All (λ guest. IsNewClient histories guest.client) guests
