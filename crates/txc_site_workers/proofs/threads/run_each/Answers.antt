use denote.Param.{param}
use Rattle.std.proofs.Common.{ℕ, ◌<◌, ◌∙◌, length, slice_index_or, ap, subst, arith}
use Rattle.txc_db.proofs.Captured.{argument_send}
use Rattle.txc_site_workers.proofs.Crosses.{site_client_send}
use Rattle.txc_site_workers.proofs.Guests.{number_at}
use Rattle.txc_site_workers.proofs.threads.WorkerClient.TheSendSync as guest
use Rattle.txc_site_workers.proofs.threads.run_each.Goals as goal

-- a worker's client owns a client of the site
pub map_vec-visited-requires-send-J : goal.map_vec-visited-requires-send-J
map_vec-visited-requires-send-J g c κs within =
    argument_send _ _ _
    (guest.the_send _
    (site_client_send _ (param 0 g.row.A) (param 1 g.row.D) (param 3 g.row.J) g.A.App g.D.Definition g.J.Naming c.type_bounds.send-D))

-- each worker's client has the number of its place, and a client of the site's plan
pub returns-in-Ok-clause-gives : goal.returns-in-Ok-clause-gives
returns-in-Ok-clause-gives g c = λ number d short.
    let guests = c.args.guests in
    let visited = c.in-Ok.outputs in
    let within : number < length guests.items = omega (arith, short, c.in-Ok.ensures.len, guests.ok.0, visited.ok.0) in
    let came = (c.in-Ok.ensures.each number d within).1 in
    let its = ap (λ guest. guest.number) came.job_read ∙ number_at (λ guest. guest.number) guests.items (length guests.items) number came.job c.requires.numbers within within in
    let planned = ap (λ guest. guest.client.plan) came.job_read ∙ c.requires.plans number came.job within in
    subst (λ plan. g.V.Worker.gives c.args.workers.now plan g.J.Naming.database_history number (slice_index_or visited.items number d)) planned
    (subst (λ (k : ℕ). g.V.Worker.gives c.args.workers.now came.job.client.plan g.J.Naming.database_history k (slice_index_or visited.items number d)) its came.call.met)
