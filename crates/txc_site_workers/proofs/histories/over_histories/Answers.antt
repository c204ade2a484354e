use Rattle.std.proofs.Common.{subst, sym, rules}
use Rattle.txc_site_workers.specs.declared.plan.Plan.{Plan}
use Rattle.txc_site_workers.specs.Histories.{HaveHistoriesBy}
use Rattle.txc_site_workers.specs.Sites.{HaveCome}
use Rattle.txc_site_workers.specs.SiteKeeperByPlan.{IsTendedAsPlanned}
use Rattle.txc_site_workers.proofs.histories.over_histories.Goals as goal

-- the foundation has this plan
pub returns-clause-gives : goal.returns-clause-gives
returns-clause-gives g c =
    subst (λ (plan : Plan). HaveCome (g.V.Worker.gives c.args.workers.now plan g.J.Naming.database_history) c.in_ok-came.came.outputs.items) c.in_ok-foundation.ensures.plan
    c.in_ok-came.ensures.gives

pub returns-clause-tended : goal.returns-clause-tended
returns-clause-tended g c =
    subst (λ (plan : Plan). IsTendedAsPlanned plan (g.C.Clock.tells c.args.clock.now) g.J.Naming.database_history c.in_ok-came.came.tended) c.in_ok-foundation.ensures.plan
    c.in_ok-came.ensures.tended

pub run_workers-requires-clause-stored_so : goal.run_workers-requires-clause-stored_so
run_workers-requires-clause-stored_so g c κs within =
    let asked : HaveHistoriesBy c.args.plan g.J.Naming.node_histories = search rules in
    subst (λ (plan : Plan). HaveHistoriesBy plan g.J.Naming.node_histories) (sym c.in_ok-foundation.ensures.plan) asked
