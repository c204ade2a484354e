use Rattle.std.proofs.Common.{subst, sym, rules}
use Rattle.txc_site_workers.specs.declared.plan.Plan.{Plan}
use Rattle.txc_site_workers.specs.Histories.{HaveHistoriesBy}
use Rattle.txc_site_workers.proofs.final_state.read_last.Goals as goal

-- the foundation has this plan
pub client-requires-clause-stored_so : goal.client-requires-clause-stored_so
client-requires-clause-stored_so g c =
    let asked : HaveHistoriesBy c.args.plan g.J.Naming.node_histories = search rules in
    subst (λ (plan : Plan). HaveHistoriesBy plan g.J.Naming.node_histories) (sym c.in_ok-foundation.ensures.plan) asked
