use Rattle.std.proofs.Common.{◌∙◌, ap, subst}
use Rattle.txc_db.specs.DatabaseValue.{DatabaseValue}
use Rattle.txc_world.specs.PortRequests.{QueryTransition}
use Rattle.txc_world.specs.Ports.{PortsValue}
use Rattle.txc_world.proofs.PortsLemmas.{query_led}
use Rattle.txc_world.proofs.ports.Ports.answer.Goals as goal

pub returns-clause-same : goal.returns-clause-same
returns-clause-same g c =
    let p : PortsValue = record { database = c.self.inside.database; cushion = c.self.inside.cushion; nodes = c.self.inside.nodes.items; spare = c.self.inside.spare.items; actors = c.self.inside.actors } in
    ap (λ (d : DatabaseValue). record p { database = d }) c.query.ensures.same ∙ c.self.view_is

pub returns-clause-transition : goal.returns-clause-transition
returns-clause-transition g c =
    let p : PortsValue = record { database = c.self.inside.database; cushion = c.self.inside.cushion; nodes = c.self.inside.nodes.items; spare = c.self.inside.spare.items; actors = c.self.inside.actors } in
    subst (λ (v : PortsValue). QueryTransition c.args.query.now c.args.stamp v c.query.result) c.self.view_is
    (query_led p c.args.query.now c.args.stamp c.query.result c.query.ensures.answer c.query.ensures.tag c.query.ensures.only_if c.query.ensures.refused)
