use Rattle.std.proofs.Common.{false, subst}
use Rattle.txc_shared.specs.Nodes.{start_of}
use Rattle.txc_shared.specs.Runs.{IsNode}
use Rattle.txc_world.specs.Worlds.{WorldValue}
use Rattle.txc_world.proofs.world.World.node.Goals as goal

pub returns-clause-right : goal.returns-clause-right
returns-clause-right g c =
    let node = c.node.result.now in λ whole.
    subst (λ (w : WorldValue). IsNode g.A.App.next w.told.history (start_of node.settings 0) node.records node.cache false) c.self.view_is
    (c.node.ensures.is_true.right whole)
