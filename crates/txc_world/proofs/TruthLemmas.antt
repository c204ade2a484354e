-- Nodes that are true.
use Rattle.std.proofs.Common.{◌≡◌, ℕ, Bool, false, subst}
use Rattle.txc_db.specs.FrontsAndFeeds.{FrontValue}
use Rattle.txc_db.proofs.Histories.{states_stay, tags_stay}
use Rattle.txc_app.specs.Eval.{Next}
use Rattle.txc_app.proofs.Claims.{true_in_longer}
use Rattle.txc_shared.specs.Nodes.{start_of, NodeValue}
use Rattle.txc_shared.specs.Runs.{IsNode}
use Rattle.txc_shared.proofs.Runs.{node_sees_more}
use Rattle.txc_world.specs.Ports.{IsNodeOf}
use Rattle.txc_world.specs.Worlds.{IsTrueNode}

-- a node of the ports is true in the whole
pub true_node : {next : Next} (whole : FrontValue) (actors : ℕ) (n : NodeValue) → IsNodeOf next whole actors n → IsTrueNode next whole n
true_node {next = next} whole actors n is =
    let seen = subst (λ (from : ℕ). IsNode next n.seen.history (start_of n.settings from) n.records n.cache n.broken) is.begun is.sound in
    record {
      row = is.row;
      seen = seen;
      right = λ intact.
          node_sees_more (true_in_longer states_stay) tags_stay next n.seen.history whole.history (start_of n.settings 0) n.records n.cache false (is.seen intact).begins
          (subst (λ (b : Bool). IsNode next n.seen.history (start_of n.settings 0) n.records n.cache b) intact seen);
    }
