use Rattle.std.proofs.Common.{◌≡◌, ◌+◌, length, vec_len, ap, arith}
use Rattle.std.proofs.lemmas.Grind.{common_steps}
use Rattle.txc_site_workers.specs.Plans.{settings_of_node}
use Rattle.txc_site_workers.proofs.NodeHistories.{one_node_more, one_history_less}
use Rattle.txc_site_workers.proofs.site_parts.nodes.Goals as goal

pub loop-history-preserved : goal.loop-history-preserved
loop-history-preserved g c =
    let before = c.loop-history.invariant in
    let step = c.in-Some.ensures.steps.0 in
    let more : vec_len c.push.new.self ≡ vec_len c.loop-history.nodes + 1 = grind (arith, common_steps) in
    let its : c.in_ok-node.field-0 ≡ settings_of_node c.args.plan (vec_len c.loop-history.nodes) = cc c.in_ok-node.ensures in
    record {
      histories = one_history_less g.J.Naming.node_histories _ _ _ _ _ before.histories step more;
      each = grind (arith, common_steps, before.each, ap length step);
      made = one_node_more c.args.plan _ _ _ _ _ before.made its c.in_ok-push.ensures.items more;
    }
