use Rattle.std.proofs.Common.{◌≡◌, ◌+◌, ℕ, List, length, sym, ap, subst, ◌∙◌, arith, vec_len}
use Rattle.std.proofs.lemmas.Grind.{common_steps}
use Rattle.txc_script_batch.specs.Rows.{AreRowsOf}
use Rattle.txc_script_batch.proofs.NodesBy.{numbered, one_node_more}
use Rattle.txc_script_batch.proofs.running.nodes.Goals as goal

pub loop-row-preserved : goal.loop-row-preserved
loop-row-preserved g c =
    let before = c.loop-row.invariant in
    let nodes = c.loop-row.nodes in
    let count : c.len-in-loop-row.result ≡ length nodes.items = omega (arith, c.len-in-loop-row.ensures, nodes.ok.0) in
    let step = c.in-Some.ensures.steps.0 in
    let more : vec_len c.push.new.self ≡ vec_len nodes + 1 = grind (arith, common_steps, c.in_ok-push.ensures.len) in
    record {
      rows = subst (λ (n : ℕ). AreRowsOf g.J.Naming.node_histories n c.next.new.self.rest.items) (sym more)
          (subst (λ (rows : List (List ℕ)). AreRowsOf g.J.Naming.node_histories (vec_len nodes) rows) step before.rows).1;
      each = grind (arith, common_steps, before.each, more, ap length step);
      made = one_node_more c.args.settings nodes.items c.push.new.self.items c.in_ok-new.field-0 before.made (c.in_ok-new.ensures ∙ numbered c.args.settings c.len-in-loop-row.result (length nodes.items) count) c.in_ok-push.ensures.items;
    }
