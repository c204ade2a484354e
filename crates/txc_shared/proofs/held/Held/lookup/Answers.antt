use Rattle.std.proofs.Common.{◌≡◌, ap, sym, subst, ◌∙◌}
use Rattle.std.specs.Option.{option_map}
use Rattle.txc_node.specs.declared.op.Op.TheVariants.{Lookup}
use Rattle.txc_node.specs.Steps.{found_reply}
use Rattle.txc_shared.specs.Nodes.{NodeValue, after_call}
use Rattle.txc_shared.specs.Passes.{PassValue}
use Rattle.txc_shared.specs.LockedNode.{IsAdmitted}
use Rattle.txc_shared.proofs.Locking.{then_own}
use Rattle.txc_shared.proofs.held.Held.lookup.Goals as goal

pub returns-in-Ok-clause-made : goal.returns-in-Ok-clause-made
returns-in-Ok-clause-made g c =
    let p = c.args.pass.now in
    let own : c.pass.inside.pass ≡ p.pass = ap (λ (x : PassValue). x.pass) c.pass.view_is in
    let same = c.self.view_is ∙ c.in_ok-admit.ensures.unchanged in
    let admitted : IsAdmitted c.self.inside.node p = subst (λ (n : NodeValue). IsAdmitted n p) (sym same) c.in_ok-admit.ensures.ok in
    let n = c.self.inside.node in
    let op = Lookup c.args.key.now c.args.lo c.args.hi in
    let m = c.lookup.new.self in
    let is : m ≡ after_call n p.pass op = subst (λ k. m ≡ after_call n k op) own c.in-Ok.ensures.after in
    then_own n m p c.show.new.pass n.seen op (found_reply (option_map (λ f. f.answer) c.in-Ok.found)) admitted is c.show.ensures.records (ap found_reply c.in-Ok.ensures.answer)
