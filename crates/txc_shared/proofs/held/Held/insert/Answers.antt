use Rattle.std.proofs.Common.{◌≡◌, refl, ap, sym, subst, ◌∙◌}
use Rattle.txc_node.specs.declared.op.Op.TheVariants.{Insert}
use Rattle.txc_node.specs.declared.reply.Reply.TheVariants as replies
use Rattle.txc_node.specs.Cache.{outcome}
use Rattle.txc_shared.specs.Nodes.{NodeValue, after_call, seeing}
use Rattle.txc_shared.specs.Passes.{PassValue}
use Rattle.txc_shared.specs.LockedNode.{IsAdmitted}
use Rattle.txc_shared.proofs.Locking.{ahead_seeing, then_own}
use Rattle.txc_shared.proofs.held.Held.insert.Goals as goal

pub show-requires : goal.show-requires
show-requires g c =
    let p = c.args.pass.now in
    let own : c.pass.inside.pass ≡ p.pass = ap (λ (x : PassValue). x.pass) c.pass.view_is in
    let same = c.self.view_is ∙ c.in_ok-admit.ensures.unchanged in
    let admitted : IsAdmitted c.self.inside.node p = subst (λ (n : NodeValue). IsAdmitted n p) (sym same) c.in_ok-admit.ensures.ok in
    let n = c.self.inside.node in
    let m = c.insert.new.self in
    let op = Insert c.args.entry in
    let is : m ≡ after_call (seeing n m.seen) p.pass op = subst (λ k. m ≡ after_call (seeing n m.seen) k op) own c.in-Ok.ensures.after in
    ahead_seeing n m c.see.new.self p m.seen c.see.new.self.seen op admitted is c.see.ensures.same

pub returns-in-Ok-clause-made : goal.returns-in-Ok-clause-made
returns-in-Ok-clause-made g c =
    let p = c.args.pass.now in
    let own : c.pass.inside.pass ≡ p.pass = ap (λ (x : PassValue). x.pass) c.pass.view_is in
    let same = c.self.view_is ∙ c.in_ok-admit.ensures.unchanged in
    let admitted : IsAdmitted c.self.inside.node p = subst (λ (n : NodeValue). IsAdmitted n p) (sym same) c.in_ok-admit.ensures.ok in
    let n = c.self.inside.node in
    let m = c.insert.new.self in
    let op = Insert c.args.entry in
    let is : m ≡ after_call (seeing n m.seen) p.pass op = subst (λ k. m ≡ after_call (seeing n m.seen) k op) own c.in-Ok.ensures.after in
    let inserted = outcome n.cache c.args.entry in
    record {
      inserted = inserted;
      made = then_own n m p c.show.new.pass m.seen op (replies.Inserted inserted) admitted is
          (c.show.ensures.records ∙ ap (λ (k : NodeValue). k.records) c.see.ensures.same) refl;
      answer = c.in-Ok.ensures.answer;
    }
