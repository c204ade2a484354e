use Rattle.std.proofs.Common.{◌≡◌, ◌≤◌, length, filter, ap, ◌∙◌, arith, rules}
use Rattle.std.proofs.lemmas.Fn.{filter_same}
use borrow.Author.Tests.{ltb-false}
use Rattle.txc_rows.specs.Placed.{in_group}
use Rattle.txc_rows.proofs.Members.{few_left}
use Rattle.txc_rows.proofs.ChangeSteps.{popped}
use Rattle.txc_rows.proofs.writes.of_group.Goals as goal

pub returns-clause-same : goal.returns-clause-same
returns-clause-same c =
    let are : c.retain.new.self.items ≡ filter (in_group c.args.group) c.args.last.items = filter_same _ (in_group c.args.group) _ (λ x b f' called. search rules) _ _ c.retain.ensures.filtered in
    let few : length c.retain.new.self.items ≤ 1 = rw are c.requires.few in
    popped c.retain.new.self.items c.pop.new.self.items c.pop.result few c.pop.ensures.items (λ none. search (arith, rules)) ∙ are

pub returns-clause-moves : goal.returns-clause-moves
returns-clause-moves c = λ e.
    let are : c.retain.new.self.items ≡ filter (in_group c.args.group) c.args.last.items = filter_same _ (in_group c.args.group) _ (λ x b f' called. search rules) _ _ c.retain.ensures.filtered in
    let before : c.len-count.result ≡ length c.args.last.items = search rules in
    let after : c.len.result ≡ length c.retain.new.self.items = search rules in
    omega (arith, before, after, ltb-false _ _ e, ap length are, few_left (in_group c.args.group) c.args.last.items)
