use Rattle.std.proofs.Common.{Option, Some, sym, subst, ap, ◌∙◌}
use Rattle.txc_node.specs.declared.op.Op.{Op}
use Rattle.txc_c.specs.Numbers.{call_number}
use Rattle.txc_c.specs.NodeReply.{call_reply, StoredTold}
use Rattle.txc_c.proofs.node.insert.Goals as goal

pub returns-clause-number : goal.returns-clause-number
returns-clause-number c = λ n. c.insert.ensures.number n ∙ ap (call_number 0 (Some c.args.node.now)) (sym c.in-Ok.ensures.asked)

pub returns-clause-told : goal.returns-clause-told
returns-clause-told c =
    λ n. subst (λ (asked : Option Op). StoredTold (call_reply (Some c.args.node.now) asked) c.args.stored.now c.insert.new.stored) (sym c.in-Ok.ensures.asked) (c.insert.ensures.told n)
