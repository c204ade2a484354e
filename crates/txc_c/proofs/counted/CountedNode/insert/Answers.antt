use Rattle.std.proofs.Common.{◌≡◌, Some, subst}
use Rattle.txc_node.specs.declared.value.TheConstants.{MOST_VALUE_LEN}
use Rattle.txc_node.specs.declared.op.Op.TheVariants as steps
use Rattle.txc_node.specs.Steps.{reply_to}
use Rattle.txc_c.specs.CountedNode.{Counted, LeavesCounted}
use Rattle.txc_c.specs.Numbers.{reply_number}
use Rattle.txc_c.specs.NodeReply.{StoredTold}
use Rattle.txc_c.proofs.Made.{leaves_made, number_made, told_made}
use Rattle.txc_c.proofs.counted.CountedNode.insert.Goals as goal

pub returns-clause-number : goal.returns-clause-number
returns-clause-number c =
    λ _. subst (λ (before : Counted). c.write_stored-number.result ≡ reply_number 0 (reply_to MOST_VALUE_LEN before.cache (steps.Insert c.args.entry))) c.self.view_is
    (number_made c.self.inside.node c.args.entry c.in-Ok.inserted c.write_stored-number.result c.requires c.in-Ok.ensures.answer c.write_stored-number.ensures.number)

pub returns-clause-after : goal.returns-clause-after
returns-clause-after c =
    let old : Counted = record { cache = c.self.inside.node; totals = c.self.inside.tally } in
    let new : Counted = record { cache = c.insert.new.self; totals = c.note.new.self } in
    λ _. subst (λ (before : Counted). LeavesCounted before (steps.Insert c.args.entry) new) c.self.view_is
    (leaves_made old new c.args.entry c.in-Ok.inserted c.function.result c.requires c.in-Ok.ensures.answer c.in-Ok.ensures.after c.function.ensures.answer c.note.ensures)

pub returns-clause-told : goal.returns-clause-told
returns-clause-told c =
    λ _. subst (λ (before : Counted). StoredTold (Some (reply_to MOST_VALUE_LEN before.cache (steps.Insert c.args.entry))) c.args.stored.now c.write_stored-number.new.stored) c.self.view_is
    (told_made c.self.inside.node c.args.entry c.in-Ok.inserted c.args.stored.now c.write_stored-number.new.stored c.requires c.in-Ok.ensures.answer c.write_stored-number.ensures.told)
