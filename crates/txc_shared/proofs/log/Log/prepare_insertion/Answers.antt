use Rattle.std.proofs.Common.{◌∙◌}
use Rattle.txc_node.specs.Cache.{outcome}
use Rattle.txc_node.specs.declared.op.Op.TheVariants.{Insert}
use Rattle.txc_node.specs.declared.reply.Reply.TheVariants as replies
use Rattle.txc_shared.specs.Histories.{next_record}
use Rattle.txc_shared.proofs.log.Log.prepare_insertion.Goals as goal

pub returns-in_ok-boxed-clause-awaits : goal.returns-in_ok-boxed-clause-awaits
returns-in_ok-boxed-clause-awaits c =
    let reply = replies.Inserted (outcome c.args.core.now c.args.entry.now) in
    c.in_ok-boxed.ensures reply ∙ (λ i. next_record c.args.pass c.args.self.now.records (Insert (c.in_ok-copy.ensures i)) reply)
