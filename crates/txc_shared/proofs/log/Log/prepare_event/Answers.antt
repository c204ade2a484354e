use Rattle.std.proofs.Common.{◌∙◌}
use Rattle.txc_node.specs.Cache.{closed_count}
use Rattle.txc_node.specs.declared.op.Op.TheVariants.{Event}
use Rattle.txc_node.specs.declared.reply.Reply.TheVariants as replies
use Rattle.txc_shared.specs.Histories.{next_record}
use Rattle.txc_shared.proofs.log.Log.prepare_event.Goals as goal

pub returns-in_ok-boxed-clause-awaits : goal.returns-in_ok-boxed-clause-awaits
returns-in_ok-boxed-clause-awaits c =
    let reply = replies.Closed (closed_count c.args.core.now c.args.stamp c.args.tags.now) in
    c.in_ok-boxed.ensures reply ∙ (λ i. next_record c.args.pass c.args.self.now.records (Event c.args.stamp (c.in_ok-tags.ensures i)) reply)
