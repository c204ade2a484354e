use Rattle.std.proofs.Common.{rules, refl}
use Rattle.std.specs.Prelude.{None}
use Rattle.txc_node.specs.declared.op.Op.TheVariants.{Event}
use Rattle.txc_node.specs.declared.refusal.Refusal.TheVariants.{OutOfOrder}
use Rattle.txc_node.specs.declared.reply.Reply.TheVariants as replies
use Rattle.txc_script.specs.Words.{words_left}
use Rattle.txc_script_node.specs.Lines.{event_form}
use Rattle.txc_script_node.proofs.Taking.{taken, unread}
use Rattle.txc_script_node.proofs.step.make_event.Goals as goal

pub returns-in-Ok-clause-made : goal.returns-in-Ok-clause-made
returns-in-Ok-clause-made g c =
    taken g.T.ReplySink.takes event_form (words_left c.args.words) c.take.result c.take.new.why c.args.node.now c.event.new.self (Event c.in-Some.row.0 c.in-Some.row.1.0) (replies.Closed c.in-Ok.count) None c.args.taker.now c.take.new.self
    (record { values = _; say = c.in-Some.ensures.answer; asks = refl }) (search rules) (λ _. refl) c.take.ensures.after c.take.ensures.refusal c.take.ensures.memory

pub returns-in-Err-clause-made : goal.returns-in-Err-clause-made
returns-in-Err-clause-made g c =
    taken g.T.ReplySink.takes event_form (words_left c.args.words) c.take-in-Err.result c.take-in-Err.new.why c.args.node.now c.event.new.self (Event c.in-Some.row.0 c.in-Some.row.1.0) (replies.Refused (OutOfOrder c.in-Err.error.processed)) None c.args.taker.now c.take-in-Err.new.self
    (record { values = _; say = c.in-Some.ensures.answer; asks = refl }) (search rules) (λ _. refl) c.take-in-Err.ensures.after c.take-in-Err.ensures.refusal c.take-in-Err.ensures.memory

pub returns-in-None-clause-made : goal.returns-in-None-clause-made
returns-in-None-clause-made g c = unread g.T.ReplySink.takes event_form (words_left c.args.words) c.read_row.new.why c.args.node.now c.args.taker.now c.in-None.ensures.refused
