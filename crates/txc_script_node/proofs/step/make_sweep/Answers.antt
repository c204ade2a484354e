use Rattle.std.proofs.Common.{rules, refl}
use Rattle.std.specs.Prelude.{None}
use Rattle.txc_node.specs.declared.op.Op.TheVariants.{Sweep}
use Rattle.txc_node.specs.declared.reply.Reply.TheVariants as replies
use Rattle.txc_script.specs.Words.{words_left}
use Rattle.txc_script_node.specs.Lines.{sweep_form}
use Rattle.txc_script_node.proofs.Taking.{taken, unread}
use Rattle.txc_script_node.proofs.step.make_sweep.Goals as goal

pub returns-clause-made : goal.returns-clause-made
returns-clause-made g c =
    taken g.T.ReplySink.takes sweep_form (words_left c.args.words) c.take.result c.take.new.why c.args.node.now c.sweep.new.self (Sweep c.in-Some.row.0) (replies.Swept c.sweep.result) None c.args.taker.now c.take.new.self
    (record { values = _; say = c.in-Some.ensures.answer; asks = refl }) (search rules) (λ _. refl) c.take.ensures.after c.take.ensures.refusal c.take.ensures.memory

pub returns-in-None-clause-made : goal.returns-in-None-clause-made
returns-in-None-clause-made g c = unread g.T.ReplySink.takes sweep_form (words_left c.args.words) c.read_row.new.why c.args.node.now c.args.taker.now c.in-None.ensures.refused
