use Rattle.std.proofs.Common.{sym, append-nil}
use Rattle.txc_script_node.specs.ReportProgress.{Counts}
use Rattle.txc_script_node.proofs.Taking.{counted_unanswered, on_made}
use Rattle.txc_script_node.proofs.node.CountingScript.answer.Goals as goal

pub returns-clause-answered : goal.returns-clause-answered
returns-clause-answered g c =
    on_made Counts c.args.line.now c.make_step.result c.make_step.new.why c.args.state.now.node c.make_step.new.node c.args.state.now.report c.make_step.new.taker _ c.make_step.ensures.made
    (λ refused h. record { asked = h.0; reply = h.2; asks = h.1; does = (h.3, h.4); text = sym (append-nil c.args.text.now.items); is_refused = h.5 })

pub returns-clause-refused : goal.returns-clause-refused
returns-clause-refused g c = counted_unanswered c.args.line.now c.make_step.result c.make_step.new.why c.args.state.now c.make_step.new.node c.make_step.new.taker c.make_step.ensures.made
