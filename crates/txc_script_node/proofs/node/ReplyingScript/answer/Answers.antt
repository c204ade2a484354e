use Rattle.std.proofs.Common.{◌≡◌, ◌++◌, ℕ}
use Rattle.std.specs.Global.{Vec}
use Rattle.txc_script_settings.specs.declared.mode.Mode.TheVariants.{Node}
use Rattle.txc_script_node.specs.NodeScripts.{reply_line}
use Rattle.txc_script_node.specs.Steps.{Taking}
use Rattle.txc_script_node.proofs.Taking.{node_unanswered, on_made}
use Rattle.txc_script_node.proofs.node.ReplyingScript.answer.Goals as goal

abbrev Writes : Taking (Vec ℕ)
Writes old op reply new = new.items ≡ old.items ++ reply_line Node reply

pub returns-clause-answered : goal.returns-clause-answered
returns-clause-answered g c =
    on_made Writes c.args.line.now c.make_step.result c.make_step.new.why c.args.state.now c.make_step.new.node c.args.text.now c.make_step.new.taker _ c.make_step.ensures.made
    (λ refused h. record { asked = h.0; reply = h.2; asks = h.1; does = h.3; text = h.4; is_refused = h.5 })

pub returns-clause-refused : goal.returns-clause-refused
returns-clause-refused g c = node_unanswered Writes c.args.line.now c.make_step.result c.make_step.new.why c.args.state.now c.make_step.new.node c.args.text.now c.make_step.new.taker c.make_step.ensures.made
