use Rattle.std.proofs.Common.{rules, refl}
use Rattle.std.specs.Prelude.{Some}
use Rattle.txc_node.specs.declared.op.Op.TheVariants.{Lookup}
use Rattle.txc_node.specs.declared.refusal.Refusal.TheVariants.{EmptyRange}
use Rattle.txc_node.specs.Hit.{seen}
use Rattle.txc_node.specs.declared.reply.Reply.TheVariants as replies
use Rattle.txc_script.specs.Words.{words_left}
use Rattle.txc_script_node.specs.Lines.{lookup_form}
use Rattle.txc_script_node.proofs.Taking.{taken, unread}
use Rattle.txc_script_node.proofs.step.make_lookup.Goals as goal

pub returns-in-Ok-Some-clause-made : goal.returns-in-Ok-Some-clause-made
returns-in-Ok-Some-clause-made g c =
    taken g.T.ReplySink.takes lookup_form (words_left c.args.words) c.take_hit.result c.take_hit.new.why c.args.node.now _ (Lookup c.in-Some.row.0 c.in-Some.row.1.0 c.in-Some.row.1.1.0) (replies.Hit (seen c.in-Ok-Some.hit)) (Some c.function.result) c.args.taker.now c.take_hit.new.taker
    (record { values = _; say = c.in-Some.ensures.answer; asks = refl }) (search rules) (λ _. search rules) c.take_hit.ensures.after c.take_hit.ensures.refusal c.take_hit.ensures.memory

pub returns-in-Ok-None-clause-made : goal.returns-in-Ok-None-clause-made
returns-in-Ok-None-clause-made g c =
    taken g.T.ReplySink.takes lookup_form (words_left c.args.words) c.take.result c.take.new.why c.args.node.now _ (Lookup c.in-Some.row.0 c.in-Some.row.1.0 c.in-Some.row.1.1.0) replies.Miss (Some c.function.result) c.args.taker.now c.take.new.self
    (record { values = _; say = c.in-Some.ensures.answer; asks = refl }) (search rules) (λ _. search rules) c.take.ensures.after c.take.ensures.refusal c.take.ensures.memory

pub returns-in-Err-clause-made : goal.returns-in-Err-clause-made
returns-in-Err-clause-made g c =
    taken g.T.ReplySink.takes lookup_form (words_left c.args.words) c.take-in-Err.result c.take-in-Err.new.why c.args.node.now _ (Lookup c.in-Some.row.0 c.in-Some.row.1.0 c.in-Some.row.1.1.0) (replies.Refused EmptyRange) (Some c.function.result) c.args.taker.now c.take-in-Err.new.self
    (record { values = _; say = c.in-Some.ensures.answer; asks = refl }) (search rules) (λ _. search rules) c.take-in-Err.ensures.after c.take-in-Err.ensures.refusal c.take-in-Err.ensures.memory

pub returns-in-None-clause-made : goal.returns-in-None-clause-made
returns-in-None-clause-made g c = unread g.T.ReplySink.takes lookup_form (words_left c.args.words) c.read_row.new.why c.args.node.now c.args.taker.now c.in-None.ensures.refused
