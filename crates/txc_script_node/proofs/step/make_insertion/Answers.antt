use Rattle.std.proofs.Common.{rules, Err, ap, arith, refl, subst, sym}
use Rattle.std.specs.Prelude.{None, Some}
use Rattle.txc_node.specs.declared.value.TheConstants.{MAX_VALUE_LEN}
use Rattle.txc_node.specs.declared.entry.Entry.{Entry}
use Rattle.txc_node.specs.declared.op.Op.TheVariants.{Insert}
use Rattle.txc_node.specs.declared.refusal.Refusal.{Refusal}
use Rattle.txc_node.specs.declared.refusal.Refusal.TheVariants.{Memory}
use Rattle.txc_node.specs.declared.reply.Reply.TheVariants as replies
use Rattle.txc_node.specs.Steps.{MayReply, refusal_by}
use Rattle.txc_node.proofs.Offered.{insertion_refused}
use Rattle.txc_script.specs.Words.{words_left}
use Rattle.txc_script_node.specs.Lines.{insert_form}
use Rattle.txc_script_node.proofs.Named.{entry_refused}
use Rattle.txc_script_node.proofs.Taking.{taken, unread}
use Rattle.txc_script_node.proofs.step.make_insertion.Goals as goal

pub returns-in-Ok-insert-clause-made : goal.returns-in-Ok-insert-clause-made
returns-in-Ok-insert-clause-made g c =
    taken g.T.ReplySink.takes insert_form (words_left c.args.words) c.take.result c.take.new.why c.args.node.now c.insert.new.self (Insert c.in-Ok.entry) (replies.Inserted c.in-Ok-insert.inserted) (Some c.function.result) c.args.taker.now c.take.new.self
    (record { values = _; say = c.in-Some.ensures.answer; asks = ap Insert c.in-Ok.ensures.answer }) (search rules) (λ _. search rules) c.take.ensures.after c.take.ensures.refusal c.take.ensures.memory

pub returns-in-Ok-clause-made : goal.returns-in-Ok-clause-made
returns-in-Ok-clause-made g c =
    taken g.T.ReplySink.takes insert_form (words_left c.args.words) c.take-in-Err-insert.result c.take-in-Err-insert.new.why c.args.node.now c.insert.new.self (Insert c.in-Ok.entry) (replies.Refused Memory) (Some c.function.result) c.args.taker.now c.take-in-Err-insert.new.self
    (record { values = _; say = c.in-Some.ensures.answer; asks = ap Insert c.in-Ok.ensures.answer }) (search rules) (λ _. search rules) c.take-in-Err-insert.ensures.after c.take-in-Err-insert.ensures.refusal c.take-in-Err-insert.ensures.memory

pub returns-clause-made : goal.returns-clause-made
returns-clause-made g c =
    let row = c.in-Some.row in
    let error = c.in-Err.error in
    let entry : Entry = record { key = row.0; value = row.1.1.1.1.1.0.items; reach = record { lo = row.1.0; known = row.1.1.0; still = row.1.1.1.0 }; tags = row.1.1.1.1.0 } in
    let refused = entry_refused entry error (λ e. c.in-Err.ensures.bad_reach.0 (ap Err e)) (λ e. let l = c.in-Err.ensures.too_long.0 (ap Err e) in (l.0, omega (arith, l.1, row.1.1.1.1.1.0.ok.0))) in
    let may = subst (λ (x : Refusal). MayReply MAX_VALUE_LEN c.args.node.now (Insert entry) (replies.Refused x) c.args.node.now) (sym c.of_entry.ensures) (insertion_refused MAX_VALUE_LEN c.args.node.now entry (refusal_by error) refused) in
    taken g.T.ReplySink.takes insert_form (words_left c.args.words) c.take-in-Err.result c.take-in-Err.new.why c.args.node.now c.args.node.now (Insert entry) (replies.Refused c.of_entry.result) None c.args.taker.now c.take-in-Err.new.self
    (record { values = _; say = c.in-Some.ensures.answer; asks = refl }) may (λ h. cc) c.take-in-Err.ensures.after c.take-in-Err.ensures.refusal c.take-in-Err.ensures.memory

pub returns-in-None-clause-made : goal.returns-in-None-clause-made
returns-in-None-clause-made g c = unread g.T.ReplySink.takes insert_form (words_left c.args.words) c.read_row.new.why c.args.node.now c.args.taker.now c.in-None.ensures.refused
