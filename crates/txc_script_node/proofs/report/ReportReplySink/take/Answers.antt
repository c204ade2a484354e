use Rattle.std.proofs.Common.{◌≡◌, false, sym, ◌∙◌}
use Rattle.txc_node.specs.Steps.{is_refusal, seen_reply}
use Rattle.txc_script_node.proofs.Reporting.{refusal_seen}
use Rattle.txc_script_node.proofs.Taking.{one_counted}
use Rattle.txc_script_node.proofs.report.ReportReplySink.take.Goals as goal

pub returns-in-Ok-clause-after : goal.returns-in-Ok-clause-after
returns-in-Ok-clause-after g c op is given h =
    let kept : is_refusal (seen_reply c.args.reply.now) ≡ false = refusal_seen c.args.reply.now ∙ sym c.is_refusal.ensures ∙ c.if-is_refusal.false in
    one_counted c.args.self.now c.count.new.self op (seen_reply c.args.reply.now) kept (λ steps k. c.in-Ok.ensures steps op (is kept) k) given h
