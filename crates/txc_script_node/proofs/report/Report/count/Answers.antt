use Rattle.std.proofs.Common.{◌++◌, ◌∷◌, [], sym, subst}
use Rattle.txc_node.specs.Counts.{Totals}
use Rattle.txc_node.specs.Steps.{seen_reply}
use Rattle.txc_script_node.specs.Reports.{IsReportOf, step_by}
use Rattle.txc_script_node.proofs.Reporting.{on_ok, reported_more}
use Rattle.txc_script_node.proofs.report.Report.count.Goals as goal

pub returns : goal.returns
returns c = on_ok c.name.result _ _ (λ named steps op of h.
    let names = c.name.new.self.functions.keys in
    let counted = c.count.ensures in
    subst (λ (t : Totals). IsReportOf (steps ++ step_by op (seen_reply c.args.reply.now) ∷ []) names t) (sym c.name.ensures.unchanged)
    (reported_more steps op c.args.function c.args.reply.now c.args.self.now.functions.keys names c.args.self.now.counts c.count.new.self of
    counted.functions counted.replies counted.events counted.closed counted.swept counted.trimmed named h)) c.name.ensures.after
