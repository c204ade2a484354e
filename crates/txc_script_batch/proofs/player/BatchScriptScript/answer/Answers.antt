use Rattle.std.proofs.Common.{List, subst}
use Rattle.txc_script.specs.LineFaults.{IsWrong}
use Rattle.txc_script.specs.Words.{words_of}
use Rattle.txc_work.specs.declared.job.Job.{Job}
use Rattle.txc_script_batch.specs.BatchFaults.{IsBatchFault}
use Rattle.txc_script_batch.specs.Orders.{AsksFor}
use Rattle.txc_script_batch.proofs.Closing.{broke, unread}
use Rattle.txc_script_batch.proofs.player.BatchScriptScript.answer.Goals as goal

pub returns-in-Ok-run_line-clause-answered : goal.returns-in-Ok-run_line-clause-answered
returns-in-Ok-run_line-clause-answered g c =
    let done = c.in-Ok-run_line.ensures.after in
    record {
      asked = c.in-Ok.order;
      reply = done.reply;
      asks = subst (λ (js : List Job). AsksFor js c.args.line.now c.in-Ok.order) c.jobs.ensures c.in-Ok.ensures.answer;
      does = done.does;
      text = done.text;
      is_refused = done.is_refused;
    }

pub returns-in-Err-run_line-clause-refused : goal.returns-in-Err-run_line-clause-refused
returns-in-Err-run_line-clause-refused g c =
    broke c.args.state.now c.run_line.new.self c.args.line.now c.in-Ok.order (subst (λ (js : List Job). AsksFor js c.args.line.now c.in-Ok.order) c.jobs.ensures c.in-Ok.ensures.answer)
    c.in-Err-run_line.ensures.broke

pub returns-in-Err-clause-refused : goal.returns-in-Err-clause-refused
returns-in-Err-clause-refused g c =
    unread c.args.state.now c.args.line.now c.in-Err.reason (subst (λ (js : List Job). IsWrong (IsBatchFault js (words_of c.args.line.now)) c.in-Err.reason) c.jobs.ensures c.in-Err.ensures.refused)
