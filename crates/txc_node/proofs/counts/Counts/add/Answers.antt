use Rattle.std.proofs.Common.{ℕ, Option, ◌∙◌, ap}
use Rattle.txc_node.specs.Counts.{counts_of, sum_of, counts_for}
use Rattle.txc_node.proofs.History.{counted_more}
use Rattle.txc_node.proofs.counts.Counts.add.Goals as goal

pub returns-clause-history : goal.returns-clause-history
returns-clause-history c = λ steps h.
    let counts = c.count.ensures in
    counted_more steps c.args.step.now c.args.self.now c.count.new.self
    (λ f. counts.functions f ∙ ap (λ (g : Option ℕ). sum_of (counts_of c.args.self.now.functions f) (counts_for f g c.args.step.now.reply)) c.function.ensures.answer)
    counts.replies counts.events counts.closed counts.swept counts.trimmed h
