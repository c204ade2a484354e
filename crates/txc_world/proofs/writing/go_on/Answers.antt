use Rattle.txc_db.specs.History.{state_at}
use Rattle.txc_world.proofs.WritingLemmas.{answered_at, answered_rows, queried_so, right_answer}
use Rattle.std.proofs.Common.{ℕ, subst}
use Rattle.txc_world.specs.Holdings.{HasLost}
use Rattle.txc_world.specs.LostSnapshot.{IfDidLose}
use Rattle.txc_world.proofs.PortsLemmas.{query_shown}
use Rattle.txc_world.proofs.WritingCounts.{based, loss_told}
use Rattle.txc_world.proofs.writing.go_on.Goals as goal

pub returns-clause-holds : goal.returns-clause-holds
returns-clause-holds g c =
    c.reply-turn.ensures.holds c.args.ports.now.database.history
    (right_answer c.args.ports.now c.args.core.now c.args.query.now c.base-base.result c.answer_told-did.result.1 (query_shown c.args.ports.now c.args.query.now c.base-base.result c.answer.result c.answer_told-did.result.1 c.answer.ensures.transition c.answer_told-did.ensures.same) c.base-base.ensures c.requires.asks.0)
    c.requires.holds

pub returns-clause-loss : goal.returns-clause-loss
returns-clause-loss g c =
    subst (λ (b : ℕ). IfDidLose c.answer_told-did.result.0 (HasLost c.args.ports.now (based b))) c.base-base.ensures
    (loss_told c.args.ports.now c.base-base.result c.args.query.now c.answer_told-did.result.1 c.answer_told-did.result.0 c.count_right.ensures
    (query_shown c.args.ports.now c.args.query.now c.base-base.result c.answer.result c.answer_told-did.result.1 c.answer.ensures.transition c.answer_told-did.ensures.same) c.answer_told-did.ensures.tells)

pub returns-clause-asks : goal.returns-clause-asks
returns-clause-asks g c =
    let here = answered_at c.args.query.now c.base-base.result c.args.core.now.base c.args.ports.now c.answer_told-did.result.1 c.base-base.ensures (query_shown c.args.ports.now c.args.query.now c.base-base.result c.answer.result c.answer_told-did.result.1 c.answer.ensures.transition c.answer_told-did.ensures.same) in
    record {
      found = c.answer_told-did.result.1;
      answer = here;
      tells = c.answer_told-did.ensures.tells;
      queried = queried_so c.args.core.now.queried c.args.core.now.reading c.args.query.now c.answer_told-did.result.1 c.reply-turn.new.self.queried c.requires.asks.0 c.reply-turn.ensures.queried;
      transition = λ f is.
          c.reply-turn.ensures.transition (state_at c.args.ports.now.database.history c.args.core.now.base) c.args.query.now f
          c.requires.asks.1
          is (answered_rows c.args.query.now c.args.core.now.base c.args.ports.now c.answer_told-did.result.1 f here is);
      refused = c.reply-turn.ensures.refused;
      same = c.reply-turn.ensures.same;
    }
