use Rattle.std.proofs.Common.{ap, ◌∙◌}
use Rattle.txc_txn_rw.specs.RwCore.{RwValue}
use Rattle.txc_world.proofs.WritingCounts.{loss_found}
use Rattle.txc_world.proofs.WritingLemmas.{answered_at, holds_asking, own_answers, own_leads, own_read, own_same, right_answer}
use Rattle.txc_world.proofs.writing.find.Goals as goal

pub returns-clause-holds : goal.returns-clause-holds
returns-clause-holds g c = λ next objects h.
    let asking = c.in_ok-ask.ensures.after in
    c.answer.ensures.holds next objects c.args.ports.now.database.history
    (right_answer c.args.ports.now c.ask.new.self c.args.query.now c.base-base.result c.answer-found.result c.answer-found.ensures.transition c.base-base.ensures (ap (λ (v : RwValue). v.reading) asking))
    (holds_asking next c.args.ports.now.database.history objects c.args.core.now c.ask.new.self c.args.query.now asking h)

pub returns-clause-transition : goal.returns-clause-transition
returns-clause-transition g c =
    let asking = c.in_ok-ask.ensures.after in
    let at_base = c.base-base.ensures ∙ ap (λ (v : RwValue). v.base) asking in
    own_leads c.args.query.now c.args.ports.now c.args.core.now c.ask.new.self c.answer.new.self asking c.requires.1 c.answer-found.result c.answer.result
    (answered_at c.args.query.now c.base-base.result c.args.core.now.base c.args.ports.now c.answer-found.result at_base c.answer-found.ensures.transition)
    (c.answer.ensures.transition c.args.query.now (ap (λ (v : RwValue). v.reading) asking))

pub returns-clause-answers : goal.returns-clause-answers
returns-clause-answers g c =
    let asking = c.in_ok-ask.ensures.after in
    own_answers c.args.query.now c.args.ports.now c.args.core.now c.ask.new.self c.answer.new.self asking c.requires.1 c.answer-found.result c.answer.result
    (c.answer.ensures.transition c.args.query.now (ap (λ (v : RwValue). v.reading) asking))

pub returns-clause-read : goal.returns-clause-read
returns-clause-read g c =
    let asking = c.in_ok-ask.ensures.after in
    own_read c.args.query.now c.args.ports.now c.args.core.now c.ask.new.self c.answer.new.self asking c.requires.1 c.answer-found.result c.answer.result
    (c.answer.ensures.transition c.args.query.now (ap (λ (v : RwValue). v.reading) asking))

pub returns-clause-same : goal.returns-clause-same
returns-clause-same g c =
    let asking = c.in_ok-ask.ensures.after in
    own_same c.args.query.now c.args.ports.now c.args.core.now c.ask.new.self c.answer.new.self asking c.requires.1 c.answer-found.result c.answer.result
    (c.answer.ensures.transition c.args.query.now (ap (λ (v : RwValue). v.reading) asking))

pub returns-clause-loss : goal.returns-clause-loss
returns-clause-loss g c =
    let asking = c.in_ok-ask.ensures.after in
    let at_base = c.base-base.ensures ∙ ap (λ (v : RwValue). v.base) asking in
    loss_found c.args.ports.now c.args.core.now.base c.args.query.now c.answer.result c.count_right.ensures
    (own_leads c.args.query.now c.args.ports.now c.args.core.now c.ask.new.self c.answer.new.self asking c.requires.1 c.answer-found.result c.answer.result
    (answered_at c.args.query.now c.base-base.result c.args.core.now.base c.args.ports.now c.answer-found.result at_base c.answer-found.ensures.transition)
    (c.answer.ensures.transition c.args.query.now (ap (λ (v : RwValue). v.reading) asking)))
