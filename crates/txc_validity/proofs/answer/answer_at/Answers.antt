use Rattle.txc_validity.proofs.ValidityLemmas.{answers_found}
use Rattle.txc_validity.proofs.answer.answer_at.Goals as goal

pub returns-in-Ok-clause-answer : goal.returns-in-Ok-clause-answer
returns-in-Ok-clause-answer c = λ states shows.
    answers_found states c.args.query.now c.args.versions.now c.args.stamp c.args.horizon c.args.newest c.in-Ok.counted.found shows c.in-Ok.ensures.rows c.in-Ok.ensures.validity
