use Rattle.std.proofs.Common.{refl}
use Rattle.txc_script.proofs.running.Running.answer_line.Goals as goal

pub answer-requires : goal.answer-requires
answer-requires g c = c.requires.plain

pub returns-clause-answered : goal.returns-clause-answered
returns-clause-answered g c = c.answer.ensures.answered

pub returns-clause-broke : goal.returns-clause-broke
returns-clause-broke g c = c.answer.ensures.broke

pub returns-clause-unchanged : goal.returns-clause-unchanged
returns-clause-unchanged g c = c.answer.ensures.unchanged

pub returns-clause-counted : goal.returns-clause-counted
returns-clause-counted g c = refl

pub returns-clause-same_line : goal.returns-clause-same_line
returns-clause-same_line g c = refl
