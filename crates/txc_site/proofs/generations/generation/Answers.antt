use Rattle.txc_site.proofs.Turns.{no_front}
use Rattle.txc_site.proofs.generations.generation.Goals as goal

pub returns-in_err-ended-clause-refused : goal.returns-in_err-ended-clause-refused
returns-in_err-ended-clause-refused g c =
    no_front g.A.FunctionTable.numbers c.from_residual-in_err-ended.result c.in_err-ended.field-0.0 c.from_residual-in_err-ended.ensures.1
    c.in_err-ended.ensures.refused
