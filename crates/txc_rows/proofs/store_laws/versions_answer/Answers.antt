use Rattle.txc_rows.proofs.UsesLemmas.{uses_answer}
use Rattle.txc_rows.proofs.store_laws.versions_answer.Goals as goal

pub returns : goal.returns
returns c = uses_answer
