use Rattle.txc_db.specs.Refusals.{NoneMatches}
use Rattle.txc_db.proofs.db_core.commit.first_conflict.Given as goal

abbrev pub invariant-loop-at : goal.invariant-loop-at
invariant-loop-at l = NoneMatches l.told.history l.base l.at l.read
