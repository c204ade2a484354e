use Rattle.txc_db.specs.DatabaseValue.{front_of}
use Rattle.txc_site.proofs.Turns.{no_next_front, same_front, short_front}
use Rattle.txc_site.proofs.generations.next.Goals as goal

pub returns-in-Err-clause-refused : goal.returns-in-Err-clause-refused
returns-in-Err-clause-refused g c = (c.renew.new.core, same_front c.args.core c.renew.new.core c.in-Err.ensures.left, c.in-Err.ensures.refused)

pub returns-in_err-front-clause-refused : goal.returns-in_err-front-clause-refused
returns-in_err-front-clause-refused g c =
    no_next_front c.args.plan.events (front_of c.args.core) c.from_residual.result c.from_residual.ensures.1

pub returns-clause-anew : goal.returns-clause-anew
returns-clause-anew g c = short_front c.renew.new.core c.in_ok-front.front c.in_ok-front.ensures c.in_default.ensures.few
