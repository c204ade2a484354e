use Rattle.txc_rows.proofs.HeldLemmas.{latest_by}
use Rattle.txc_rows.proofs.latest.find_in.Goals as goal

pub returns-clause-same : goal.returns-clause-same
returns-clause-same c = latest_by c.args.conn.now c.find.new.conn c.find.ensures.same.trees
