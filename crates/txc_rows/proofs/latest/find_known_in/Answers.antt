use Rattle.txc_rows.proofs.HeldLemmas.{latest_by}
use Rattle.txc_rows.proofs.latest.find_known_in.Goals as goal

pub returns-clause-same : goal.returns-clause-same
returns-clause-same c = latest_by c.args.conn.now c.find_known.new.conn c.find_known.ensures.same.trees
