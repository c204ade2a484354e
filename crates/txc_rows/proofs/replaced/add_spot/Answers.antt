use Rattle.txc_rows.proofs.IndexLemmas.{spot_cmp, inserted, all_differ}
use Rattle.txc_rows.proofs.replaced.add_spot.Goals as goal

pub returns-clause-added : goal.returns-clause-added
returns-clause-added c = rw c.in_ok-insert.ensures.keys (inserted spot_cmp c.args.spot c.args.spots.now.keys (all_differ c.args.spot c.args.spots.now.keys c.requires))
