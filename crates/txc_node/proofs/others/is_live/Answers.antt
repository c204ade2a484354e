use Rattle.std.proofs.Common.{Some, None, ◌∙◌}
use Rattle.txc_node.proofs.Buckets.{live_stored}
use Rattle.txc_node.proofs.others.is_live.Goals as goal

pub returns-in-None : goal.returns-in-None
returns-in-None c = live_stored c.args.entries.now.entries c.args.place.now None (rw c.in-None.is at c.get.ensures)

pub returns-in-Some : goal.returns-in-Some
returns-in-Some c = c.is_still.ensures ∙ live_stored c.args.entries.now.entries c.args.place.now (Some c.in-Some.stored.now) (rw c.in-Some.is at c.get.ensures)
