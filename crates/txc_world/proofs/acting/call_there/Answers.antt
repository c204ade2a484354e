use Rattle.std.proofs.Common.{rules}
use Rattle.txc_world.proofs.acting.call_there.Goals as goal

pub returns-in-Start-clause-acts : goal.returns-in-Start-clause-acts
returns-in-Start-clause-acts g c = search (rules, c.start.ensures.transition g.A.App.next c.args.number)
