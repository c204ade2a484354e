use Rattle.txc_site_workers.proofs.carried_entries.carry_entries.Goals as goal

pub begin-requires-clause-is_true : goal.begin-requires-clause-is_true
begin-requires-clause-is_true g c =
    c.true_entries_stay.ensures g.A.App.next c.loop.left.seen.history c.args.whole.now.history c.in-Some.entry c.loop.invariant c.in-Some.ensures.is_true
