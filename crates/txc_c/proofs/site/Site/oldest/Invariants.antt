use Rattle.txc_c.proofs.Oldest.{IsLeastBut}
use Rattle.txc_c.proofs.site.Site.oldest.Given as goal

-- of those that are not left it is the least number
abbrev pub invariant-loop-it : goal.invariant-loop-it
invariant-loop-it l =
    (goal.iterator-loop-it).can_next l.it-iterator × (goal.iterator-loop-it).is_finite l.it-iterator × IsLeastBut l.self.opened l.it-iterator l.least
