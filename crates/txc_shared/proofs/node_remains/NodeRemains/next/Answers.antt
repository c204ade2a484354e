use Rattle.std.proofs.Common.{sym, subst}
use Rattle.txc_stamp.specs.Interval.{Interval}
use Rattle.txc_app.specs.Claims.{IsTrueIn}
use Rattle.txc_shared.specs.NodeRemains.{LeftValue}
use Rattle.txc_shared.proofs.Left.{last_true, rest_true}
use Rattle.txc_shared.proofs.node_remains.NodeRemains.next.Goals as goal

pub invariant_of-self-2 : goal.invariant_of-self-2
invariant_of-self-2 g c =
    let left = c.self.inside in
    record {
      entries = rest_true g.A.App.next left.seen.history left.processed left.entries c.next.new.self c.in_ok-entry.entry c.in_ok-entry.ensures c.self.invariant.entries;
      within = c.self.invariant.within;
    }

pub returns-clause-is_true : goal.returns-clause-is_true
returns-clause-is_true g c =
    let left = c.self.inside in
    let last = c.in_ok-entry.entry in
    let shown = last_true g.A.App.next left.seen.history left.processed left.entries c.next.new.self last c.in_ok-entry.ensures c.self.invariant.entries in
    let its = subst (λ (i : Interval). IsTrueIn g.A.App.next left.seen.history (record last { reach = i })) (sym c.shown-entry.ensures) shown.true_as_shown in
    subst (λ (v : LeftValue). IsTrueIn g.A.App.next v.seen.history (record last { reach = c.shown-entry.result })) c.self.view_is its
