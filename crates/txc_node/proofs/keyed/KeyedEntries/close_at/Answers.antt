use Rattle.std.proofs.Common.{sym, ◌∙◌}
use Rattle.txc_node.proofs.Closings.{untouched, tied_at, closes_at, closes_none, live_after, spared_at}
use Rattle.txc_node.proofs.keyed.KeyedEntries.close_at.Goals as goal

pub invariant_of-self : goal.invariant_of-self
invariant_of-self c =
    let a = c.args in
    let same = c.close-closed.ensures.entries ∙ untouched a.closing.now.stamp a.closing.now.tags.now a.place.now c.self.inside.cache.entries (sym c.close-closed.ensures.reach ∙ c.in-None.is) in
    rw same c.self.invariant

pub invariant_of-self-in-Some : goal.invariant_of-self-in-Some
invariant_of-self-in-Some c =
    let a = c.args in
    let i = c.self.inside in
    rw c.close-closed.ensures.entries (tied_at a.closing.now.stamp a.closing.now.tags.now a.place.now i.cache.entries i.keys.versions.entries c.set.new.self.versions.entries c.in-Some.reach c.self.invariant (sym c.close-closed.ensures.reach ∙ c.in-Some.is) c.set.ensures)

pub returns-in-None-clause-closes : goal.returns-in-None-clause-closes
returns-in-None-clause-closes c =
    let a = c.args in
    let same = c.close-closed.ensures.entries ∙ untouched a.closing.now.stamp a.closing.now.tags.now a.place.now c.self.inside.cache.entries (sym c.close-closed.ensures.reach ∙ c.in-None.is) in
    rw (same, c.close-closed.ensures.cap, ← c.self.view_is) (closes_none a.closing.now.stamp a.closing.now.tags.now _)

pub returns-in-None-clause-spared : goal.returns-in-None-clause-spared
returns-in-None-clause-spared c =
    let a = c.args in
    rw c.close-closed.ensures.entries (spared_at a.closing.now.stamp a.closing.now.tags.now a.place.now c.self.inside.cache.entries c.self.invariant.placed)

pub returns-in-Some-clause-closes : goal.returns-in-Some-clause-closes
returns-in-Some-clause-closes c =
    let a = c.args in
    let i = c.self.inside in
    rw (c.close-closed.ensures.entries, c.close-closed.ensures.cap, ← c.self.view_is) (closes_at a.closing.now.stamp a.closing.now.tags.now a.place.now i.cache.entries i.cache.cap c.in-Some.reach c.self.invariant.placed (sym c.close-closed.ensures.reach ∙ c.in-Some.is))

pub returns-in-Some-clause-spared : goal.returns-in-Some-clause-spared
returns-in-Some-clause-spared c =
    let a = c.args in
    rw c.close-closed.ensures.entries (spared_at a.closing.now.stamp a.closing.now.tags.now a.place.now c.self.inside.cache.entries c.self.invariant.placed)

pub returns-in-None-clause-live : goal.returns-in-None-clause-live
returns-in-None-clause-live c =
    let a = c.args in
    rw c.close-closed.ensures.entries (c.close-closed.ensures.live ∙ live_after a.closing.now.stamp a.closing.now.tags.now a.place.now c.self.inside.cache.entries c.self.invariant.placed)

pub returns-in-Some-clause-live : goal.returns-in-Some-clause-live
returns-in-Some-clause-live c =
    let a = c.args in
    rw c.close-closed.ensures.entries (c.close-closed.ensures.live ∙ live_after a.closing.now.stamp a.closing.now.tags.now a.place.now c.self.inside.cache.entries c.self.invariant.placed)
