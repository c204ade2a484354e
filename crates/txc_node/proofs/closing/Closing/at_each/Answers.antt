use Rattle.std.proofs.Common.{get_or, subst, arith}
use Rattle.std.proofs.lemmas.List.{get_or_read}
use borrow.Author.Count.{below_more}
use Rattle.txc_node.specs.declared.place.Place.{Place}
use Rattle.txc_node.specs.IndexedEntries.{IsSpared}
use Rattle.txc_node.proofs.Closings.{closes_more, all_from_places}
use Rattle.txc_node.proofs.closing.Closing.at_each.Goals as goal

pub loop-i-preserved : goal.loop-i-preserved
loop-i-preserved c =
    let a = c.args in
    let stamp = a.self.now.stamp in
    let tags = a.self.now.tags.now in
    let inv = c.loop-i.invariant in
    let step = c.close_at-closed.ensures in
    let new = c.close_at-closed.new.self in
    let x = c.index-places-i.result in
    record {
      closes = closes_more stamp tags a.entries.now c.loop-i.entries new c.loop-i.count c.close_at-closed.result.0 inv.closes step.closes;
      spared = below_more (λ k. (d : Place) → IsSpared stamp tags new.entries (get_or a.places.now k d)) c.loop-i.i
          (λ k l d. step.closes.spared (get_or a.places.now k d) (inv.spared k l d))
          (λ d. subst (IsSpared stamp tags new.entries) (get_or_read a.places.now c.loop-i.i x c.loop-i-test.true c.index-places-i.is d) step.spared);
    }

pub returns-clause-spared : goal.returns-clause-spared
returns-clause-spared c =
    let a = c.args in
    all_from_places (IsSpared a.self.now.stamp a.self.now.tags.now c.loop-i.entries.entries) a.places.now (λ k l d. c.loop-i.invariant.spared k (omega (arith, l, c.loop-i-test.false)) d)
