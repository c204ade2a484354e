use Rattle.std.proofs.Common.{arith}
use borrow.Author.Count.{below_more}
use Rattle.txc_node.specs.IndexedEntries.{AreSparedAt}
use Rattle.txc_node.proofs.Closings.{closes_more, all_stay, table_spared}
use Rattle.txc_node.proofs.closing.Closing.in_table.Goals as goal

pub loop-i-preserved : goal.loop-i-preserved
loop-i-preserved c =
    let a = c.args in
    let stamp = a.self.now.stamp in
    let tags = a.self.now.tags.now in
    let inv = c.loop-i.invariant in
    let step = c.at_index-count.ensures in
    let old = c.loop-i.entries in
    let new = c.at_index-count.new.entries in
    record {
      closes = closes_more stamp tags a.entries.now old new c.loop-i.count c.at_index-count.result inv.closes step.closes;
      spared = below_more (λ k. AreSparedAt stamp tags new.entries a.buckets.now.entries k) c.loop-i.i
          (λ k l x at. all_stay stamp tags old.entries new.entries x.1 step.closes.spared (inv.spared k l x at))
          step.spared;
    }

pub returns-clause-spared : goal.returns-clause-spared
returns-clause-spared c = λ r q l.
    let a = c.args in
    table_spared a.self.now.stamp a.self.now.tags.now c.loop-i.entries.entries a.buckets.now.entries r q (λ k below. c.loop-i.invariant.spared k (omega (arith, below, c.loop-i-test.false, c.len-i-end.ensures.len))) l
