use Rattle.std.proofs.Common.{◌∙◌, arith}
use borrow.Author.Count.{below_more}
use Rattle.txc_node.specs.IndexedEntries.{entries_of, listed}
use Rattle.txc_node.specs.Sweep.{AreGoneAt}
use Rattle.txc_node.proofs.Sweepings.{all_gone, all_have, gone_by_key, shed_more}
use Rattle.txc_node.proofs.sweeping.Sweep.at_all.Goals as goal

pub at_index-requires-clause-reaches : goal.at_index-requires-clause-reaches
at_index-requires-clause-reaches c = λ key.
    let a = c.args in
    let s = a.self.now in
    all_have s.processed s.horizon (entries_of a.cache.now.entries) (entries_of c.loop-i.cache.entries) key (listed a.keys.now.entries key) c.loop-i.invariant.sheds (c.requires.reaches key)

pub loop-i-preserved : goal.loop-i-preserved
loop-i-preserved c =
    let a = c.args in
    let s = a.self.now in
    let inv = c.loop-i.invariant in
    let step = c.at_index.ensures in
    let mid = entries_of c.loop-i.cache.entries in
    let new = entries_of c.at_index.new.cache.entries in
    record {
      stored = step.stored;
      cap = step.cap ∙ inv.cap;
      sheds = shed_more s.processed s.horizon (entries_of a.cache.now.entries) mid new inv.sheds step.sheds;
      gone = below_more (λ k. AreGoneAt s.processed s.horizon new a.keys.now.entries k) c.loop-i.i
          (λ k l x at. all_gone s.processed s.horizon mid new x.0 x.1 step.sheds (inv.gone k l x at))
          step.gone;
    }

pub returns-clause-gone : goal.returns-clause-gone
returns-clause-gone c =
    let a = c.args in
    let s = a.self.now in
    gone_by_key s.processed s.horizon (entries_of c.loop-i.cache.entries) a.keys.now.entries (λ k below. c.loop-i.invariant.gone k (omega (arith, below, c.loop-i-test.false, c.len-i-end.ensures.len)))
