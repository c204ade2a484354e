use Rattle.std.proofs.Common.{[], ap, ◌∙◌}
use Rattle.std.specs.Prelude.{unwrap_or}
use Rattle.txc_node.specs.IndexedEntries.{IsSpared, has_place}
use Rattle.txc_node.proofs.Closings.{among}
use Rattle.txc_node.proofs.tag_index.close_rows.Goals as goal

pub returns-then-not-stays-clause-spared : goal.returns-then-not-stays-clause-spared
returns-then-not-stays-clause-spared c = λ q l.
    let a = c.args in
    among (IsSpared a.closing.now.stamp a.closing.now.tags.now c.close-count.new.entries.entries) c.in-Some.bucket.now q c.close-count.ensures.spared
    (ap (λ f. has_place (unwrap_or f []) q) (rw c.in-Some.is at c.get_mut.ensures.value) ∙ l)

pub returns-else-not-stays-clause-spared : goal.returns-else-not-stays-clause-spared
returns-else-not-stays-clause-spared c = λ q l.
    let a = c.args in
    among (IsSpared a.closing.now.stamp a.closing.now.tags.now c.close-count.new.entries.entries) c.in-Some.bucket.now q c.close-count.ensures.spared
    (ap (λ f. has_place (unwrap_or f []) q) (rw c.in-Some.is at c.get_mut.ensures.value) ∙ l)
