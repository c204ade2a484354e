use Rattle.std.proofs.Common.{◌∙◌, List, length, get_or, ap, subst, arith}
use Rattle.std.proofs.lemmas.List.{get_or_read}
use borrow.Author.Count.{below_more}
use Rattle.txc_tags.specs.declared.tag.Tag.{Tag}
use Rattle.txc_node.specs.IndexedEntries.{AreSparedBy}
use Rattle.txc_node.proofs.Closings.{closes_more, all_from_places}
use Rattle.txc_node.proofs.Invalidated.{spared_still, was_live}
use Rattle.txc_node.proofs.tag_index.TagIndex.close.Goals as goal

pub loop-tag-preserved : goal.loop-tag-preserved
loop-tag-preserved c =
    let a = c.args in
    let stamp = a.closing.now.stamp in
    let tags = a.closing.now.tags.now in
    let inv = c.loop-tag.invariant in
    let step = c.close_one-count.ensures in
    let mid = c.loop-tag.entries in
    let new = c.close_one-count.new.entries in
    let tables = a.self.now.tables.items in
    record {
      closes = closes_more stamp tags a.entries.now mid new c.loop-tag.count c.close_one-count.result inv.closes step.closes;
      spared = below_more (λ k. (d : Tag) → AreSparedBy stamp tags new.entries tables (get_or tags k d)) c.loop-tag.tag-index
          (λ k l d t q m there. step.closes.spared q (inv.spared k l d t q m there))
          (λ d. subst (λ (x : Tag). AreSparedBy stamp tags new.entries tables x) (get_or_read c.tags-tag-items.result.now c.loop-tag.tag-index c.tag-item.result c.loop-tag-test.true c.tag-item.is d ∙ ap (λ (ts : List Tag). get_or ts c.loop-tag.tag-index d) c.tags-tag-items.ensures.answer)
          (λ t q m there. spared_still stamp tags mid new c.close_one-count.result q step.closes (λ live. step.spared t q m (inv.kept t q live there))));
      kept = λ t q live there. step.kept t q live (inv.kept t q (was_live stamp tags mid new c.close_one-count.result q step.closes live) there);
    }

pub returns-clause-spared : goal.returns-clause-spared
returns-clause-spared c =
    let a = c.args in
    all_from_places (AreSparedBy a.closing.now.stamp a.closing.now.tags.now c.loop-tag.entries.entries a.self.now.tables.items) a.closing.now.tags.now (λ k l d. c.loop-tag.invariant.spared k (omega (arith, l, c.loop-tag-test.false, ap (λ (ts : List Tag). length ts) c.tags-tag-items.ensures.answer)) d)
