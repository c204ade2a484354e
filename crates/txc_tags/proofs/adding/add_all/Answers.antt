use Rattle.std.proofs.Common.{arith, ◌∙◌, ◌++◌, ◌∷◌, [], List, take, sym, ap, subst}
use Rattle.std.proofs.lemmas.List.{take_all, take_more}
use Rattle.txc_tags.specs.declared.tag.Tag.{Tag}
use Rattle.txc_tags.specs.Tags.{with_tag, with_tags, IsCanonical}
use Rattle.txc_tags.proofs.Canonical.{with_canonical}
use Rattle.txc_tags.proofs.Sixteen.{with_tags_push}
use Rattle.txc_tags.proofs.adding.add_all.Goals as goal

pub loop-tag-preserved : goal.loop-tag-preserved
loop-tag-preserved c = record {
  canonical = subst (λ (s : List Tag). IsCanonical s) (sym c.in-Ok.ensures.after) (with_canonical c.tag-item.result c.loop-tag.tags.items c.loop-tag.invariant.canonical);
  room = omega (arith, c.add_tag.ensures.grows, c.add_tag.ensures.capacity);
  added = c.in-Ok.ensures.after ∙ ap (with_tag c.tag-item.result) c.loop-tag.invariant.added
      ∙ sym (with_tags_push (take c.loop-tag.tag-index c.args.more.now) c.args.tags.now.items c.tag-item.result)
      ∙ ap (λ (t : Tag). with_tags (take c.loop-tag.tag-index c.args.more.now ++ t ∷ []) c.args.tags.now.items) c.tag-item.is
      ∙ ap (λ (ts : List Tag). with_tags ts c.args.tags.now.items) (sym (take_more c.args.more.now c.loop-tag.tag-index c.tag-item.result (omega arith)));
}

pub returns : goal.returns
returns c = c.loop-tag.invariant.added ∙ ap (λ (ts : List Tag). with_tags ts c.args.tags.now.items) (take_all c.loop-tag.tag-index c.args.more.now (omega arith))
