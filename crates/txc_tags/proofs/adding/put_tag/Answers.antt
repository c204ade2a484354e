use Rattle.std.proofs.Common.{◌∙◌, ap, count_by}
use Rattle.txc_tags.specs.Tags.{tag_before}
use Rattle.txc_tags.proofs.Placing.{inserted}
use Rattle.txc_tags.proofs.adding.put_tag.Goals as goal

pub returns-clause-after : goal.returns-clause-after
returns-clause-after c =
    let place = c.place_of-place.ensures.value ∙ ap (count_by (λ x. tag_before x c.args.tag)) c.deref.ensures.value in
    c.in_ok-insert.ensures.items ∙ inserted c.args.tag c.args.tags.now.items c.place_of-place.result c.requires.canonical.in_order c.requires.absent place
