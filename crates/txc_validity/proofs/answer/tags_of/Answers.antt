use Rattle.txc_rows.specs.RowTags.{query_tag}
use Rattle.txc_validity.proofs.OneTag.{with_tag-empty}
use Rattle.txc_validity.proofs.answer.tags_of.Goals as goal

pub returns : goal.returns
returns c = rw (c.in_ok-add.ensures.after, c.tag.ensures, c.new-tags.ensures) (with_tag-empty (query_tag c.args.query.now))
