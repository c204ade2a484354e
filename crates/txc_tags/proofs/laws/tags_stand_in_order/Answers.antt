use Rattle.txc_tags.proofs.TagOrder
use Rattle.txc_tags.proofs.laws.tags_stand_in_order.Goals as goal

pub returns : goal.returns
returns c = TagOrder.before_cases
