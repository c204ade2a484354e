use Rattle.txc_tags.proofs.Canonical.{left_canonical}
use Rattle.txc_tags.proofs.set.TagSet.add.Goals as goal

pub invariant_of-self : goal.invariant_of-self
invariant_of-self c = left_canonical c.args.tag c.self.inside.tags.items c.add_tag.new.tags.items c.add_tag.result c.self.invariant c.add_tag.ensures.after c.add_tag.ensures.unchanged
