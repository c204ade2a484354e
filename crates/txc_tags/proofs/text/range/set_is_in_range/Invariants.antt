use Rattle.std.proofs.Common.{All, take}
use Rattle.txc_tags.specs.TextTag.{IsTagInRange}
use Rattle.txc_tags.proofs.text.range.set_is_in_range.Given as goal

abbrev pub invariant-loop-tag : goal.invariant-loop-tag
invariant-loop-tag l = All IsTagInRange (take l.tag-index l.tag-items)
