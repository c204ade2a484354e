use Rattle.std.proofs.Common.{◌≡◌, List, IfNone, length}
use Rattle.txc_tags.specs.declared.tag.Tag.{Tag}
use Rattle.txc_tags.proofs.TextSets.{HasTags}
use Rattle.txc_tags.proofs.text.set.read_tags.Given as goal

abbrev pub invariant-loop-read : goal.invariant-loop-read
invariant-loop-read l = (set : List Tag) × HasTags l.text l.rest set × IfNone l.refused (l.set ≡ set)

abbrev pub decreases-loop-read : goal.decreases-loop-read
decreases-loop-read l = length l.rest
