use Rattle.std.proofs.Common.{◌≡◌, map, drop}
use Rattle.txc_tags.specs.Tags.{set_of, with_tags}
use Rattle.txc_c_types.specs.CacheViews.{tag_of}
use Rattle.txc_c_types.proofs.crossing.tags_of.Given as goal

-- the tags that are left make of the set that of all
abbrev pub invariant-loop-tag : goal.invariant-loop-tag
invariant-loop-tag l = with_tags (map tag_of (drop l.tag-index l.tags)) l.set ≡ set_of (map tag_of l.tags)
