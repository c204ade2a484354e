use Rattle.std.proofs.Common.{◌≡◌, ◌+◌, ◌-◌, ◌≤◌, length, take, vec_len, vec_capacity}
use Rattle.txc_tags.specs.Tags.{with_tags, IsCanonical}
use Rattle.txc_tags.proofs.adding.add_all.Given as goal

abbrev pub invariant-loop-tag : goal.invariant-loop-tag
invariant-loop-tag l = record {
  canonical : IsCanonical l.tags.items;
  room : vec_len l.tags + (length l.more - l.tag-index) ≤ vec_capacity l.tags;
  added : l.tags.items ≡ with_tags (take l.tag-index l.more) l.initial.tags.items;
}
