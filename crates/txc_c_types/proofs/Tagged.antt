-- The set of tags that cross.
use Rattle.std.proofs.Common.{◌≡◌, ℕ, ◌+◌, ◌<◌, List, length, get_or, map, drop, sym, ap, ◌∙◌}
use Rattle.std.proofs.lemmas.List.{at_drop_more}
use Rattle.txc_tags.specs.declared.tag.Tag.{Tag}
use Rattle.txc_tags.specs.Tags.{with_tag, with_tags}
use Rattle.txc_c_types.specs.declared.crossing.TxcTag.{TxcTag}
use Rattle.txc_c_types.specs.CacheViews.{tag_of}

-- the set, and the tags from an index on
abbrev adding : List Tag → List TxcTag → List Tag
adding set xs = with_tags (map tag_of xs) set

pub added_at : (xs : List TxcTag) (i : ℕ) (d : TxcTag) (old new all : List Tag) (tag : Tag) → i < length xs → tag ≡ tag_of (get_or xs i d) → new ≡ with_tag tag old → with_tags (map tag_of (drop i xs)) old ≡ all
    → with_tags (map tag_of (drop (i + 1) xs)) new ≡ all
added_at xs i d old new all tag l is added left =
    ap (with_tags (map tag_of (drop (i + 1) xs))) (added ∙ ap (λ (t : Tag). with_tag t old) is) ∙ sym (at_drop_more (adding old) xs i d l) ∙ left
