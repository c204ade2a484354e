-- The tags of queries.
use Rattle.std.proofs.Common.{◌≡◌, inl, inr, ℕ, zero, suc, ◌<◌, true, List, [], ◌∷◌, ◌++◌, length, refl, sym, ap, arith, Contains}
use Rattle.std.specs.Prelude.{map}
use Rattle.std.specs.List.{slice_index_or}
use Rattle.txc_tags.specs.declared.tag.Tag.{Tag}
use Rattle.txc_tags.specs.Tags.{with_tag, with_tags}
use Rattle.txc_tags.proofs.Offered.{all_covered, IsIn}
use Rattle.txc_rows.specs.declared.query.Query.{Query}
use Rattle.txc_rows.specs.RowTags.{covers_query, query_tag}
use Rattle.txc_txn_rw.specs.RwCore.{tags_of}

with_tags_push : (qs : List Query) (q : Query) (set : List Tag) → with_tags (map query_tag (qs ++ q ∷ [])) set ≡ with_tag (query_tag q) (with_tags (map query_tag qs) set)
with_tags_push [] q set = refl
with_tags_push (p ∷ qs) q set = with_tags_push qs q (with_tag (query_tag p) set)

-- the tags of one query more
pub tags_push : (qs : List Query) (q : Query) → tags_of (qs ++ q ∷ []) ≡ with_tag (query_tag q) (tags_of qs)
tags_push qs q = with_tags_push qs q []

tag_there : (qs : List Query) (q : Query) (k : ℕ) → k < length qs → slice_index_or qs k q ≡ q → IsIn (query_tag q) (map query_tag qs)
tag_there [] q k below is = absurd (omega (arith, below))
tag_there (p ∷ qs) q zero below is = inl (ap query_tag (sym is))
tag_there (p ∷ qs) q (suc k) below is = inr (tag_there qs q k (omega (arith, below)) is)

-- the tags cover each of the queries
pub tags_cover : (qs : List Query) (q : Query) → Contains qs q → covers_query (tags_of qs) q ≡ true
tags_cover qs q there = all_covered (map query_tag qs) (query_tag q) [] (tag_there qs q there.0 there.1 there.2)
