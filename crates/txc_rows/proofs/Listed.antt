-- What is read for a query is what it asks for, where no more is read than may match.
use Rattle.std.proofs.Common.{◌≡◌, ℕ, ◌+◌, ◌-◌, ◌<◌, ◌≤◌, List, map, filter, take, length, ap, sym, ◌∙◌, length-take, take_all, arith}
use Rattle.std.proofs.lemmas.List.{length-map}
use Rattle.std.specs.List.Sorted.{IsPermutation}
use Rattle.std.proofs.lemmas.List.Sorted.{length_permutation}
use Rattle.sqlite.specs.Order.{Row}
use Rattle.txc_rows.specs.declared.version.Versioned.{Versioned}
use Rattle.txc_rows.specs.declared.query.Query.{Query}
use Rattle.txc_rows.specs.States.{query_table}
use Rattle.txc_rows.specs.Versions.{suits}
use Rattle.txc_rows.specs.StoredVersion.{version_shown}
use Rattle.txc_rows.specs.LatestTable.{IsListing}

module _ (q : Query) (most : ℕ) (vs : List Versioned) (rows : List Row) (listing : IsListing q (most + 1) vs rows) where
  abbrev shown_versions : List Versioned
  shown_versions = map (version_shown (query_table q)) rows

  counted : length rows ≡ length (take (most + 1) listing.found)
  counted = sym (length-map rows (version_shown (query_table q))) ∙ ap length listing.first

  pub all_shown : length rows ≤ most → IsPermutation (filter (suits q) vs) shown_versions
  all_shown few =
      let all : length listing.found ≤ most + 1 = omega (arith, counted, length-take (most + 1) listing.found, few) in
      rw (listing.first, take_all (most + 1) listing.found all) listing.same

  pub many_listed : (before : ℕ) → before ≤ most → most - before < length rows → most < before + length (filter (suits q) vs)
  many_listed before low many = omega (arith, low, many, counted, length-take (most + 1) listing.found, length_permutation _ listing.found listing.same)
