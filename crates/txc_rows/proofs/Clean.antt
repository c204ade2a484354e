-- Where a purge has nothing to drop, it has nothing to drop after a later write.
use Rattle.std.proofs.Common.{◌≡◌, inl, inr, ℕ, ◌<◌, List, [], ◌∷◌, ◌++◌, map, not, ◌&&◌, None, refl, ap, ◌∙◌}
use borrow.Author.Tests.{lt-leb}
use Rattle.std.proofs.lemmas.List.Elements.{filter-append}
use Rattle.sqlite_trees.proofs.ListLemmas.{filter-map, filter-filter, filter_same, all_of}
use Rattle.txc_rows.specs.declared.version.Versioned.{Versioned}
use Rattle.txc_rows.specs.declared.query.Change.{Change}
use Rattle.txc_rows.specs.declared.query.Change.TheVariants.{Put, Remove}
use Rattle.txc_rows.specs.Values.{RowValue}
use Rattle.txc_rows.specs.States.{is_at}
use Rattle.txc_rows.specs.Versions.{is_current, has_died_by, closed, removed, put, after_net, purged}
use Rattle.txc_rows.proofs.Members.{bool_cases}
use Rattle.txc_rows.proofs.StoredVersions.{hit_is}

pub purged_twice : (h : ℕ) (vs : List Versioned) → purged h (purged h vs) ≡ purged h vs
purged_twice h vs = filter-filter (λ v. not (has_died_by h v)) (λ v. not (has_died_by h v)) (λ v e. e) vs

module _ (h s : ℕ) (low : h < s) where
  lives_on : (t i : ℕ) (v : Versioned) → has_died_by h (closed t i s v) ≡ has_died_by h v
  lives_on t i v = elim (bool_cases (is_at t i v.row && is_current v)) [
    | inl hit ↦ let current : v.died ≡ None = (hit_is t i v hit).2 in rw (hit, current) (lt-leb s h low)
    | inr off ↦ rw off refl
  ]

  clean_removed : (t i : ℕ) (vs : List Versioned) → purged h vs ≡ vs → purged h (removed t i s vs) ≡ removed t i s vs
  clean_removed t i vs clean =
      filter-map (λ v. not (has_died_by h v)) (closed t i s) vs
      ∙ ap (map (closed t i s)) (filter_same _ (λ v. not (has_died_by h v)) vs (all_of _ (λ v. ap not (lives_on t i v)) vs) ∙ clean)

  clean_put : (row : RowValue) (vs : List Versioned) → purged h vs ≡ vs → purged h (put row s vs) ≡ put row s vs
  clean_put row vs clean =
      filter-append _ (removed row.table row.id s vs) (record { row = row; born = s; died = None } ∷ [])
      ∙ ap (λ xs. xs ++ record { row = row; born = s; died = None } ∷ []) (clean_removed row.table row.id vs clean)

  pub clean_net : (net : List Change) (vs : List Versioned) → purged h vs ≡ vs → purged h (after_net s net vs) ≡ after_net s net vs
  clean_net [] vs clean = clean
  clean_net (Put row ∷ cs) vs clean = clean_net cs (put row s vs) (clean_put row vs clean)
  clean_net (Remove t i ∷ cs) vs clean = clean_net cs (removed t i s vs) (clean_removed t i vs clean)
