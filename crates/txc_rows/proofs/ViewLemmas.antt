-- What a store shows of the versions in its tables.
use Rattle.std.proofs.Common.{◌≡◌, ℕ, ◌≤◌, List, ap, ◌∙◌}
use Rattle.std.specs.List.{AllByRecursion}
use Rattle.sqlite_trees.proofs.ListLemmas.{all-filter, all-map, all-permutation}
use Rattle.txc_rows.specs.declared.query.Change.{Change}
use Rattle.txc_rows.specs.Versions.{after_net}
use Rattle.txc_rows.specs.StorableVersions.{IsStorable}
use Rattle.txc_rows.specs.declared.placed.Placed.{Placed}
use Rattle.txc_rows.specs.Placed.{version_of, by_place, versions_by_place, is_left, left_from, AreWritten}
use Rattle.txc_rows.proofs.PlaceLemmas.{by_place_permutes}
use Rattle.txc_rows.proofs.SweepLemmas.{net_left}

-- after a write at a stamp that no death is hidden at
pub written_view : (from s : ℕ) → from ≤ s → (net : List Change) (old new : List Placed) (next : ℕ) → AreWritten (after_net s net (versions_by_place old)) next new
    → left_from from (versions_by_place new) ≡ after_net s net (left_from from (versions_by_place old))
written_view from s low net old new next written = ap (left_from from) written.versions_are ∙ net_left from s low net (versions_by_place old)

-- each can be held
pub view_each : (from : ℕ) (placed : List Placed) → AllByRecursion (λ x. IsStorable x.version) placed → AllByRecursion IsStorable (left_from from (versions_by_place placed))
view_each from placed each =
    all-filter IsStorable (is_left from) (versions_by_place placed)
    (all-map IsStorable version_of (by_place placed) (all-permutation (λ x. IsStorable x.version) placed (by_place placed) (by_place_permutes placed) each))
