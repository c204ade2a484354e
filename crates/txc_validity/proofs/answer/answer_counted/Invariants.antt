use Rattle.std.proofs.Common.{◌≡◌, ◌⊎◌, ◌+◌, ◌≤◌, ◌++◌, take, drop}
use Rattle.txc_rows.specs.Versions.{shown_at}
use Rattle.txc_validity.proofs.Edges.{IsEdge}
use Rattle.txc_validity.proofs.Passes.{AreSteady}
use Rattle.txc_validity.proofs.answer.answer_counted.Given as goal

abbrev pub invariant-loop-version : goal.invariant-loop-version
invariant-loop-version l = record {
  tests : l.tests ≡ l.version-index;
  rows : l.rows.items ++ shown_at l.query l.stamp (drop l.version-index l.versions) ≡ shown_at l.query l.stamp l.versions;
  low : (l.fn.horizon ≤ l.stretch.first) × (l.stretch.first ≤ l.stamp);
  high : (l.stamp ≤ l.stretch.last) × (l.stretch.last ≤ l.newest);
  steady : AreSteady l.query l.stamp l.stretch.first l.stretch.last (take l.version-index l.versions);
  first : (l.stretch.first ≡ l.fn.horizon) ⊎ IsEdge l.query l.versions l.stretch.first;
  last : (l.stretch.last ≡ l.newest) ⊎ IsEdge l.query l.versions (l.stretch.last + 1);
}
