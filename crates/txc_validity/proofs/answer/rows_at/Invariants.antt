use Rattle.std.proofs.Common.{◌≡◌, ◌++◌, drop}
use Rattle.txc_rows.specs.Versions.{shown_at}
use Rattle.txc_validity.proofs.answer.rows_at.Given as goal

abbrev pub invariant-loop-version : goal.invariant-loop-version
invariant-loop-version l = l.rows.items ++ shown_at l.query l.stamp (drop l.version-index l.versions) ≡ shown_at l.query l.stamp l.versions
