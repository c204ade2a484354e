use Rattle.std.proofs.Common.{◌≡◌, take, drop, map, ◌++◌}
use Rattle.txc_rows.specs.Versions.{counted_from}
use Rattle.txc_rows.proofs.version_rows.count_each.Given as goal

abbrev pub invariant-loop-version : goal.invariant-loop-version
invariant-loop-version l = l.versions ≡ map (counted_from l.first) (take l.version-index l.fn.versions) ++ drop l.version-index l.fn.versions
