use Rattle.std.proofs.Common.{◌≡◌, [], rules}
use Rattle.txc_rows.proofs.UsesLemmas.{nothing_kept}
use Rattle.txc_rows.proofs.version_rows.VersionRows.hold.Goals as goal

pub returns-clause-keeps : goal.returns-clause-keeps
returns-clause-keeps c =
    let value : c.of.result.value ≡ [] = search rules in
    rw value nothing_kept
