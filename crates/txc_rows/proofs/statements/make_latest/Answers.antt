use Rattle.std.proofs.Common.{[]}
use Rattle.sqlite.proofs.Callers.{memory_is_clean}
use Rattle.txc_rows.specs.declared.texts.TheConstants.{MAKE_LATEST}
use Rattle.txc_rows.specs.LatestTable.{HasLatest}
use Rattle.txc_rows.proofs.MakeLemmas.{makes_latest}
use Rattle.txc_rows.proofs.HeldLemmas.{steps}
use Rattle.txc_rows.proofs.statements.make_latest.Goals as goal

pub returns-clause-step : goal.returns-clause-step
returns-clause-step c =
    let old = c.args.tx.now.conn.now in
    let new = c.execute.new.self.conn.now in
    steps MAKE_LATEST.now [] (HasLatest []) old new c.execute.result (c.execute.ensures.runs (memory_is_clean new) c.requires.inside) (makes_latest old new c.requires.table)
