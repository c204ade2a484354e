use Rattle.std.proofs.Common.{[]}
use Rattle.sqlite.proofs.Callers.{memory_is_clean}
use Rattle.txc_rows.specs.declared.texts.TheConstants.{DROP_LATEST}
use Rattle.txc_rows.specs.LatestTable.{HasNoTable}
use Rattle.txc_rows.proofs.MakeLemmas.{drops_latest}
use Rattle.txc_rows.proofs.HeldLemmas.{steps}
use Rattle.txc_rows.proofs.statements.drop_latest.Goals as goal

pub returns-clause-step : goal.returns-clause-step
returns-clause-step c =
    let old = c.args.tx.now.conn.now in
    let new = c.execute.new.self.conn.now in
    steps DROP_LATEST.now [] HasNoTable old new c.execute.result (c.execute.ensures.runs (memory_is_clean new) c.requires.inside) (λ count run. drops_latest old new count c.requires.table run)
