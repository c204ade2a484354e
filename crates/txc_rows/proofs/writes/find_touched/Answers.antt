use Rattle.txc_rows.specs.LatestTable.{latest_in}
use Rattle.txc_rows.proofs.ChangeSteps.{known_touched}
use Rattle.txc_rows.proofs.writes.find_touched.Goals as goal

pub returns-in-Some-clause-touched : goal.returns-in-Some-clause-touched
returns-in-Some-clause-touched c =
    let row = c.args.row.now in
    let is = c.in-Some.ensures in
    rw c.in-Ok.ensures (known_touched row.table row.id row.group c.in-Some.one.now is.1 is.2 (latest_in c.args.tx.now.conn.now) c.args.known.now c.requires.known is.0 c.requires.keys c.requires.current)
