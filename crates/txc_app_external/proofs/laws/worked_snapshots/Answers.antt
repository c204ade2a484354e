use Rattle.txc_app_external.proofs.Worked
use Rattle.txc_app_external.proofs.laws.worked_snapshots.Goals as goal

pub returns : goal.returns
returns c = record { snapshots = Worked.worked_snapshots; calls = Worked.worked_calls; history = Worked.worked_followed }
