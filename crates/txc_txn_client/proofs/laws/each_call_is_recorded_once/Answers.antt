use Rattle.txc_txn_client.proofs.Standing.{each_call_is_recorded_once}
use Rattle.txc_txn_client.proofs.laws.each_call_is_recorded_once.Goals as goal

pub returns : goal.returns
returns c = each_call_is_recorded_once
