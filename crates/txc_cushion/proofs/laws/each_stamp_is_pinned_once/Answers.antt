use Rattle.txc_cushion.proofs.Counts.{each_once}
use Rattle.txc_cushion.proofs.laws.each_stamp_is_pinned_once.Goals as goal

pub returns : goal.returns
returns c = each_once
