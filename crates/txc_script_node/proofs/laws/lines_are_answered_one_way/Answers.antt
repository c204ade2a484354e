use Rattle.txc_script_node.proofs.OneWay.{answered_one_way}
use Rattle.txc_script_node.proofs.laws.lines_are_answered_one_way.Goals as goal

pub returns : goal.returns
returns g c = answered_one_way g.row.F.Denot
