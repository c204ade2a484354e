use Rattle.txc_script_node.proofs.OneThing.{no_quiet_step, one_step, one_thing}
use Rattle.txc_script_node.proofs.laws.a_line_is_one_thing.Goals as goal

pub returns : goal.returns
returns g c = record { no_quiet_step = no_quiet_step; one_step = one_step; one_thing = one_thing g.row.F.Denot }
