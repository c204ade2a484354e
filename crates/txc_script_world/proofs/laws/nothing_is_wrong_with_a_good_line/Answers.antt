use Rattle.txc_script_world.proofs.NothingWrong.{nothing_wrong}
use Rattle.txc_script_world.proofs.laws.nothing_is_wrong_with_a_good_line.Goals as goal

pub returns : goal.returns
returns c = nothing_wrong
