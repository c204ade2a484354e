use Rattle.std.proofs.Common.{◌-◌}
use Rattle.txc_db_carry.proofs.carrying.+carry_range.Given as goal

abbrev pub decreases-carry_range : goal.decreases-carry_range
decreases-carry_range l = l.last - l.first
