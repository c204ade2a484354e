use Rattle.txc_db_carry.proofs.Refusing.{then_ok}
use Rattle.txc_db_carry.proofs.Steps.{table_carried}
use Rattle.txc_db_carry.proofs.carrying.carry_table.Goals as goal

pub returns-clause-carried : goal.returns-clause-carried
returns-clause-carried c =
    then_ok c.carry_range.result c.carry_range.ensures.carried
    (table_carried c.args.old.now c.carry_range.new.new c.args.new.now.events c.args.table (c.is_sound.ensures c.requires.whole))
