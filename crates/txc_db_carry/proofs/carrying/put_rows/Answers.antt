use Rattle.txc_db_carry.proofs.Refusing.{nothing_read}
use Rattle.txc_db_carry.proofs.carrying.put_rows.Goals as goal

pub returns-in-Err-clause-refused : goal.returns-in-Err-clause-refused
returns-in-Err-clause-refused c = nothing_read c.args.new.now c.requires.whole c.requires.tags
