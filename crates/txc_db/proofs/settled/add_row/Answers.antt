use Rattle.std.proofs.Common.{refl}
use Rattle.txc_db.proofs.settled.add_row.Goals as goal

pub returns : goal.returns
returns c = rw (c.in_ok-add-2.ensures.after, c.in_ok-add.ensures.after, c.group-2.ensures, c.id-2.ensures, c.table-2.ensures, c.group.ensures, c.table.ensures, c.id.ensures) refl
