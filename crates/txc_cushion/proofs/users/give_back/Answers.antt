use Rattle.std.proofs.Common.{◌∙◌, sym}
use Rattle.txc_cushion.proofs.InOrder.{have_in_order}
use Rattle.txc_cushion.proofs.UserCounts.{each_has_users}
use Rattle.txc_cushion.proofs.users.give_back.Goals as goal

pub returns-then-stand_in_order-clause-only_if : goal.returns-then-stand_in_order-clause-only_if
returns-then-stand_in_order-clause-only_if c = have_in_order c.args.entries.now.items c.args.stamps.now c.requires (rw (← c.deref.ensures.value) (sym c.stand_in_order.ensures ∙ c.if-stand_in_order.true))

pub take_users_each-requires : goal.take_users_each-requires
take_users_each-requires c = rw c.deref_mut-2.ensures.value (each_has_users c.args.entries.now.items c.args.stamps.now c.requires (rw c.deref-2.ensures.value at c.in_ok-check_users.ensures.only_if))
