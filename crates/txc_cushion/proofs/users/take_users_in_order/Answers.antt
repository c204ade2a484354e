use Rattle.std.proofs.Common.{◌≡◌, ap, get_or}
use Rattle.txc_cushion.specs.declared.entry.PinEntry.{PinEntry}
use Rattle.txc_cushion.proofs.InOrder.{next_has_user, passed_next}
use Rattle.txc_cushion.proofs.users.take_users_in_order.Goals as goal

pub take_found-found-requires : goal.take_found-found-requires
take_found-found-requires c =
    let l = c.loop-entry in
    let e : PinEntry = get_or l.entries l.entry-index c.entry-item.result in
    let is : e ≡ get_or l.entries l.entry-index e = ap (λ (d : PinEntry). get_or l.entries l.entry-index d) c.entry-item.is in
    next_has_user c.args.entries.now l.entries c.args.stamps.now l.entry-index l.found e c.requires.falls c.loop-entry-test.true l.invariant is

pub loop-entry-preserved : goal.loop-entry-preserved
loop-entry-preserved c =
    let l = c.loop-entry in
    let e : PinEntry = get_or l.entries l.entry-index c.entry-item.result in
    let is : e ≡ get_or l.entries l.entry-index e = ap (λ (d : PinEntry). get_or l.entries l.entry-index d) c.entry-item.is in
    rw (c.take_found-found.ensures.users, c.take_found-found.ensures.found)
    (passed_next c.args.entries.now l.entries c.args.stamps.now l.entry-index l.found e c.requires.falls c.loop-entry-test.true l.invariant is)
