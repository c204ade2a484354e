use Rattle.std.proofs.Common.{◌≡◌, ◌∙◌, ap, length, filter, nat_lt}
use Rattle.std.specs.List.{insert}
use Rattle.txc_cushion.specs.declared.entry.PinEntry.{PinEntry}
use Rattle.txc_cushion.proofs.Adding.{insert_is}
use Rattle.txc_cushion.proofs.places.put.Goals as goal

pub returns-clause-after : goal.returns-clause-after
returns-clause-after c =
    let was = c.args.entries.now.items in
    let new : PinEntry = record { pin = c.args.pin; users = 1 } in
    let place : c.count_newer-place.result ≡ length (filter (λ (e : PinEntry). nat_lt c.args.pin.stamp e.pin.stamp) was) = rw (← c.deref.ensures.value) c.count_newer-place.ensures.count in
    c.in-Ok.ensures.items ∙ (ap (λ n. insert was n new) place ∙ insert_is new was c.requires.falls c.requires.absent)
