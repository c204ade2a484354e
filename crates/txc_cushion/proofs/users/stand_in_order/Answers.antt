use Rattle.std.proofs.Common.{◌∙◌, List, ap, sym, arith, drop}
use Rattle.std.proofs.lemmas.List.{drop_all}
use Rattle.txc_cushion.specs.Entries.{stand_in_order}
use Rattle.txc_cushion.specs.declared.entry.PinEntry.{PinEntry}
use Rattle.txc_cushion.proofs.InOrder.{found_all}
use Rattle.txc_cushion.proofs.users.stand_in_order.Goals as goal

pub returns : goal.returns
returns c =
    let l = c.loop-entry in
    let none = drop_all l.entry-index c.args.entries.now (omega (arith, c.loop-entry-test.false)) in
    sym (l.invariant.0 ∙ (ap (λ (es : List PinEntry). stand_in_order es (drop l.found c.args.stamps.now)) none ∙ found_all c.args.stamps.now l.found l.invariant.1))
