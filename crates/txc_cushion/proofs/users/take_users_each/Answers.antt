use Rattle.std.proofs.Common.{◌∙◌, ap, sym, slice_set}
use Rattle.std.proofs.lemmas.List.Edits.{map_over_more}
use Rattle.txc_cushion.specs.declared.entry.PinEntry.{PinEntry}
use Rattle.txc_cushion.specs.Entries.{without_users}
use Rattle.txc_cushion.proofs.users.take_users_each.Goals as goal

pub loop-entry-preserved : goal.loop-entry-preserved
loop-entry-preserved c =
    let l = c.loop-entry in
    ap (λ (e : PinEntry). slice_set l.entries l.entry-index e) c.take_users_of.ensures
    ∙ (ap (λ (e : PinEntry). slice_set l.entries l.entry-index (without_users c.args.stamps.now e)) (sym c.entry-item.is)
    ∙ map_over_more (without_users c.args.stamps.now) c.args.entries.now l.entries l.entry-index c.entry-item.result c.loop-entry-test.true l.invariant c.entry-item.is)
