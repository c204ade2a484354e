use Rattle.std.proofs.Common.{◌∙◌, ap, sym, slice_set}
use Rattle.std.proofs.lemmas.List.Edits.{map_over_more}
use Rattle.txc_rows.specs.declared.version.Versioned.{Versioned}
use Rattle.txc_rows.specs.Versions.{counted_from}
use Rattle.txc_rows.proofs.version_rows.count_each.Goals as goal

pub loop-version-preserved : goal.loop-version-preserved
loop-version-preserved c =
    let l = c.loop-version in
    ap (λ (v : Versioned). slice_set l.versions l.version-index v) c.count_from.ensures
    ∙ (ap (λ (v : Versioned). slice_set l.versions l.version-index (counted_from c.args.first v)) (sym c.version-item.is)
    ∙ map_over_more (counted_from c.args.first) c.args.versions.now l.versions l.version-index c.version-item.result c.loop-version-test.true l.invariant c.version-item.is)
