use Rattle.std.proofs.Common.{◌∙◌, ap, map, sym, subst}
use Rattle.txc_rows.specs.Versions.{counted_from}
use Rattle.txc_rows.specs.KeptStates.{KeepsPurged}
use Rattle.txc_rows.proofs.KeepingLemmas.{keeps_purged}
use Rattle.txc_rows.proofs.CountedLemmas.{dropped_counted}
use Rattle.txc_rows.proofs.version_rows.VersionRows.purge.Goals as goal

pub returns-clause-after : goal.returns-clause-after
returns-clause-after c =
    ap (map (counted_from c.self.inside.first)) c.put.ensures.1 ∙ dropped_counted c.self.inside.first c.deref_mut.result.now c.args.self.now (ap (map (counted_from c.self.inside.first)) (c.deref_mut.ensures.value ∙ c.take-store.ensures.store) ∙ c.self.view_is) c.args.horizon c.in_ok-stored.stored c.in_ok-stored.ensures c.purge-purged.new.self c.in_ok-purged.ensures.after

pub returns-clause-keeps : goal.returns-clause-keeps
returns-clause-keeps c =
    let after = ap (map (counted_from c.self.inside.first)) c.put.ensures.1 ∙ dropped_counted c.self.inside.first c.deref_mut.result.now c.args.self.now (ap (map (counted_from c.self.inside.first)) (c.deref_mut.ensures.value ∙ c.take-store.ensures.store) ∙ c.self.view_is) c.args.horizon c.in_ok-stored.stored c.in_ok-stored.ensures c.purge-purged.new.self c.in_ok-purged.ensures.after in
    subst (KeepsPurged c.args.horizon c.args.self.now) (sym after) (keeps_purged c.args.horizon c.args.self.now)
