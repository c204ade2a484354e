use Rattle.std.proofs.Common.{◌∙◌, ap, map, sym, subst}
use Rattle.std.specs.List.{AllByRecursion}
use Rattle.txc_rows.specs.Versions.{counted_from}
use Rattle.txc_rows.specs.StorableVersions.{IsStorable}
use Rattle.txc_rows.specs.KeptStates.{KeepsWritten}
use Rattle.txc_rows.proofs.KeepingLemmas.{keeps_written}
use Rattle.txc_rows.proofs.CountedLemmas.{each_counted, written_counted}
use Rattle.txc_rows.proofs.version_rows.VersionRows.write.Goals as goal

pub returns-clause-after : goal.returns-clause-after
returns-clause-after c =
    ap (map (counted_from c.self.inside.first)) c.put.ensures.1 ∙ written_counted c.self.inside.first c.deref_mut.result.now c.args.self.now (ap (map (counted_from c.self.inside.first)) (c.deref_mut.ensures.value ∙ c.take-store.ensures.store) ∙ c.self.view_is) c.args.stamp c.in_ok-stored.stored c.in_ok-stored.ensures c.write-written.new.self c.args.net.now c.in_ok-written.ensures.after

pub returns-clause-keeps : goal.returns-clause-keeps
returns-clause-keeps c =
    let first = c.self.inside.first in
    let counted = written_counted first c.deref_mut.result.now c.args.self.now (ap (map (counted_from c.self.inside.first)) (c.deref_mut.ensures.value ∙ c.take-store.ensures.store) ∙ c.self.view_is) c.args.stamp c.in_ok-stored.stored c.in_ok-stored.ensures c.write-written.new.self c.args.net.now c.in_ok-written.ensures.after in
    subst (KeepsWritten c.args.net.now c.args.stamp c.args.self.now) (sym (ap (map (counted_from first)) c.put.ensures.1 ∙ counted))
    (keeps_written c.args.net.now c.args.stamp c.args.self.now (subst (AllByRecursion IsStorable) counted (each_counted first c.write-written.new.self c.in_ok-written.ensures.each)))
