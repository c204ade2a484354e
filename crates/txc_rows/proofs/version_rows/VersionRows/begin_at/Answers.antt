use Rattle.std.proofs.Common.{◌∙◌, ap, map, sym, subst}
use Rattle.txc_rows.specs.Versions.{counted_from}
use Rattle.txc_rows.specs.KeptStates.{KeepsBegun}
use Rattle.txc_rows.proofs.CountedLemmas.{keeps_begun, begun_counted}
use Rattle.txc_rows.proofs.version_rows.VersionRows.begin_at.Goals as goal

pub returns-clause-after : goal.returns-clause-after
returns-clause-after c =
    rw c.number-self-inside.ensures.answer (ap (map (counted_from c.in_ok-stored.stored)) c.put.ensures.1 ∙ begun_counted c.self.inside.first c.deref_mut.result.now c.args.self.now (ap (map (counted_from c.self.inside.first)) (c.deref_mut.ensures.value ∙ c.take-store.ensures.store) ∙ c.self.view_is) c.args.stamp c.in_ok-stored.stored c.in_ok-stored.ensures c.begin_store_at-begun.new.store c.in_ok-begun.ensures.after)

pub returns-clause-keeps : goal.returns-clause-keeps
returns-clause-keeps c =
    let after = ap (map (counted_from c.in_ok-stored.stored)) c.put.ensures.1 ∙ begun_counted c.self.inside.first c.deref_mut.result.now c.args.self.now (ap (map (counted_from c.self.inside.first)) (c.deref_mut.ensures.value ∙ c.take-store.ensures.store) ∙ c.self.view_is) c.args.stamp c.in_ok-stored.stored c.in_ok-stored.ensures c.begin_store_at-begun.new.store c.in_ok-begun.ensures.after in
    rw c.number-self-inside.ensures.answer (subst (KeepsBegun c.args.stamp c.args.self.now) (sym after) (keeps_begun c.args.stamp c.args.self.now))
