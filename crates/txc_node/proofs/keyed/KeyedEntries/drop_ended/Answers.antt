use Rattle.std.proofs.Common.{sym, subst}
use Rattle.txc_node.specs.IndexedEntries.{HeldEntries, IndexesTags, entries_of}
use Rattle.txc_node.proofs.Sweepings.{all_left, listed_have, swept_tied}
use Rattle.txc_node.proofs.keyed.KeyedEntries.drop_ended.Goals as goal

pub at_all-requires-clause-stored : goal.at_all-requires-clause-stored
at_all-requires-clause-stored c =
    let tied = c.self.invariant in
    record {
      placed = tied.placed;
      apart = tied.apart;
      listed = subst (λ (m : HeldEntries). IndexesTags c.args.index.now.tables.items m.entries) (sym c.self.view_is) c.requires;
    }

pub at_all-requires-clause-reaches : goal.at_all-requires-clause-reaches
at_all-requires-clause-reaches c =
    let s = c.args.sweep.now in
    let i = c.self.inside in
    listed_have s.processed s.horizon i.keys.versions.entries (entries_of i.cache.entries) c.self.invariant.apart c.self.invariant.keys

pub invariant_of-self : goal.invariant_of-self
invariant_of-self c =
    let s = c.args.sweep.now in
    let i = c.self.inside in
    let index = i.keys.versions.entries in
    let step = c.at_all.ensures in
    let qs = c.at_all.new.cache.entries in
    let left = all_left s.processed s.horizon index (entries_of i.cache.entries) (entries_of qs) c.self.invariant.keys step.stored.apart step.sheds step.gone in
    swept_tied s.processed s.horizon c.at_all.new.index.tables.items i.cache.entries qs index c.keep_lasting.new.self.versions.entries c.self.invariant step.stored left c.keep_lasting.ensures

pub returns-clause-entries : goal.returns-clause-entries
returns-clause-entries c =
    let s = c.args.sweep.now in
    let i = c.self.inside in
    let step = c.at_all.ensures in
    rw (← c.self.view_is) (all_left s.processed s.horizon i.keys.versions.entries (entries_of i.cache.entries) (entries_of c.at_all.new.cache.entries) c.self.invariant.keys step.stored.apart step.sheds step.gone)
