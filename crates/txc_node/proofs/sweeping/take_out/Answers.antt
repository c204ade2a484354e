use Rattle.std.proofs.Common.{ap, sym, subst, ◌∙◌}
use Rattle.lru.specs.LruCache.{LruCache}
use Rattle.txc_node.specs.declared.place.Place.{Place}
use Rattle.txc_node.specs.declared.stored.Stored.{Stored}
use Rattle.txc_node.specs.IndexedEntries.{entries_of}
use Rattle.txc_node.specs.Sweep.{AreStored}
use Rattle.txc_node.proofs.Sweepings.{removed_elsewhere, taken_stored}
use Rattle.txc_node.proofs.sweeping.take_out.Goals as goal

pub returns-in-Some-clause-stored : goal.returns-in-Some-clause-stored
returns-in-Some-clause-stored c =
    let a = c.args in
    let new = c.unlist.new.self.tables.items in
    subst (λ (m : LruCache Place Stored). AreStored new m.entries) (sym c.pop.ensures.entries) (taken_stored a.index.now.tables.items new a.cache.now.entries a.place.now c.requires.stored c.unlist.ensures)

pub returns-in-Some-clause-left : goal.returns-in-Some-clause-left
returns-in-Some-clause-left c =
    let a = c.args in
    ap (λ (m : LruCache Place Stored). entries_of m.entries) c.pop.ensures.entries ∙ removed_elsewhere a.cache.now.entries a.place.now c.requires.stored.placed c.requires.stored.apart

pub returns-in_default-clause-stored : goal.returns-in_default-clause-stored
returns-in_default-clause-stored c =
    let a = c.args in
    let tables = a.index.now.tables.items in
    subst (λ (m : LruCache Place Stored). AreStored tables m.entries) (sym c.pop.ensures.entries) (taken_stored tables tables a.cache.now.entries a.place.now c.requires.stored (λ t q away h. h))

pub returns-in_default-clause-left : goal.returns-in_default-clause-left
returns-in_default-clause-left c =
    let a = c.args in
    ap (λ (m : LruCache Place Stored). entries_of m.entries) c.pop.ensures.entries ∙ removed_elsewhere a.cache.now.entries a.place.now c.requires.stored.placed c.requires.stored.apart
