use Rattle.std.proofs.Common.{◌≡◌, ◌∷◌, List, Some, ap, sym, subst, ◌∙◌}
use Rattle.std.specs.Prelude.{slice_get}
use Rattle.lru.specs.LruCache.{LruCache, promoted}
use Rattle.txc_stamp.specs.Interval.{Interval}
use Rattle.txc_node.specs.declared.entry.Entry.{Entry}
use Rattle.txc_node.specs.declared.place.Place.{Place}
use Rattle.txc_node.specs.declared.stored.Stored.{Stored}
use Rattle.txc_node.specs.Places.{place_at, equal_places}
use Rattle.txc_node.specs.Entries.{others}
use Rattle.txc_node.specs.IndexedEntries.{HeldEntries, entries_of, entries_under, reaches_under}
use Rattle.txc_node.proofs.Fronts.{brought_entries, brought_tied}
use Rattle.txc_node.proofs.keyed.KeyedEntries.bring_first.Goals as goal

pub bring_found-requires : goal.bring_found-requires
bring_found-requires c =
    let a = c.args in
    ap (λ (rs : List Interval). slice_get rs a.found.at) (c.self.invariant.keys a.key.now)
    ∙ subst (λ (m : HeldEntries). slice_get (reaches_under a.key.now m.entries) a.found.at ≡ Some a.found.reach) (sym c.self.view_is) c.requires

pub invariant_of-self : goal.invariant_of-self
invariant_of-self c =
    let a = c.args in
    let i = c.self.inside in
    let is = subst (λ (m : HeldEntries). slice_get (reaches_under a.key.now m.entries) a.found.at ≡ Some a.found.reach) (sym c.self.view_is) c.requires in
    let moved : c.promote.new.self.entries ≡ promoted (equal_places (place_at a.key.now a.found.reach.lo)) i.cache.entries =
    ap (λ (m : LruCache Place Stored). m.entries) c.promote.ensures.entries ∙ ap (λ (q : Place). promoted (equal_places q) i.cache.entries) (c.new-place.ensures ∙ ap (place_at a.key.now) c.lo.ensures) in
    rw moved (brought_tied i.cache.entries i.keys.versions.entries c.bring_found.new.keys.versions.entries a.key.now a.found.at a.found.reach c.self.invariant is c.bring_found.ensures)

pub returns-clause-entries : goal.returns-clause-entries
returns-clause-entries c =
    let a = c.args in
    let i = c.self.inside in
    let moved : c.promote.new.self.entries ≡ promoted (equal_places (place_at a.key.now a.found.reach.lo)) i.cache.entries =
    ap (λ (m : LruCache Place Stored). m.entries) c.promote.ensures.entries ∙ ap (λ (q : Place). promoted (equal_places q) i.cache.entries) (c.new-place.ensures ∙ ap (place_at a.key.now) c.lo.ensures) in
    rw moved (subst (λ (m : HeldEntries). slice_get (reaches_under a.key.now m.entries) a.found.at ≡ Some a.found.reach → (e : Entry) → slice_get (entries_under a.key.now m.entries) a.found.at ≡ Some e → entries_of (promoted (equal_places (place_at a.key.now a.found.reach.lo)) i.cache.entries) ≡ e ∷ others e m.entries) c.self.view_is (λ is e at. brought_entries i.cache.entries a.key.now a.found.at a.found.reach e c.self.invariant.placed c.self.invariant.apart is at) c.requires)
