use Rattle.std.proofs.Common.{◌-◌, Some, None, length, take, sym, ap, subst, ◌∙◌}
use Rattle.std.specs.Prelude.{slice_get}
use Rattle.lru.specs.LruCache.{LruCache}
use Rattle.txc_node.specs.declared.entry.Entry.{Entry}
use Rattle.txc_node.specs.declared.place.Place.{Place}
use Rattle.txc_node.specs.declared.stored.Stored.{Stored}
use Rattle.txc_node.specs.IndexedEntries.{AreTied, HeldEntries, entries_of}
use Rattle.txc_node.proofs.Puts.{last_entry_is, last_left, last_tied, none_tied}
use Rattle.txc_node.proofs.keyed.KeyedEntries.drop_last.Goals as goal

pub invariant_of-self : goal.invariant_of-self
invariant_of-self c =
    let i = c.self.inside in
    subst (λ (m : LruCache Place Stored). AreTied m.entries i.keys.versions.entries) (sym c.pop_last.ensures.entries)
    (none_tied i.cache.entries i.keys.versions.entries (sym c.pop_last.ensures.value ∙ c.in-None.is) c.self.invariant)

pub invariant_of-self-in-Some : goal.invariant_of-self-in-Some
invariant_of-self-in-Some c =
    let i = c.self.inside in
    let x : Place × Stored = (c.in-Some.place, c.in-Some.stored) in
    let new = c.drop_last.new.self.versions.entries in
    subst (λ (m : LruCache Place Stored). AreTied m.entries new) (sym c.pop_last.ensures.entries)
    (last_tied i.cache.entries x i.keys.versions.entries new (sym c.pop_last.ensures.value ∙ c.in-Some.is) c.self.invariant c.drop_last.ensures)

pub returns-in-None-clause-last : goal.returns-in-None-clause-last
returns-in-None-clause-last c =
    last_entry_is c.self.inside.cache.entries None (sym c.in-None.is ∙ c.pop_last.ensures.value)
    ∙ ap (λ (m : HeldEntries). slice_get m.entries (length m.entries - 1)) c.self.view_is

pub returns-in-None-clause-entries : goal.returns-in-None-clause-entries
returns-in-None-clause-entries c =
    ap (λ (m : LruCache Place Stored). entries_of m.entries) c.pop_last.ensures.entries ∙ last_left c.self.inside.cache.entries
    ∙ ap (λ (m : HeldEntries). take (length m.entries - 1) m.entries) c.self.view_is

pub returns-in-Some-clause-last : goal.returns-in-Some-clause-last
returns-in-Some-clause-last c =
    ap (λ (e : Entry). Some e) c.join.ensures ∙ last_entry_is c.self.inside.cache.entries (Some (c.in-Some.place, c.in-Some.stored)) (sym c.in-Some.is ∙ c.pop_last.ensures.value)
    ∙ ap (λ (m : HeldEntries). slice_get m.entries (length m.entries - 1)) c.self.view_is

pub returns-in-Some-clause-entries : goal.returns-in-Some-clause-entries
returns-in-Some-clause-entries c =
    ap (λ (m : LruCache Place Stored). entries_of m.entries) c.pop_last.ensures.entries ∙ last_left c.self.inside.cache.entries
    ∙ ap (λ (m : HeldEntries). take (length m.entries - 1) m.entries) c.self.view_is
