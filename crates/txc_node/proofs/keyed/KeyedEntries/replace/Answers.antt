use Rattle.std.proofs.Common.{◌≡◌, ◌∷◌, ap, sym, subst, ◌∙◌}
use Rattle.std.specs.Prelude.{is_some}
use Rattle.std.specs.Map.{remove_entry}
use Rattle.std.specs.Option.{option_map}
use Rattle.lru.specs.LruCache.{LruCache}
use Rattle.txc_node.specs.declared.place.Place.{Place}
use Rattle.txc_node.specs.declared.stored.Stored.{Stored}
use Rattle.txc_node.specs.Places.{equal_places}
use Rattle.txc_node.specs.IndexedEntries.{HeldEntries, StandsUnder, entry_of, entries_of}
use Rattle.txc_node.proofs.Puts.{there_before, there_put, within_listed, replaced_entries, replaced_tied}
use Rattle.txc_node.proofs.keyed.KeyedEntries.replace.Goals as goal

pub bring_first-requires : goal.bring_first-requires
bring_first-requires c =
    let a = c.args in
    let i = c.self.inside in
    let there = subst (λ (m : HeldEntries). StandsUnder (entry_of (a.place, a.stored)) m.entries a.at) (sym c.self.view_is) c.requires.there in
    within_listed i.cache.entries i.keys.versions.entries (entry_of (a.place, a.stored)) a.at c.self.invariant.keys there

pub unwrap-requires : goal.unwrap-requires
unwrap-requires c =
    let a = c.args in
    let there = subst (λ (m : HeldEntries). StandsUnder (entry_of (a.place, a.stored)) m.entries a.at) (sym c.self.view_is) c.requires.there in
    c.push.ensures.succeeds (ap is_some (there_put c.self.inside.cache a.place a.stored a.at c.requires.placed there c.self.invariant.placed).3)

pub invariant_of-self : goal.invariant_of-self
invariant_of-self c =
    let a = c.args in
    let i = c.self.inside in
    let there = subst (λ (m : HeldEntries). StandsUnder (entry_of (a.place, a.stored)) m.entries a.at) (sym c.self.view_is) c.requires.there in
    let put = there_put i.cache a.place a.stored a.at c.requires.placed there c.self.invariant.placed in
    let stands : c.push.new.self.entries ≡ (a.place, a.stored) ∷ remove_entry (equal_places a.place) i.cache.entries = ap (λ (m : LruCache Place Stored). m.entries) (rw c.unwrap.ensures at c.push.ensures.entries) ∙ put.1 in
    rw stands (replaced_tied i.cache.entries a.place a.stored a.at i.keys.versions.entries c.bring_first.new.self.versions.entries c.requires.placed there c.self.invariant c.bring_first.ensures)

pub returns-clause-before : goal.returns-clause-before
returns-clause-before c =
    let a = c.args in
    let there = subst (λ (m : HeldEntries). StandsUnder (entry_of (a.place, a.stored)) m.entries a.at) (sym c.self.view_is) c.requires.there in
    rw (← c.self.view_is) (c.join_some.ensures ∙ ap (option_map entry_of) (rw c.unwrap.ensures at c.push.ensures.old) ∙ there_before c.self.inside.cache a.place a.stored a.at c.requires.placed there c.self.invariant.placed)

pub returns-clause-entries : goal.returns-clause-entries
returns-clause-entries c =
    let a = c.args in
    let there = subst (λ (m : HeldEntries). StandsUnder (entry_of (a.place, a.stored)) m.entries a.at) (sym c.self.view_is) c.requires.there in
    rw (← c.self.view_is) (ap (λ (m : LruCache Place Stored). entries_of m.entries) (rw c.unwrap.ensures at c.push.ensures.entries) ∙ replaced_entries c.self.inside.cache a.place a.stored a.at c.requires.placed there c.self.invariant)
