use Rattle.std.proofs.Common.{◌≡◌, Some, List, sym, subst}
use Rattle.std.specs.Prelude.{slice_get}
use Rattle.txc_node.specs.declared.entry.Entry.{Entry}
use Rattle.txc_node.specs.IndexedEntries.{HeldEntries, IndexesTags, entries_under, reaches_under}
use Rattle.txc_node.proofs.Fronts.{reach_of}
use Rattle.txc_node.proofs.Listed.{brought_listed}
use Rattle.txc_node.proofs.indexed.IndexedEntries.bring_first.Goals as goal

pub invariant_of-self : goal.invariant_of-self
invariant_of-self c =
    let a = c.args in
    let i = c.self.inside in
    let es = i.entries.entries in
    let tables = i.tags.tables.items in
    let is : slice_get (reaches_under a.key.now es) a.found.at ≡ Some a.found.reach = subst (λ (m : HeldEntries). slice_get (reaches_under a.key.now m.entries) a.found.at ≡ Some a.found.reach) (sym c.self.view_is) c.requires in
    let e = reach_of (entries_under a.key.now es) a.found.at a.found.reach is in
    subst (λ (xs : List Entry). IndexesTags tables xs) (sym (c.bring_first.ensures.entries e.0 e.1)) (brought_listed tables a.key.now es a.found.at e.0 e.1 c.self.invariant)
