use Rattle.std.proofs.Common.{◌-◌, List, length, sym, subst}
use Rattle.txc_node.specs.declared.entry.Entry.{Entry}
use Rattle.txc_node.specs.IndexedEntries.{IndexesTags}
use Rattle.txc_node.proofs.Listed.{evicted_listed}
use Rattle.txc_node.proofs.indexed.IndexedEntries.drop_last.Goals as goal

pub invariant_of-self : goal.invariant_of-self
invariant_of-self c =
    let i = c.self.inside in
    let es = i.entries.entries in
    let new = c.unlist_evicted.new.index.tables.items in
    subst (λ (xs : List Entry). IndexesTags new xs) (sym c.drop_last-last.ensures.entries)
    (evicted_listed i.tags.tables.items new (length es - 1) es c.drop_last-last.result c.drop_last-last.ensures.last c.len-len.ensures.apart.apart c.unlist_evicted.ensures c.self.invariant)
