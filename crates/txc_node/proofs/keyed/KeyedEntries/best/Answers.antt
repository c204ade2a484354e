use Rattle.std.proofs.Common.{List, ap, sym, subst, ◌∙◌, Option}
use Rattle.std.specs.List.{find}
use Rattle.txc_node.specs.declared.entry.Entry.{Entry}
use Rattle.txc_node.specs.Entries.{is_best}
use Rattle.txc_node.specs.IndexedEntries.{entries_of, entries_under, IsFound}
use Rattle.txc_node.proofs.KeyLists.{find_under, listed_are, none_under}
use Rattle.txc_node.proofs.keyed.KeyedEntries.best.Goals as goal

pub returns-in-None-clause-found : goal.returns-in-None-clause-found
returns-in-None-clause-found c =
    let a = c.args in
    let es = entries_of c.self.inside.cache.entries in
    let none = none_under c.self.inside.keys.versions.entries a.key.now es c.self.invariant.keys (rw c.in-None.is at c.get.ensures) in
    rw (← c.self.view_is) (sym (find_under a.processed a.key.now a.lo a.hi es) ∙ ap (λ (xs : List Entry). find (is_best a.processed a.key.now a.lo a.hi xs) xs) none)

pub returns-in-Some-clause-found : goal.returns-in-Some-clause-found
returns-in-Some-clause-found c =
    let a = c.args in
    let es = entries_of c.self.inside.cache.entries in
    let are = listed_are c.self.inside.keys.versions.entries a.key.now es c.in-Some.versions.now c.self.invariant.keys (rw c.in-Some.is at c.get.ensures) in
    rw (← c.self.view_is) (subst (λ (o : Option Entry). IsFound (entries_under a.key.now es) o c.best_of.result) (find_under a.processed a.key.now a.lo a.hi es) (c.best_of.ensures a.key.now (entries_under a.key.now es) are))
