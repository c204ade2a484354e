use Rattle.std.proofs.Common.{List, ap, sym, subst, ◌∙◌, Option}
use Rattle.std.specs.List.{find}
use Rattle.txc_node.specs.declared.entry.Entry.{Entry}
use Rattle.txc_node.specs.Entries.{same_place}
use Rattle.txc_node.specs.IndexedEntries.{entries_of, entries_under, IsFound}
use Rattle.txc_node.proofs.KeyLists.{find_place_under, listed_are, none_under}
use Rattle.txc_node.proofs.keyed.KeyedEntries.standing.Goals as goal

pub returns-in-None : goal.returns-in-None
returns-in-None c =
    let e = c.args.e.now in
    let es = entries_of c.self.inside.cache.entries in
    let none = none_under c.self.inside.keys.versions.entries e.key es c.self.invariant.keys (rw c.in-None.is at c.get.ensures) in
    rw (← c.self.view_is) (sym (find_place_under e es) ∙ ap (λ (xs : List Entry). find (λ o. same_place o e) xs) none)

pub returns-in-Some : goal.returns-in-Some
returns-in-Some c =
    let e = c.args.e.now in
    let es = entries_of c.self.inside.cache.entries in
    let are = listed_are c.self.inside.keys.versions.entries e.key es c.in-Some.versions.now c.self.invariant.keys (rw c.in-Some.is at c.get.ensures) in
    rw (← c.self.view_is) (subst (λ (o : Option Entry). IsFound (entries_under e.key es) o c.begins_at.result) (find_place_under e es) (c.begins_at.ensures e (entries_under e.key es) are c.lo.ensures))
