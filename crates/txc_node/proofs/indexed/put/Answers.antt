use Rattle.std.proofs.Common.{◌≤◌, List, length, sym, subst, ◌∙◌, arith}
use Rattle.std.proofs.lemmas.List.{take_all}
use Rattle.std.proofs.lemmas.Option.{slice_get_past}
use Rattle.txc_node.specs.declared.entry.Entry.{Entry}
use Rattle.txc_node.specs.IndexedEntries.{HeldEntries, IndexesTags, entry_of, with_first}
use Rattle.txc_node.proofs.Apart.{first_apart}
use Rattle.txc_node.proofs.Listed.{evicted_listed, first_listed, listed_more, no_more}
use Rattle.txc_node.proofs.indexed.put.Goals as goal

pub returns-in_default-clause-indexed : goal.returns-in_default-clause-indexed
returns-in_default-clause-indexed c =
    let a = c.args in
    c.unlist_left.ensures (listed_more a.index.now.tables.items c.list_still.new.index.tables.items a.entries.now.entries c.list_still.ensures.kept c.requires.indexed)

pub returns-in-Ok-add-clause-indexed : goal.returns-in-Ok-add-clause-indexed
returns-in-Ok-add-clause-indexed c =
    let a = c.args in
    let tables = a.index.now.tables.items in
    let mid = c.list_still.new.index.tables.items in
    let e = entry_of (a.place, a.stored) in
    let es = a.entries.now.entries in
    let all = first_listed tables mid e a.place es c.requires.placed c.list_still.ensures.kept c.in-Ok.ensures.listed c.requires.indexed in
    let new = c.unlist_evicted.new.index.tables.items in
    let stay = evicted_listed mid new a.entries.now.capacity (with_first e es) c.in-Ok-add.evicted c.in-Ok-add.ensures.evicted (first_apart e es c.len-len.ensures.apart.apart) c.unlist_evicted.ensures all in
    subst (λ (xs : List Entry). IndexesTags new xs) (sym c.in-Ok-add.ensures.entries) stay

pub returns-in-Err-clause-indexed : goal.returns-in-Err-clause-indexed
returns-in-Err-clause-indexed c =
    let a = c.args in
    let mid = c.list_still.new.index.tables.items in
    c.unlist_left-in-Err.ensures (subst (λ (h : HeldEntries). IndexesTags mid h.entries) (sym c.in-Err.ensures.unchanged) (listed_more a.index.now.tables.items mid a.entries.now.entries c.list_still.ensures.kept c.requires.indexed))

pub returns-in-Some-clause-indexed : goal.returns-in-Some-clause-indexed
returns-in-Some-clause-indexed c =
    let a = c.args in
    let mid = c.list_still.new.index.tables.items in
    let all = first_listed a.index.now.tables.items mid (entry_of (a.place, a.stored)) a.place a.entries.now.entries c.requires.placed c.list_still.ensures.kept c.in-Ok.ensures.listed c.requires.indexed in
    c.unlist_replaced.ensures (subst (λ (xs : List Entry). IndexesTags mid xs) (sym c.replace-before.ensures.entries) all)

pub returns-in-Some-clause-entries : goal.returns-in-Some-clause-entries
returns-in-Some-clause-entries c =
    let a = c.args in
    let e = entry_of (a.place, a.stored) in
    let es = a.entries.now.entries in
    let h = rw c.in-Some.is at c.requires.found in
    let few = no_more e h.0 es h.1 in
    let within : length (with_first e es) ≤ a.entries.now.capacity = omega (arith, few, c.len-len.ensures.apart.within) in
    c.replace-before.ensures.entries ∙ sym (take_all a.entries.now.capacity (with_first e es) within)

pub returns-in-Some-clause-evicted : goal.returns-in-Some-clause-evicted
returns-in-Some-clause-evicted c =
    let a = c.args in
    let e = entry_of (a.place, a.stored) in
    let es = a.entries.now.entries in
    let h = rw c.in-Some.is at c.requires.found in
    let few = no_more e h.0 es h.1 in
    sym (slice_get_past (with_first e es) a.entries.now.capacity (omega (arith, few, c.len-len.ensures.apart.within)))
