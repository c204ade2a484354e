use Rattle.std.proofs.Common.{not, List, length, ap, ◌∙◌, arith}
use Rattle.std.specs.List.{filter}
use Rattle.txc_node.specs.declared.entry.Entry.{Entry}
use Rattle.txc_node.specs.Cache.{has_ended}
use Rattle.txc_node.specs.IndexedEntries.{HeldEntries}
use Rattle.txc_node.proofs.Sweepings.{kept_count}
use Rattle.txc_node.proofs.indexed.IndexedEntries.drop_ended.Goals as goal

pub overflow_sub-result : goal.overflow_sub-result
overflow_sub-result c =
    let a = c.args in
    let ended = has_ended a.processed a.horizon in
    let left = ap (λ (xs : List Entry). length xs) c.drop_ended.ensures.entries ∙ ap (λ (m : HeldEntries). length (filter (λ e. not (ended e)) m.entries)) c.self.view_is in
    omega (arith, left, kept_count ended a.self.now.entries, c.len.ensures, c.len-before.ensures)

pub returns-clause-count : goal.returns-clause-count
returns-clause-count c =
    let a = c.args in
    let ended = has_ended a.processed a.horizon in
    let left = ap (λ (xs : List Entry). length xs) c.drop_ended.ensures.entries ∙ ap (λ (m : HeldEntries). length (filter (λ e. not (ended e)) m.entries)) c.self.view_is in
    omega (arith, left, kept_count ended a.self.now.entries, c.len.ensures, c.len-before.ensures)
