use Rattle.std.proofs.Common.{map, ap, ◌∙◌}
use Rattle.std.specs.List.{count_by}
use Rattle.txc_node.specs.Cache.{entry_after, is_invalidated}
use Rattle.txc_node.specs.IndexedEntries.{HeldEntries}
use Rattle.txc_node.proofs.Invalidated.{none_left, all_closed, indexed_after}
use Rattle.txc_node.proofs.indexed.IndexedEntries.invalidate.Goals as goal

pub invariant_of-self : goal.invariant_of-self
invariant_of-self c =
    let a = c.args in
    let i = c.self.inside in
    let all = c.close-count in
    let apart = c.len-len.ensures.apart.apart in
    let spared = none_left a.stamp a.tags.now i.tags.tables.items i.entries all.new.entries all.result c.self.invariant all.ensures.spared all.ensures.closes in
    let both = all_closed a.stamp a.tags.now i.entries all.new.entries all.result apart all.ensures.closes spared in
    indexed_after a.stamp a.tags.now i.entries.entries all.new.entries.entries i.tags.tables.items all.new.self.tables.items apart both.0 c.self.invariant all.ensures.kept

pub returns-clause-entries : goal.returns-clause-entries
returns-clause-entries c =
    let a = c.args in
    let i = c.self.inside in
    let all = c.close-count in
    let spared = none_left a.stamp a.tags.now i.tags.tables.items i.entries all.new.entries all.result c.self.invariant all.ensures.spared all.ensures.closes in
    let both = all_closed a.stamp a.tags.now i.entries all.new.entries all.result c.len-len.ensures.apart.apart all.ensures.closes spared in
    both.0 ∙ ap (λ (m : HeldEntries). map (entry_after a.stamp a.tags.now) m.entries) c.self.view_is

pub returns-clause-count : goal.returns-clause-count
returns-clause-count c =
    let a = c.args in
    let i = c.self.inside in
    let all = c.close-count in
    let spared = none_left a.stamp a.tags.now i.tags.tables.items i.entries all.new.entries all.result c.self.invariant all.ensures.spared all.ensures.closes in
    let both = all_closed a.stamp a.tags.now i.entries all.new.entries all.result c.len-len.ensures.apart.apart all.ensures.closes spared in
    both.1 ∙ ap (λ (m : HeldEntries). count_by (is_invalidated a.stamp a.tags.now) m.entries) c.self.view_is
