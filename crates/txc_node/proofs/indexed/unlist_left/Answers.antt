use Rattle.std.proofs.Common.{◌≡◌, true, List, subst}
use Rattle.txc_tags.specs.declared.tag.Tag.{Tag}
use Rattle.txc_tags.specs.Tags.{has_tag}
use Rattle.txc_node.specs.IndexedEntries.{KeepsListed}
use Rattle.txc_node.proofs.Listed.{left_off, nothing_there, stored_there}
use Rattle.txc_node.proofs.indexed.unlist_left.Goals as goal

pub returns-in-None : goal.returns-in-None
returns-in-None c = λ h.
    let a = c.args in
    left_off a.index.now.tables.items c.unlist.new.self.tables.items a.entries.now.entries a.place.now c.len-len.ensures.apart.apart c.unlist.ensures
    (λ e at. nothing_there a.entries.now.entries a.place.now e (rw c.in-None.is at c.get.ensures) at) h

pub returns-in-Some : goal.returns-in-Some
returns-in-Some c = λ h.
    let a = c.args in
    let tables = a.index.now.tables.items in
    let new = c.unlist_others.new.self.tables.items in
    left_off tables new a.entries.now.entries a.place.now c.len-len.ensures.apart.apart c.unlist_others.ensures.places
    (λ e at. subst (λ (ts : List Tag). KeepsListed (λ t q. has_tag ts t ≡ true) tables new) (stored_there a.entries.now.entries a.place.now e c.in-Some.stored.now (rw c.in-Some.is at c.get.ensures) at) c.unlist_others.ensures.tags) h
