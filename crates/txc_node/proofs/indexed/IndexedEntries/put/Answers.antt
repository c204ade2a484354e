use Rattle.std.proofs.Common.{List, ◌∷◌, ap, ◌∙◌}
use Rattle.std.specs.Prelude.{slice_get}
use Rattle.txc_node.specs.declared.entry.Entry.{Entry}
use Rattle.txc_node.specs.Entries.{others}
use Rattle.txc_node.specs.IndexedEntries.{HeldEntries, entry_of}
use Rattle.txc_node.proofs.Puts.{first_is}
use Rattle.txc_node.proofs.indexed.IndexedEntries.put.Goals as goal
use Rattle.txc_node.proofs.indexed.IndexedEntries.put.Goals.{in-Ok, in-Err}

pub returns-clause-evicted : goal.returns-clause-evicted
returns-clause-evicted c =
    let a = c.args in
    let i = c.self.inside in
    let g : Entry = record a.entry { reach = a.reach } in
    let f = entry_of (c.split-place.result.0, c.split-place.result.1) in
    elim c.match-put.branch [
      | in-Ok w ↦ rw w.result-is (
          w.in-Ok.ensures.evicted
          ∙ ap (λ (xs : List Entry). slice_get xs i.entries.capacity) (first_is a.entry f a.reach c.requires.lo c.split-place.ensures.entry i.entries.entries)
          ∙ ap (λ (m : HeldEntries). slice_get (g ∷ others a.entry m.entries) m.capacity) c.self.view_is
          )
      | in-Err w ↦ rw w.result-is tt
    ]
