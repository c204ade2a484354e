use Rattle.std.proofs.Common.{sym, ap, subst, ◌∙◌}
use Rattle.std.specs.List.{find}
use Rattle.std.specs.Option.{option_map}
use Rattle.txc_node.specs.declared.entry.Entry.{Entry}
use Rattle.txc_node.specs.declared.place.Place.{Place}
use Rattle.txc_node.specs.Places.{place_of, place_at, equal_places}
use Rattle.txc_node.specs.IndexedEntries.{IsSearchOf, stored_of, shown_as}
use Rattle.txc_node.specs.Cache.{Cache, lookup_answer, shown_of}
use Rattle.txc_node.proofs.Fronts.{found_again}
use Rattle.txc_node.proofs.node.NodeCore.hit.Goals as goal

pub returns : goal.returns
returns c =
    let a = c.args in
    let i = c.self.inside in
    let es = i.entries.entries in
    let s = a.search.now in
    let is = subst (λ (m : Cache). IsSearchOf m a.key.now s) (sym c.self.view_is) c.requires in
    let h = rw c.in-Some.is at is.stands in
    c.hit_of.ensures ∙ ap (option_map (shown_as i.processed)) (
    (rw c.keyed.ensures at c.get.ensures)
    ∙ ap (λ (q : Place). option_map stored_of (find (λ (o : Entry). equal_places q (place_of o)) es)) (c.new-place.ensures ∙ ap (place_at a.key.now) c.lo.ensures)
    ∙ ap (option_map stored_of) (found_again a.key.now es c.in-Some.found.at h.0 c.in-Some.found.reach c.self.invariant.apart h.2 h.3)
    ) ∙ sym (ap (option_map (shown_of i.processed)) h.1) ∙ ap (λ (m : Cache). lookup_answer m a.key.now s.lo s.hi) c.self.view_is
