use Rattle.std.proofs.Common.{ap, ◌∙◌}
use Rattle.std.specs.Option.{option_map}
use Rattle.std.specs.List.{find}
use Rattle.txc_node.specs.declared.entry.Entry.{Entry}
use Rattle.txc_node.specs.Places.{place_of, equal_places}
use Rattle.txc_node.specs.IndexedEntries.{HeldEntries, stored_of}
use Rattle.txc_node.proofs.Pairs.{stored_at}
use Rattle.txc_node.proofs.keyed.KeyedEntries.get.Goals as goal

pub returns : goal.returns
returns c =
    c.peek.ensures ∙ stored_at c.args.place.now c.self.inside.cache.entries c.self.invariant.placed
    ∙ ap (λ (m : HeldEntries). option_map stored_of (find (λ (e : Entry). equal_places c.args.place.now (place_of e)) m.entries)) c.self.view_is
