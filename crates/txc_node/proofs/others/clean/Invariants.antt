use Rattle.std.proofs.Common.{◌≡◌, true}
use Rattle.txc_node.specs.declared.place.Place.{Place}
use Rattle.txc_node.specs.IndexedEntries.{has_place, is_live}
use Rattle.txc_node.proofs.others.clean.Given as goal

abbrev pub invariant-loop-i : goal.invariant-loop-i
invariant-loop-i l = (q : Place) → is_live l.entries.entries q ≡ true → has_place l.fn.places.keys q ≡ true → has_place l.places.keys q ≡ true
