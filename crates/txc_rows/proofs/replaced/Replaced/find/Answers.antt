use Rattle.std.proofs.Common.{◌+◌, refl}
use Rattle.std.proofs.lemmas.Result.{on_ok_weaker}
use Rattle.txc_rows.specs.declared.replaced.Deaths.{Deaths}
use Rattle.txc_rows.proofs.IndexLemmas.{shown_ids_fit, shown_groups_fit}
use Rattle.txc_rows.proofs.DeadLemmas.{found_finding}
use Rattle.txc_rows.proofs.replaced.Replaced.find.Goals as goal

pub spots_for-spots-requires-clause-ids : goal.spots_for-spots-requires-clause-ids
spots_for-spots-requires-clause-ids c =
    let was = c.self.inside in
    shown_ids_fit was.first was.gone was.versions.items was.ids.keys was.groups.keys c.self.invariant.1 c.self.invariant.0 (rw c.self.view_is c.requires.each)

pub spots_for-spots-requires-clause-groups : goal.spots_for-spots-requires-clause-groups
spots_for-spots-requires-clause-groups c =
    let was = c.self.inside in
    shown_groups_fit was.first was.gone was.versions.items was.ids.keys was.groups.keys c.self.invariant.1 c.self.invariant.0 (rw c.self.view_is c.requires.each)

pub returns : goal.returns
returns c =
    let was = c.self.inside in
    let d : Deaths = record { number = was.first + was.gone; low = c.args.from; high = 18446744073709551615 } in
    rw (← c.self.view_is) (on_ok_weaker c.take_found.result
    (found_finding was.first was.gone was.versions.items was.ids.keys was.groups.keys c.self.invariant.1 c.self.invariant.0 c.args.query.now d refl c.spots_for-spots.result c.spots_for-spots.ensures.spots (rw c.self.view_is c.requires.each) (rw c.self.view_is c.requires.ended) refl c.args.found.now.items c.take_found.new.found.items)
    c.take_found.ensures)
