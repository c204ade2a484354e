use Rattle.std.proofs.Common.{◌+◌, refl}
use Rattle.std.specs.Map.Iter.{deref}
use Rattle.txc_rows.specs.declared.replaced.Deaths.{Deaths}
use Rattle.txc_rows.proofs.IndexLemmas.{shown_ids_fit, shown_groups_fit}
use Rattle.txc_rows.proofs.DeadLemmas.{spot_high, none_dead, first_got}
use Rattle.txc_rows.proofs.replaced.Replaced.first_dead.Goals as goal

pub spots_for-spots-requires-clause-ids : goal.spots_for-spots-requires-clause-ids
spots_for-spots-requires-clause-ids c =
    let was = c.self.inside in
    shown_ids_fit was.first was.gone was.versions.items was.ids.keys was.groups.keys c.self.invariant.1 c.self.invariant.0 (rw c.self.view_is c.requires.each)

pub spots_for-spots-requires-clause-groups : goal.spots_for-spots-requires-clause-groups
spots_for-spots-requires-clause-groups c =
    let was = c.self.inside in
    shown_groups_fit was.first was.gone was.versions.items was.ids.keys was.groups.keys c.self.invariant.1 c.self.invariant.0 (rw c.self.view_is c.requires.each)

pub version_at-requires : goal.version_at-requires
version_at-requires c =
    let was = c.self.inside in
    let d : Deaths = record { number = was.first + was.gone; low = c.args.low; high = c.args.high } in
    let is = rw c.in-Some.is at c.first_of.ensures in
    spot_high was.first was.gone was.versions.items was.ids.keys was.groups.keys c.self.invariant.1 c.self.invariant.0 c.args.query.now d refl c.spots_for-spots.result c.spots_for-spots.ensures.spots c.in-Some.spot is.there

pub returns-in-Some : goal.returns-in-Some
returns-in-Some c =
    let was = c.self.inside in
    let d : Deaths = record { number = was.first + was.gone; low = c.args.low; high = c.args.high } in
    let is = rw c.in-Some.is at c.first_of.ensures in
    rw (← c.self.view_is) (first_got was.first was.gone was.versions.items was.ids.keys was.groups.keys c.self.invariant.1 c.self.invariant.0 c.args.query.now d refl c.spots_for-spots.result c.spots_for-spots.ensures.spots deref c.in-Some.spot is.there c.version_at.result c.version_at.ensures is.least)

pub returns-in-None : goal.returns-in-None
returns-in-None c =
    let was = c.self.inside in
    let d : Deaths = record { number = was.first + was.gone; low = c.args.low; high = c.args.high } in
    let none = rw c.in-None.is at c.first_of.ensures in
    rw (← c.self.view_is) (none_dead was.first was.gone was.versions.items was.ids.keys was.groups.keys c.self.invariant.1 c.self.invariant.0 c.args.query.now d refl c.spots_for-spots.result c.spots_for-spots.ensures.spots none)
