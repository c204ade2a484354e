use Rattle.std.proofs.Common.{◌+◌, ◌<◌, ◌≤◌, length, refl, sym, ap, subst, ◌∙◌}
use Rattle.txc_rows.specs.declared.replaced.Deaths.{Deaths}
use Rattle.txc_rows.proofs.IndexLemmas.{shown_ids_fit, shown_groups_fit}
use Rattle.txc_rows.proofs.DeadLemmas.{found_count}
use Rattle.txc_rows.proofs.FindLemmas.{asked}
use Rattle.txc_rows.proofs.replaced.Replaced.has_more.Goals as goal

pub spots_for-spots-requires-clause-ids : goal.spots_for-spots-requires-clause-ids
spots_for-spots-requires-clause-ids c =
    let was = c.self.inside in
    shown_ids_fit was.first was.gone was.versions.items was.ids.keys was.groups.keys c.self.invariant.1 c.self.invariant.0 (rw c.self.view_is c.requires.each)

pub spots_for-spots-requires-clause-groups : goal.spots_for-spots-requires-clause-groups
spots_for-spots-requires-clause-groups c =
    let was = c.self.inside in
    shown_groups_fit was.first was.gone was.versions.items was.ids.keys was.groups.keys c.self.invariant.1 c.self.invariant.0 (rw c.self.view_is c.requires.each)

pub returns-clause-more : goal.returns-clause-more
returns-clause-more c = λ is.
    let was = c.self.inside in
    let d : Deaths = record { number = was.first + was.gone; low = c.args.from; high = 18446744073709551615 } in
    let count = found_count was.first was.gone was.versions.items was.ids.keys was.groups.keys c.self.invariant.1 c.self.invariant.0 c.args.query.now d refl c.spots_for-spots.result c.spots_for-spots.ensures.spots (rw c.self.view_is c.requires.each) (rw c.self.view_is c.requires.ended) refl in
    subst (λ n. c.args.most < n) (sym (ap (λ xs. length (asked c.args.query.now c.args.from xs)) (sym c.self.view_is) ∙ count)) (c.are_more.ensures.more is)

pub returns-clause-few : goal.returns-clause-few
returns-clause-few c = λ is.
    let was = c.self.inside in
    let d : Deaths = record { number = was.first + was.gone; low = c.args.from; high = 18446744073709551615 } in
    let count = found_count was.first was.gone was.versions.items was.ids.keys was.groups.keys c.self.invariant.1 c.self.invariant.0 c.args.query.now d refl c.spots_for-spots.result c.spots_for-spots.ensures.spots (rw c.self.view_is c.requires.each) (rw c.self.view_is c.requires.ended) refl in
    subst (λ n. n ≤ c.args.most) (sym (ap (λ xs. length (asked c.args.query.now c.args.from xs)) (sym c.self.view_is) ∙ count)) (c.are_more.ensures.few is)
