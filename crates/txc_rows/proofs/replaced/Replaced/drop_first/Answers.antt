use Rattle.std.proofs.Common.{◌≡◌, ◌≤◌, ◌∷◌, length, subst, arith}
use Rattle.txc_rows.specs.ReplacedIndex.{version_id, version_group, spot_of, AreIndexed}
use Rattle.txc_rows.proofs.IndexLemmas.{Drops, first_dropped}
use Rattle.txc_rows.proofs.replaced.Replaced.drop_first.Goals as goal

pub invariant_of-self : goal.invariant_of-self
invariant_of-self c =
    let x = c.in-Some.placed in
    let xs = c.pop_front.new.self.items in
    let was = c.self.inside in
    let are : was.versions.items ≡ x ∷ xs = rw c.in-Some.is at c.pop_front.ensures.items in
    let id : Drops (spot_of version_id was.first x) was.ids.keys c.drop_spot.new.spots.keys = subst (λ s. Drops s was.ids.keys c.drop_spot.new.spots.keys) c.spot_by_id.ensures c.drop_spot.ensures in
    let group : Drops (spot_of version_group was.first x) was.groups.keys c.drop_spot-in-Some.new.spots.keys = subst (λ s. Drops s was.groups.keys c.drop_spot-in-Some.new.spots.keys) c.spot_by_group.ensures c.drop_spot-in-Some.ensures in
    let low : was.gone ≤ length (x ∷ xs) = subst (λ ys. was.gone ≤ length ys) are c.self.invariant.1 in (
      first_dropped was.first x xs was.ids.keys was.groups.keys c.drop_spot.new.spots.keys c.drop_spot-in-Some.new.spots.keys (subst (λ ys. AreIndexed was.first ys was.ids.keys was.groups.keys) are c.self.invariant.0) id group,
      omega (arith, low),
    )
