use Rattle.std.proofs.Common.{◌≡◌, ◌≤◌, ◌+◌, ◌++◌, ◌∷◌, [], length, length-drop, length-append, ap, subst, ◌∙◌, arith, rules}
use Rattle.txc_rows.specs.ReplacedIndex.{version_id, version_group, spot_of, AreIndexed}
use Rattle.txc_rows.proofs.IndexLemmas.{Drops, last_dropped}
use Rattle.txc_rows.proofs.replaced.Replaced.drop_last.Goals as goal

pub invariant_of-self : goal.invariant_of-self
invariant_of-self c =
    let x = c.in-Some.placed in
    let xs = c.pop_back.new.self.items in
    let was = c.self.inside in
    let are : was.versions.items ≡ xs ++ x ∷ [] = rw c.in-Some.is at c.pop_back.ensures.items in
    let count : c.len-in-Some.result ≡ length xs = search rules in
    let low : was.gone ≤ length xs = omega (arith, c.if-len-eq0.false, c.len.ensures, ap length c.self.view_is, length-drop was.gone was.versions.items, ap length are, length-append xs (x ∷ [])) in
    let id : Drops (spot_of version_id (was.first + length xs) x) was.ids.keys c.drop_spot.new.spots.keys
    = subst (λ s. Drops s was.ids.keys c.drop_spot.new.spots.keys) (c.spot_by_id.ensures ∙ ap (λ n. spot_of version_id (was.first + n) x) count) c.drop_spot.ensures in
    let group : Drops (spot_of version_group (was.first + length xs) x) was.groups.keys c.drop_spot-in-Some.new.spots.keys
    = subst (λ s. Drops s was.groups.keys c.drop_spot-in-Some.new.spots.keys) (c.spot_by_group.ensures ∙ ap (λ n. spot_of version_group (was.first + n) x) count) c.drop_spot-in-Some.ensures in
    (last_dropped was.first x xs was.ids.keys was.groups.keys c.drop_spot.new.spots.keys c.drop_spot-in-Some.new.spots.keys (subst (λ ys. AreIndexed was.first ys was.ids.keys was.groups.keys) are c.self.invariant.0) id group, low)
