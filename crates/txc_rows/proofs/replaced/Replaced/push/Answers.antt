use Rattle.std.proofs.Common.{◌≡◌, ◌<◌, ◌≤◌, ◌+◌, ◌++◌, ◌∷◌, [], length, length-append, ap, subst, ◌∙◌, arith, rules}
use Rattle.std.proofs.lemmas.List.{drop-append-le}
use Rattle.std.specs.List.Sorted.{IsPermutation}
use Rattle.std.proofs.lemmas.List.Sorted.{IsPermutation-trans}
use Rattle.txc_rows.specs.declared.replaced.Spot.{Spot}
use Rattle.txc_rows.specs.ReplacedIndex.{version_id, version_group, spot_of}
use Rattle.txc_rows.proofs.IndexLemmas.{all_numbered, one_added}
use Rattle.txc_rows.proofs.replaced.Replaced.push.Goals as goal

pub add_spot-requires : goal.add_spot-requires
add_spot-requires c =
    let n : c.spot_by_id-id.result.number ≡ c.self.inside.first + c.len-2.result = ap (λ (s : Spot). s.number) c.spot_by_id-id.ensures in
    let count : c.len-2.result ≡ length c.self.inside.versions.items = search rules in
    all_numbered version_id c.self.inside.first c.spot_by_id-id.result.number c.self.inside.versions.items c.self.inside.ids.keys (omega (arith, n, count)) c.self.invariant.0.by_id

pub add_spot-requires-2 : goal.add_spot-requires-2
add_spot-requires-2 c =
    let n : c.spot_by_group-group.result.number ≡ c.self.inside.first + c.len-2.result = ap (λ (s : Spot). s.number) c.spot_by_group-group.ensures in
    let count : c.len-2.result ≡ length c.self.inside.versions.items = search rules in
    all_numbered version_group c.self.inside.first c.spot_by_group-group.result.number c.self.inside.versions.items c.self.inside.groups.keys (omega (arith, n, count)) c.self.invariant.0.by_group

pub invariant_of-self-in_default : goal.invariant_of-self-in_default
invariant_of-self-in_default c =
    let was = c.self.inside in
    let h = c.self.invariant.0 in
    let n : c.spot_by_id-id.result.number ≡ was.first + c.len-2.result = ap (λ (s : Spot). s.number) c.spot_by_id-id.ensures in
    let count : c.len-2.result ≡ length was.versions.items = search rules in
    let off = all_numbered version_id was.first c.spot_by_id-id.result.number was.versions.items was.ids.keys (omega (arith, n, count)) h.by_id in
    let back : IsPermutation was.ids.keys c.drop_spot.new.spots.keys = c.drop_spot.ensures was.ids.keys off c.in_ok-add_spot.ensures.added in
    let same : c.add_spot-2.new.spots.keys ≡ was.groups.keys = search rules in
    rw (c.in_ok-reserve.ensures.items, same) (record { fits = h.fits; by_id = IsPermutation-trans _ _ _ h.by_id back; by_group = h.by_group }, c.self.invariant.1)

pub invariant_of-self-2 : goal.invariant_of-self-2
invariant_of-self-2 c =
    let was = c.self.inside in
    let x = c.args.placed in
    let xs = was.versions.items in
    let count : c.len-2.result ≡ length xs = search rules in
    let low : was.first + length xs + 1 < 18446744073709551616 = search (arith, rules) in
    let id : IsPermutation (spot_of version_id (was.first + length xs) x ∷ was.ids.keys) c.add_spot.new.spots.keys
    = subst (λ s. IsPermutation (s ∷ was.ids.keys) c.add_spot.new.spots.keys) (c.spot_by_id-id.ensures ∙ ap (λ n. spot_of version_id (was.first + n) x) count) c.in_ok-add_spot.ensures.added in
    let got : IsPermutation (c.spot_by_group-group.result ∷ was.groups.keys) c.add_spot-2.new.spots.keys = search rules in
    let group : IsPermutation (spot_of version_group (was.first + length xs) x ∷ was.groups.keys) c.add_spot-2.new.spots.keys
    = subst (λ s. IsPermutation (s ∷ was.groups.keys) c.add_spot-2.new.spots.keys) (c.spot_by_group-group.ensures ∙ ap (λ n. spot_of version_group (was.first + n) x) count) got in
    let within : was.gone ≤ length (xs ++ x ∷ []) = omega (arith, c.self.invariant.1, length-append xs (x ∷ [])) in
    rw (c.push_back_reserved.ensures.items, c.in_ok-reserve.ensures.items) (one_added was.first x xs was.ids.keys was.groups.keys c.add_spot.new.spots.keys c.add_spot-2.new.spots.keys c.self.invariant.0 low id group, within)

pub returns-clause-added : goal.returns-clause-added
returns-clause-added c =
    let was = c.self.inside in
    rw (c.push_back_reserved.ensures.items, c.in_ok-reserve.ensures.items) (drop-append-le was.gone was.versions.items (c.args.placed ∷ []) c.self.invariant.1 ∙ ap (λ xs. xs ++ c.args.placed ∷ []) c.self.view_is)
