use Rattle.std.proofs.Common.{◌≡◌, ℕ, ◌∷◌, Some, ap, sym, subst, ◌∙◌, arith}
use Rattle.std.specs.Prelude.{slice_get, remove}
use Rattle.txc_node.specs.IndexedEntries.{listed, Relists}
use Rattle.txc_node.proofs.Fronts.{relists_first}
use Rattle.txc_node.proofs.keyed.bring_found.Goals as goal

pub returns-else-found-gt0 : goal.returns-else-found-gt0
returns-else-found-gt0 c =
    let a = c.args in
    let index = a.keys.now.versions.entries in
    let first : a.found.at ≡ 0 = omega (arith, c.if-found-gt0.false) in
    let here : slice_get (listed index a.key.now) 0 ≡ Some a.found.reach = ap (λ n. slice_get (listed index a.key.now) n) (sym first) ∙ c.requires in
    subst (λ (n : ℕ). Relists a.key.now (a.found.reach ∷ remove (listed index a.key.now) n) index index) (sym first) (relists_first index a.key.now a.found.reach here)
