use Rattle.std.proofs.Common.{◌≡◌, ◌++◌, ◌∷◌, [], true, filter, sym, ap, subst, ◌∙◌}
use Rattle.txc_rows.specs.ReplacedIndex.{dies_within, DeathsAscend, IsLatest}
use Rattle.txc_rows.proofs.SpotLemmas.{back_on, last_latest}
use Rattle.txc_rows.proofs.replaced.last_of.Goals as goal

pub returns-then-has : goal.returns-then-has
returns-then-has c =
    let d = c.args.deaths in
    let s = c.in-Some.spot.now in
    let rest = filter (dies_within d) c.next_back.new.self in
    let on : dies_within d s ≡ true = sym c.has.ensures ∙ c.if-has.true in
    let are : filter (dies_within d) c.args.spots ≡ rest ++ s ∷ [] = sym c.loop-spot.invariant ∙ (ap (filter (dies_within d)) c.in-Some.ensures.steps ∙ back_on d s c.next_back.new.self on) in
    subst (λ ss. IsLatest ss s) (sym are) (last_latest s rest (subst DeathsAscend are c.requires))
