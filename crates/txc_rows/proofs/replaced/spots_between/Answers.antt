use Rattle.std.proofs.Common.{◌≡◌, ◌⊎◌, ◌<◌, inl, inr, ℕ, filter, ap, subst, sym, ◌∙◌, rules, arith}
use Rattle.txc_rows.specs.ReplacedIndex.{dies_within, is_between, DeathsAscend}
use Rattle.txc_rows.proofs.IndexLemmas.{between_spots, none_between, between_rise}
use Rattle.txc_rows.proofs.replaced.spots_between.Goals.{then-first-last-via-then-first-last, then-first-last-via-else-first-last+then-deaths}
use Rattle.txc_rows.proofs.replaced.spots_between.Goals as goal

pub returns-then-first-last-clause-spots : goal.returns-then-first-last-clause-spots
returns-then-first-last-clause-spots c =
    let none : (c.args.last < c.args.first) ⊎ (c.args.deaths.high < c.args.deaths.low) = elim c.then-first-last.branch [
      | then-first-last-via-then-first-last w ↦ inl (let k = w.if-first-last.true in omega (arith, k))
      | then-first-last-via-else-first-last+then-deaths w ↦ inr (let k = w.if-deaths.true in omega (arith, k))
    ] in
    ap (filter (dies_within c.args.deaths)) (c.range.ensures.between tt) ∙ none_between c.args.table c.args.first c.args.last c.args.deaths _ c.args.spots.now.keys none

pub returns-clause-spots : goal.returns-clause-spots
returns-clause-spots c =
    ap (filter (dies_within c.args.deaths)) (rw (c.new.ensures.start, c.new.ensures.end, c.number-table.ensures.answer) at (c.range-2.ensures.between (search rules)))
    ∙ between_spots c.args.table c.args.first c.args.last c.args.deaths c.args.spots.now.keys c.requires

pub returns-clause-rise : goal.returns-clause-rise
returns-clause-rise c = λ same.
    let d = c.args.deaths in
    let keys = c.args.spots.now.keys in
    let are : filter (dies_within c.args.deaths) c.range-2.result ≡ filter (is_between c.args.table c.args.first c.args.last) (filter (dies_within c.args.deaths) c.args.spots.now.keys)
    = ap (filter (dies_within c.args.deaths)) (rw (c.new.ensures.start, c.new.ensures.end, c.number-table.ensures.answer) at (c.range-2.ensures.between (search rules)))
    ∙ between_spots c.args.table c.args.first c.args.last c.args.deaths c.args.spots.now.keys c.requires in
    subst DeathsAscend (sym are) (subst (λ (b : ℕ). DeathsAscend (filter (is_between c.args.table c.args.first b) (filter (dies_within d) keys))) same (between_rise c.args.table c.args.first d keys c.range-2.ensures.ordered))
