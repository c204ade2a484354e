use Rattle.std.proofs.Common.{◌≡◌, ◌<◌, get_or, sym, ◌∙◌, eqb-true, arith}
use Rattle.txc_db.proofs.HeldStamps.{place_is, not_held}
use Rattle.std.proofs.lemmas.List.{get_or_default}
use Rattle.txc_db.proofs.holds.place_of.Goals as goal

pub returns-then-eq-clause-place : goal.returns-then-eq-clause-place
returns-then-eq-clause-place c =
    let here : get_or c.args.holds.now c.loop-at.at 0 ≡ c.args.stamp = let same = eqb-true _ _ (sym c.eq.ensures ∙ c.if-eq.true) in sym (get_or_default c.args.holds.now c.loop-at.at c.index-holds-at.result 0 c.loop-at-test.true) ∙ (sym c.index-holds-at.is ∙ same) in
    place_is c.args.stamp c.args.holds.now c.loop-at.at c.loop-at-test.true c.loop-at.invariant here

pub returns-clause-none : goal.returns-clause-none
returns-clause-none c = not_held c.args.stamp c.args.holds.now (λ k below. let h : k < c.loop-at.at = omega (arith, below, c.loop-at-test.false) in c.loop-at.invariant k h)
