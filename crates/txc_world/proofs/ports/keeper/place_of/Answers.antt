use Rattle.std.proofs.Common.{◌≡◌, ◌∙◌, ℕ, ◌<◌, sym, eqb-true, arith}
use Rattle.std.proofs.lemmas.Bool.{eqb-false}
use Rattle.txc_world.proofs.PortsLemmas.{first_is_held, none_is_held, none_more, stamp_at, without_first}
use Rattle.txc_world.proofs.ports.keeper.place_of.Goals as goal

pub loop-at-preserved : goal.loop-at-preserved
loop-at-preserved c =
    let other : (s : ℕ) → s ≡ c.index-spare-at.result.stamp → s ≡ c.args.stamp → ⊥ = λ s is same. eqb-false _ _ (sym c.eq.ensures ∙ c.if-eq.false) (sym is ∙ same) in
    none_more c.args.stamp c.args.spare.now c.loop-at.at c.loop-at.invariant
    (other _ (stamp_at c.args.spare.now c.loop-at.at c.index-spare-at.result c.loop-at-test.true c.index-spare-at.is))

pub returns-then-eq-clause-held : goal.returns-then-eq-clause-held
returns-then-eq-clause-held c =
    first_is_held c.args.stamp c.args.spare.now c.loop-at.at c.loop-at-test.true
    (stamp_at c.args.spare.now c.loop-at.at c.index-spare-at.result c.loop-at-test.true c.index-spare-at.is ∙ eqb-true _ _ (sym c.eq.ensures ∙ c.if-eq.true))

pub returns-then-eq-clause-there : goal.returns-then-eq-clause-there
returns-then-eq-clause-there c =
    stamp_at c.args.spare.now c.loop-at.at c.index-spare-at.result c.loop-at-test.true c.index-spare-at.is ∙ eqb-true _ _ (sym c.eq.ensures ∙ c.if-eq.true)

pub returns-then-eq-clause-place : goal.returns-then-eq-clause-place
returns-then-eq-clause-place c =
    without_first c.args.stamp c.args.spare.now c.loop-at.at c.loop-at-test.true c.loop-at.invariant
    (stamp_at c.args.spare.now c.loop-at.at c.index-spare-at.result c.loop-at-test.true c.index-spare-at.is ∙ eqb-true _ _ (sym c.eq.ensures ∙ c.if-eq.true))

pub returns-clause-none : goal.returns-clause-none
returns-clause-none c =
    none_is_held c.args.stamp c.args.spare.now (λ k below. let h : k < c.loop-at.at = omega (arith, below, c.loop-at-test.false) in c.loop-at.invariant k h)
