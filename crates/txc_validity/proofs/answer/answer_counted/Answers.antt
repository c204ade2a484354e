use Rattle.std.proofs.Common.{rules, ◌≡◌, ◌+◌, ◌<◌, ◌==◌, false, true, length, arith, sym, subst, ◌∙◌}
use Rattle.std.proofs.lemmas.Grind.{common_steps}
use Rattle.std.proofs.lemmas.List.{take_all}
use Rattle.txc_rows.specs.Versions.{suits, shown_at}
use Rattle.txc_validity.specs.Validity.{IsValidity}
use Rattle.txc_validity.proofs.Passes.{AreSteady, steady_hit, steady_miss, edge_next, valid_from}
use Rattle.txc_validity.proofs.answer.answer_counted.Goals as goal
use Rattle.txc_validity.proofs.answer.answer_counted.Goals.{then-matches, then-visible+in_ok-copy+in_ok-push, else-visible, else-matches}

pub loop-version-preserved : goal.loop-version-preserved
loop-version-preserved c =
    let q = c.args.query.now in
    let vs = c.args.versions.now in
    let at = c.loop-version.version-index in
    let v = c.version-item.result in
    let i = c.loop-version.invariant in
    let low : at < length vs = omega arith in
    elim c.if-matches.branch [
      | then-matches w ↦
          let fits : suits q v ≡ true = sym c.matches.ensures ∙ w.if-matches.true in
          let cut = w.cut-stretch.ensures in
          rw (w.stretch-is, w.rows-is) (record {
            tests = omega (arith, i.tests);
            rows = elim w.if-visible.branch [ then-visible+in_ok-copy+in_ok-push x ↦ grind (arith, common_steps) | else-visible x ↦ grind (arith, common_steps) ];
            low = (omega (arith, cut.low.0, i.low.0), cut.low.1);
            high = (cut.high.0, omega (arith, cut.high.1, i.high.1));
            steady = steady_hit q vs at c.args.stamp c.loop-version.stretch.first c.loop-version.stretch.last w.cut-stretch.result.first w.cut-stretch.result.last v low c.version-item.is cut.low.0 cut.high.1 i.steady cut.steady;
            first = edge_next q vs at w.cut-stretch.result.first v _ _ low c.version-item.is fits cut.first (λ e. rw e i.first);
            last = edge_next q vs at (w.cut-stretch.result.last + 1) v _ _ low c.version-item.is fits cut.last (λ e. rw e i.last);
          })
      | else-matches w ↦
          let off : suits q v ≡ false = sym c.matches.ensures ∙ w.if-matches.false in
          rw (w.stretch-is, w.rows-is) (record {
            tests = omega (arith, i.tests);
            rows = grind (arith, common_steps);
            low = i.low;
            high = i.high;
            steady = steady_miss q vs at c.args.stamp c.loop-version.stretch.first c.loop-version.stretch.last v low c.version-item.is i.steady off;
            first = i.first;
            last = i.last;
          })
    ]

pub returns-clause-validity : goal.returns-clause-validity
returns-clause-validity c =
    let i = c.loop-version.invariant in
    let q = c.args.query.now in
    let vs = c.args.versions.now in
    let first = c.loop-version.stretch.first in
    let last = c.loop-version.stretch.last in
    let all : AreSteady q c.args.stamp c.loop-version.stretch.first c.loop-version.stretch.last vs
    = subst (AreSteady q c.args.stamp c.loop-version.stretch.first c.loop-version.stretch.last) (take_all _ vs c.loop-version-test.false) i.steady in
    let still : c.eq.result ≡ (c.loop-version.stretch.last == c.args.newest) = search rules in
    let is : c.unwrap.result ≡ record { lo = c.loop-version.stretch.first; known = c.loop-version.stretch.last; still = c.loop-version.stretch.last == c.args.newest } = search rules in
    subst (IsValidity (λ s. shown_at q s vs) c.args.stamp c.args.horizon c.args.newest) (sym is)
    (valid_from q vs c.args.stamp c.args.horizon c.args.newest c.loop-version.stretch.first c.loop-version.stretch.last c.requires i.low.0 i.low.1 i.high.0 i.high.1 all i.first i.last)
