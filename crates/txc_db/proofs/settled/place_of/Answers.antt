use Rattle.std.proofs.Common.{◌≡◌, ap, sym, ◌∙◌, slice_get, Some, take, length, ℕ, arith, subst}
use Rattle.std.proofs.Math.Seq.{take-length}
use Rattle.std.proofs.lemmas.Option.{slice_get-get_or}
use Rattle.txc_rows.specs.declared.query.Change.{Change}
use Rattle.txc_db.proofs.Settling.{PassesAll, passes_more, placed_there, placed_before, placed_last}
use Rattle.txc_db.proofs.settled.place_of.Goals as goal

pub returns-then-has_same_key : goal.returns-then-has_same_key
returns-then-has_same_key c =
    let at : slice_get c.args.settled.now c.loop-at.at ≡ Some c.index-settled-at.result = slice_get-get_or c.args.settled.now c.loop-at.at c.index-settled-at.result c.loop-at-test.true ∙ ap (λ (r : Change). Some r) (sym c.index-settled-at.is) in
    placed_there c.args.change.now c.index-settled-at.result c.args.settled.now c.loop-at.at at c.loop-at.invariant (sym c.has_same_key.ensures ∙ c.if-has_same_key.true)

pub returns-then-is_key_before : goal.returns-then-is_key_before
returns-then-is_key_before c =
    let at : slice_get c.args.settled.now c.loop-at.at ≡ Some c.index-settled-at.result = slice_get-get_or c.args.settled.now c.loop-at.at c.index-settled-at.result c.loop-at-test.true ∙ ap (λ (r : Change). Some r) (sym c.index-settled-at.is) in
    (omega (arith, c.loop-at-test.true), placed_before c.args.change.now c.index-settled-at.result c.args.settled.now c.loop-at.at at c.loop-at.invariant (sym c.has_same_key.ensures ∙ c.if-has_same_key.false) (sym c.is_key_before.ensures ∙ c.if-is_key_before.true))

pub loop-at-preserved : goal.loop-at-preserved
loop-at-preserved c =
    let at : slice_get c.args.settled.now c.loop-at.at ≡ Some c.index-settled-at.result = slice_get-get_or c.args.settled.now c.loop-at.at c.index-settled-at.result c.loop-at-test.true ∙ ap (λ (r : Change). Some r) (sym c.index-settled-at.is) in
    passes_more c.args.change.now c.index-settled-at.result c.args.settled.now c.loop-at.at at c.loop-at.invariant (sym c.has_same_key.ensures ∙ c.if-has_same_key.false) (sym c.is_key_before.ensures ∙ c.if-is_key_before.false)

pub returns : goal.returns
returns c =
    let whole : c.loop-at.at ≡ length c.args.settled.now = omega (arith, c.loop-at-test.false, c.loop-at.auto.at-end) in
    let passes : PassesAll c.args.change.now c.args.settled.now = subst (PassesAll c.args.change.now) (ap (λ (n : ℕ). take n c.args.settled.now) whole ∙ take-length c.args.settled.now) c.loop-at.invariant in
    (omega arith, placed_last c.args.change.now c.args.settled.now passes)
