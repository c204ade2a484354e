use Rattle.std.proofs.Common.{sym, ap, arith, ◌∙◌, length, List, ℕ}
use Rattle.std.proofs.lemmas.List.{length-take, take_all}
use Rattle.txc_script.specs.Excerpts.{ExcerptValue}
use Rattle.txc_script.specs.declared.excerpt.TheConstants.{MAX_SHOWN}
use Rattle.txc_script.proofs.excerpt.Excerpt.new.Goals as goal

abbrev excerpt : List ℕ → ℕ → ExcerptValue
excerpt start len = record { start = start; len = len }

pub slice_bounds-keep-end : goal.slice_bounds-keep-end
slice_bounds-keep-end c = omega (arith, length-take 40 c.args.text.now, c.if-text-le-MAX_SHOWN.false)

pub keep-requires-else-text-le-MAX_SHOWN : goal.keep-requires-else-text-le-MAX_SHOWN
keep-requires-else-text-le-MAX_SHOWN c = omega (arith, length-take 40 c.args.text.now)

pub returns-then-text-le-MAX_SHOWN : goal.returns-then-text-le-MAX_SHOWN
returns-then-text-le-MAX_SHOWN c =
    c.keep.ensures ∙ ap (λ (xs : List ℕ). excerpt xs (length c.args.text.now)) (sym (take_all MAX_SHOWN c.args.text.now c.if-text-le-MAX_SHOWN.true))
