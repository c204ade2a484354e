use Rattle.std.proofs.Common.{◌≡◌, ℕ, [], refl, sym, ap, ◌∙◌, ◌++◌, ◌∷◌, take, arith}
use Rattle.std.specs.Fmt.{decimal}
use Rattle.std.specs.List.{flat_map}
use Rattle.std.proofs.Output.{has_written_append, has_written_of_eq}
use Rattle.std.proofs.lemmas.List.{take_all}
use Rattle.txc_tags.proofs.TextKeys.{written_key}
use Rattle.txc_tags.proofs.text.key.KeyDisplay.fmt.Goals as goal

pub returns-clause-writes : goal.returns-clause-writes
returns-clause-writes g c = λ plain ok.
    let one = c.in_ok-write.ensures.writes plain refl in
    let others = c.loop-arg.invariant one.plain in
    let last = c.write-3.ensures.writes others.plain ok in
    let whole : take c.loop-arg.arg-index c.in-Some.others.now ≡ c.in-Some.others.now = take_all c.loop-arg.arg-index c.in-Some.others.now (omega arith) in
    let parts : c.args.self.now.args ≡ c.in-Some.first.now ∷ c.in-Some.others.now = sym c.args-2.ensures.answer ∙ c.in-Some.ensures.cases.0 in
    has_written_of_eq _ _ _ _ _
    (ap (λ (n : ℕ). ((102 ∷ (decimal n ++ 40 ∷ decimal c.in-Some.first.now)) ++ flat_map (λ arg. 44 ∷ decimal arg) (take c.loop-arg.arg-index c.in-Some.others.now)) ++ 41 ∷ []) c.function-function.ensures.answer
    ∙ ap (λ xs. ((102 ∷ (decimal c.args.self.now.function ++ 40 ∷ decimal c.in-Some.first.now)) ++ flat_map (λ arg. 44 ∷ decimal arg) xs) ++ 41 ∷ []) whole
    ∙ written_key c.args.self.now c.in-Some.first.now c.in-Some.others.now parts)
    (has_written_append _ _ _ _ _ _ (has_written_append _ _ _ _ _ _ one others) last)
