use Rattle.std.proofs.Common.{◌≡◌, ℕ, refl, sym, ap, ◌∙◌, ◌++◌, ◌∷◌, take, arith}
use Rattle.std.specs.List.{flat_map}
use Rattle.std.specs.Fmt.{decimal}
use Rattle.std.proofs.Output.{has_written_append, has_written_of_eq}
use Rattle.std.proofs.lemmas.List.{take_all}
use Rattle.txc_rows.specs.Values.{RowValue}
use Rattle.txcache_functions.specs.Program.{ids_of}
use Rattle.txcache_functions.proofs.Ids.{ids_are}
use Rattle.txcache_functions.proofs.ids_in.IdsDisplay.fmt.Goals as goal

pub returns-clause-writes : goal.returns-clause-writes
returns-clause-writes g c = λ plain ok.
    let one = c.in_ok-write.ensures.writes plain refl in
    let others = c.loop-row.invariant one.plain in
    let whole : take c.loop-row.row-index c.in-Some.others.now ≡ c.in-Some.others.now = take_all c.loop-row.row-index c.in-Some.others.now (omega arith) in
    let parts : c.args.self.now.0.now ≡ c.in-Some.first.now ∷ c.in-Some.others.now = c.in-Some.ensures.cases.0 in
    has_written_of_eq _ _ _ _ _ (
    ap (λ (n : ℕ). decimal n ++ flat_map (λ (r : RowValue). 44 ∷ decimal r.id) (take c.loop-row.row-index c.in-Some.others.now)) c.id-first.ensures
    ∙ ap (λ xs. decimal c.in-Some.first.now.id ++ flat_map (λ (r : RowValue). 44 ∷ decimal r.id) xs) whole ∙ sym (ids_are c.in-Some.first.now c.in-Some.others.now) ∙ ap ids_of (sym parts))
    (has_written_append _ _ _ _ _ _ one others)
