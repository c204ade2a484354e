use Rattle.std.proofs.Common.{◌≡◌, ℕ, refl, sym, ap, ◌∙◌, ◌++◌, ◌∷◌, take, arith, map}
use Rattle.std.specs.List.{flat_map}
use Rattle.std.specs.Fmt.{decimal}
use Rattle.std.proofs.Output.{has_written_append, has_written_of_eq}
use Rattle.std.proofs.lemmas.List.{take_all}
use Rattle.txc_rows.specs.Values.{RowValue}
use Rattle.txc_script_world.specs.TaskTexts.{ids_text}
use Rattle.txc_script_world.proofs.WorldTexts.{join_found}
use Rattle.txc_script_world.proofs.printed.texts.write_ids_of.Goals as goal

pub returns : goal.returns
returns g c = λ plain ok.
    let one = c.in_ok-write.ensures.writes plain refl in
    let others = c.loop-row.invariant one.plain in
    let whole : take c.loop-row.row-index c.in-Some.others.now ≡ c.in-Some.others.now = take_all c.loop-row.row-index c.in-Some.others.now (omega arith) in
    let parts : c.args.rows.now ≡ c.in-Some.first.now ∷ c.in-Some.others.now = c.in-Some.ensures.cases.0 in
    has_written_of_eq _ _ _ _ _ (
    ap (λ (n : ℕ). decimal n ++ flat_map (λ (r : RowValue). 44 ∷ decimal r.id) (take c.loop-row.row-index c.in-Some.others.now)) c.id-first.ensures
    ∙ ap (λ xs. decimal c.in-Some.first.now.id ++ flat_map (λ (r : RowValue). 44 ∷ decimal r.id) xs) whole ∙ sym (join_found decimal (λ (r : RowValue). r.id) c.in-Some.first.now c.in-Some.others.now)
    ∙ ap (λ rows. ids_text (map (λ (r : RowValue). r.id) rows)) (sym parts))
    (has_written_append _ _ _ _ _ _ one others)
