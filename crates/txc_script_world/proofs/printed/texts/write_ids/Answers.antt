use Rattle.std.proofs.Common.{◌≡◌, refl, sym, ap, ◌∙◌, ◌++◌, ◌∷◌, take, arith}
use Rattle.std.specs.List.{flat_map}
use Rattle.std.specs.Fmt.{decimal}
use Rattle.std.proofs.Output.{has_written_append, has_written_of_eq}
use Rattle.std.proofs.lemmas.List.{take_all}
use Rattle.txc_script_world.specs.TaskTexts.{ids_text}
use Rattle.txc_script_world.proofs.printed.texts.write_ids.Goals as goal
use Rattle.txc_tags.proofs.TextJoined.{join_others}

pub returns : goal.returns
returns g c = λ plain ok.
    let one = c.in_ok-write.ensures.writes plain refl in
    let others = c.loop-id.invariant one.plain in
    let whole : take c.loop-id.id-index c.in-Some.others.now ≡ c.in-Some.others.now = take_all c.loop-id.id-index c.in-Some.others.now (omega arith) in
    let parts : c.args.ids.now ≡ c.in-Some.first.now ∷ c.in-Some.others.now = c.in-Some.ensures.cases.0 in
    has_written_of_eq _ _ _ _ _ (ap (λ xs. decimal c.in-Some.first.now ++ flat_map (λ id. 44 ∷ decimal id) xs) whole ∙ sym (join_others decimal c.in-Some.first.now c.in-Some.others.now) ∙ ap ids_text (sym parts))
    (has_written_append _ _ _ _ _ _ one others)
