use Rattle.std.proofs.Common.{◌≡◌, ◌∙◌, ◌+◌, ◌++◌, ◌∷◌, [], ℕ, List, add-one, ap, map, sym, take}
use Rattle.std.proofs.Math.Seq.{take-suc}
use Rattle.std.proofs.lemmas.List.{map-append}
use Rattle.txc_rows.specs.Values.{RowValue}
use Rattle.txc_world.proofs.port_outcome.ids_of.Goals as goal

pub loop-row-preserved : goal.loop-row-preserved
loop-row-preserved c =
    let rows = c.args.rows.now in
    let i = c.loop-row.row-index in
    let row = c.row-item.result in
    let one : take (i + 1) rows ≡ take i rows ++ row ∷ [] =
    ap (λ (n : ℕ). take n rows) (add-one i) ∙ take-suc rows i row c.loop-row-test.true ∙ ap (λ (r : RowValue). take i rows ++ r ∷ []) (sym c.row-item.is) in
    c.in_ok-push.ensures.items
    ∙ ap (λ (ids : List ℕ). ids ++ c.id.result ∷ []) c.loop-row.invariant
    ∙ ap (λ (n : ℕ). map (λ (r : RowValue). r.id) (take i rows) ++ n ∷ []) c.id.ensures
    ∙ sym (map-append (λ (r : RowValue). r.id) (take i rows) (row ∷ []))
    ∙ ap (map (λ (r : RowValue). r.id)) (sym one)
