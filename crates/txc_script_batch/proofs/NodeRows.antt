-- The rows of nodes, by their numbers.
use Rattle.std.proofs.Common.{◌≡◌, ℕ, ◌+◌, ◌<◌, zero, suc, List, [], ◌∷◌, length, get_or, refl, sym, ap, ◌∙◌, arith}
use Rattle.std.specs.List.{All}
use Rattle.std.proofs.lemmas.List.Elements.{All-head, All-tail}
use Rattle.txc_stream.specs.Names.{Name, stored}
use Rattle.txc_script_settings.specs.declared.settings.Settings.{Settings}
use Rattle.txc_script_batch.specs.Rows.{AreRowsOf}
use Rattle.txc_script_batch.specs.BatchClients.{HaveRoomsBy}

-- so many places later
later_rows : (all : List (List ℕ)) (row : List ℕ) (n : ℕ) (rows : List (List ℕ)) → AreRowsOf (λ k. stored (get_or all k [])) n rows → AreRowsOf (λ k. stored (get_or (row ∷ all) k [])) (n + 1) rows
later_rows all row n [] h = tt
later_rows all row n (r ∷ rows) h =
    let next : suc n ≡ n + 1 = omega arith in
    (h.0 ∙ ap (λ (m : ℕ). stored (get_or (row ∷ all) m [])) next, later_rows all row (n + 1) rows h.1)

-- each row of a list is the one at its place
pub rows_by_place : (rows : List (List ℕ)) → AreRowsOf (λ k. stored (get_or rows k [])) 0 rows
rows_by_place [] = tt
rows_by_place (row ∷ rows) = (refl, later_rows rows row 0 rows (rows_by_place rows))

-- ---- and is stored with as much room as each

rooms_from : (rows : List (List ℕ)) (named : ℕ → Name) (n room i : ℕ) → AreRowsOf named n rows → All (λ row. length row ≡ room) rows → i < length rows
    → (row : List ℕ) × (named (n + i) ≡ stored row) × (length row ≡ room)
rooms_from [] named n room i are each within = absurd (omega (arith, within))
rooms_from (row ∷ rows) named n room zero are each within =
    let here : n + zero ≡ n = omega arith in
    (row, ap named here ∙ sym are.0, All-head (λ r. length r ≡ room) row rows each)
rooms_from (row ∷ rows) named n room (suc i) are each within =
    let there : n + suc i ≡ (n + 1) + i = omega arith in
    let less : i < length rows = omega (arith, within) in
    let rest = rooms_from rows named (n + 1) room i are.1 (All-tail (λ r. length r ≡ room) row rows each) less in
    (rest.0, ap named there ∙ rest.1, rest.2)

pub rooms_by : (s : Settings) (rows : List (List ℕ)) (named : ℕ → Name) → AreRowsOf named 0 rows → All (λ row. length row ≡ s.row_cap) rows → length rows ≡ s.nodes → HaveRoomsBy s named
rooms_by s rows named are each count = λ number within.
    let first : number ≡ 0 + number = omega arith in
    let found = rooms_from rows named 0 s.row_cap number are each (omega (arith, within, count)) in
    (found.0, ap named first ∙ found.1, found.2)
