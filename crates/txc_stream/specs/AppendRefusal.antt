-- The record that a failed append returns.
use Rattle.std.specs.Prelude.{◌≡◌, ℕ, List, slice_index, Ok, Err}
use Rattle.std.specs.declared.result.Result.{Result}
use Rattle.txc_stream.specs.declared.row.AppendError.{AppendError}
use Rattle.txc_stream.specs.declared.row.AppendError.TheVariants.{Full, Taken}

-- the record that a failed append returns
abbrev pub handed_back : {T : Type 0} → AppendError T → T
handed_back (Full b) = b.value
handed_back (Taken r) = r.value.value

-- the append failed since the log is full
abbrev pub IsFull : {T : Type 0} → Result (Unit {0}) (AppendError T) → Type 0
IsFull (Ok x) = ⊥
IsFull (Err (Full b)) = Unit {0}
IsFull (Err (Taken b)) = ⊥

-- with `Taken`, a record was observed in the cell at this place of the log
abbrev pub StandsNext : {T : Type 0} → List ℕ → ℕ → AppendError T → Type 0
StandsNext row at (Full b) = Unit {0}
StandsNext row at (Taken r) = r.seen.cell ≡ slice_index row at
