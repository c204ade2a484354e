-- Lists in which each item is judged by those before it.
use Rattle.std.specs.Prelude.{◌≡◌, ℕ, List, Some, take, slice_get}

-- P holds of each item and those before it
abbrev pub EachAfter : {X : Type 0} → (List X → X → Type 0) → List X → Type 0
EachAfter {X} P xs = (i : ℕ) (x : X) → slice_get xs i ≡ Some x → P (take i xs) x
