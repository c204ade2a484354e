-- The program's functions, as objects of one type.
use Rattle.std.specs.Prelude.{ℕ, List, [], ◌∷◌}
use Rattle.txc_call_registry.specs.Activity.{Says}
use Rattle.txcache_functions.specs.Program.{program}
use Rattle.txcache_functions.specs.declared.any_function.AnyFunction.{AnyFunction}
use Rattle.txcache_functions.specs.declared.any_function.AnyFunction.TheVariants as functions

-- the number of the function
abbrev pub number_of : AnyFunction → ℕ
number_of (functions.BodyAt f) = 0
number_of (functions.BodiesIn f) = 1
number_of (functions.BodiesAndBody f) = 2
number_of (functions.RowCount f) = 3
number_of (functions.Itself f) = 4
number_of (functions.Again f) = 5
number_of (functions.IdsIn f) = 6

-- its asks, and its value
abbrev pub says_of : AnyFunction → Says
says_of f = program.says (number_of f)

-- the numbers of all functions, in order
abbrev pub ALL_NUMBERS : List ℕ
ALL_NUMBERS = 0 ∷ 1 ∷ 2 ∷ 3 ∷ 4 ∷ 5 ∷ 6 ∷ []
