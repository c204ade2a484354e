-- The functions of the shop: the asks of each, in turn, and the list that is its value.
use Rattle.std.specs.Prelude.{ℕ, ◌==◌, if◌then◌else◌, List, [], ◌∷◌, ◌++◌, None}
use Rattle.txc_site.specs.Keys.{Call as CallValue}
use Rattle.txc_site.specs.Values.{RowValue}
use Rattle.txc_site.specs.Query.TheVariants.{All, ByGroup}
use Rattle.txc_site.specs.Ask.{Ask}
use Rattle.txc_site.specs.Ask.TheVariants.{Query, Call}
use Rattle.txc_site.specs.Answer.{Answer}
use Rattle.txc_site.specs.Answer.TheVariants.{Rows, Value}
use Rattle.txc_site.specs.Eval.{Next, small_limits}
use Rattle.txc_site.specs.FixedAsks.{in_turn}
use Rattle.txc_site.specs.Activity.{Says}
use Rattle.example_shop.specs.declared.Shop.{Shop}
use Rattle.example_shop.specs.declared.Shop.TheVariants.{Stock, ProductPage}
use Rattle.example_shop.specs.declared.TheConstants.{STOCK, ORDERS}

-- a piece is a row of one of the tables, in the group of its product; its body is a star
abbrev pub piece_row : ℕ → ℕ → ℕ → RowValue
piece_row table id product = record { table = table; id = id; group = product; body = 42 ∷ [] }

abbrev pub shop_number : Shop → ℕ
shop_number Stock = 0
shop_number ProductPage = 1

abbrev pub shop_call : Shop → List ℕ → CallValue
shop_call function args = record { function = shop_number function; args = args }

-- the asks of a function, in turn: for the pieces in stock, of all products or of one; or for these, by a call,
-- and the ordered pieces
abbrev pub shop_asks : Shop → List ℕ → List Ask
shop_asks Stock [] = Query (All STOCK) ∷ []
shop_asks Stock (product ∷ []) = Query (ByGroup STOCK product) ∷ []
shop_asks ProductPage (product ∷ []) = Call (shop_call Stock (product ∷ [])) ∷ Query (ByGroup ORDERS product) ∷ []
shop_asks function args = []

-- the bodies, one after the other
abbrev pub joined_bodies : List RowValue → List ℕ
joined_bodies [] = []
joined_bodies (row ∷ rows) = row.body ++ joined_bodies rows

abbrev pub bodies_of_answer : Answer → List ℕ
bodies_of_answer (Rows rows) = joined_bodies rows
bodies_of_answer (Value value) = []

-- the value of a function by its answers: the bodies of the rows; after a value and a bar if it made a call
abbrev pub piece_list : List Answer → List ℕ
piece_list (Value stock ∷ last ∷ []) = stock ++ 124 ∷ bodies_of_answer last
piece_list (Rows rows ∷ last ∷ []) = bodies_of_answer last
piece_list (last ∷ []) = bodies_of_answer last
piece_list answers = []

abbrev pub shop_says : Shop → Says
shop_says function = in_turn (shop_asks function) (λ args. piece_list)

-- no function has this number
abbrev pub no_function : Says
no_function args answers = None

-- the functions, by their numbers
abbrev pub shop_functions : ℕ → Says
shop_functions f = if f == 0 then shop_says Stock else (if f == 1 then shop_says ProductPage else no_function)

-- their meaning, within small limits
abbrev pub shop : Next
shop = record { says = shop_functions; limits = small_limits }
