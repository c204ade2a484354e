-- The changes of the shop, and the output of a visitor.
use Rattle.std.specs.Prelude.{◌≡◌, ℕ, zero, suc, ◌*◌, ◌%◌, ◌≤◌, Bool, true, false, List, [], ◌∷◌, ◌++◌, length}
use Rattle.txc_site.specs.Values.{RowValue}
use Rattle.txc_site.specs.Change.{Change}
use Rattle.txc_site.specs.Change.TheVariants.{Put, Remove}
use Rattle.txc_site.specs.Query.TheVariants.{ByGroup}
use Rattle.txc_site.specs.RwCore.{RwValue}
use Rattle.txc_site.specs.Given.TheVariants.{Rows}
use Rattle.example_shop.specs.Shop.{piece_row}
use Rattle.example_shop.specs.declared.Trade.{Trade}
use Rattle.example_shop.specs.declared.Trade.TheVariants.{Opening, Purchase}
use Rattle.example_shop.specs.declared.TheConstants.{ORDERS, PIECES, PRODUCTS, STOCK}

-- the first `id` pieces are put in stock, one of each product in turn
unfoldable pub first_pieces : ℕ → List Change
first_pieces zero = []
first_pieces (suc id) = first_pieces id ++ Put (piece_row STOCK id (id % PRODUCTS)) ∷ []

-- the first of these pieces of the product moves from the stock to the orders; without a piece nothing is
-- written
abbrev pub purchase_of : ℕ → List RowValue → List Change
purchase_of product [] = []
purchase_of product (piece ∷ others) = Remove STOCK piece.id ∷ Put (piece_row ORDERS piece.id product) ∷ []

abbrev pub has_piece : List RowValue → Bool
has_piece [] = false
has_piece (piece ∷ others) = true

-- the stock of the product was queried, and one piece of it was bought, if there was one
pub record WritesPurchase (product : ℕ) (core : RwValue) (bought : Bool) : Type 0 where
  pub stock : List RowValue
  pub asked : core.answers ≡ Rows (ByGroup STOCK product) stock ∷ []
  pub written : core.changes ≡ purchase_of product stock
  pub sold : bought ≡ has_piece stock

abbrev pub WritesTrade : Trade → RwValue → Bool → Type 0
WritesTrade Opening core bought = core.changes ≡ first_pieces (PRODUCTS * PIECES)
WritesTrade (Purchase product) core bought = WritesPurchase product core bought

-- at most `pages` pages were torn, and at most as many pieces were bought
pub record HasVisited (pages : ℕ) (came : ℕ × ℕ) : Type 0 where
  pub torn : came.0 ≤ pages
  pub bought : came.1 ≤ pages
