-- The first pieces, one after the other.
use Rattle.std.proofs.Common.{◌≡◌, ℕ, ◌+◌, ◌%◌, List, [], ◌∷◌, ◌++◌, refl, add-one}
use Rattle.txc_site.specs.Change.{Change}
use Rattle.txc_site.specs.Change.TheVariants.{Put}
use Rattle.example_shop.specs.Shop.{piece_row}
use Rattle.example_shop.specs.Trade.{first_pieces}
use Rattle.example_shop.specs.declared.TheConstants.{PRODUCTS, STOCK}

pub no_pieces : first_pieces 0 ≡ []
unfolding first_pieces
no_pieces = refl

pub one_more_piece : (before after : List Change) (id : ℕ) → before ≡ first_pieces id
    → after ≡ before ++ Put (piece_row STOCK id (id % PRODUCTS)) ∷ [] → after ≡ first_pieces (id + 1)
unfolding first_pieces
one_more_piece before after id is more = rw add-one (rw (← is) more)
