-- The changes of a bid.
use Rattle.std.specs.Prelude.{◌≡◌, ℕ, List, [], ◌∷◌, ◌++◌}
use Rattle.std.specs.Fmt.{decimal}
use Rattle.txc_site.specs.Change.TheVariants.{Put}
use Rattle.txc_site.specs.RwCore.{RwValue}
use Rattle.example_auction.specs.Auction.{BIDS}
use Rattle.example_auction.specs.declared.changes.Bid.{Bid}

-- the amount, a colon, and the user's name, such as 120:user1
abbrev pub text_of : ℕ → ℕ → List ℕ
text_of amount user = decimal amount ++ 58 ∷ 117 ∷ 115 ∷ 101 ∷ 114 ∷ decimal user

-- the only change is that the item's row of the highest bid becomes this one
abbrev pub WritesBid : Bid → RwValue → ℕ → Type 0
WritesBid bid core amount = core.changes
    ≡ Put (record { table = BIDS; id = bid.item; group = 0; body = text_of amount bid.user }) ∷ []
