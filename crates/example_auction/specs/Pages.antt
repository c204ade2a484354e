-- The contents of the auction's pages.
use Rattle.std.specs.Prelude.{◌≡◌, ℕ, List, [], ◌∷◌, ◌++◌}
use Rattle.txc_site.specs.Recorded.{Recorded}
use Rattle.example_auction.specs.Auction.{call_with_argument}
use Rattle.example_auction.specs.declared.pages.BothBids.{BothBids}

-- the highest bid on the item was called, and then its page
abbrev pub ShowsBoth : ℕ → List Recorded → BothBids → Type 0
ShowsBoth item calls both = calls ≡ record { key = call_with_argument 0 item; value = both.highest }
    ∷ record { key = call_with_argument 1 item; value = both.page } ∷ []

-- the page ends with a bar and the highest bid
abbrev pub IsWhole : BothBids → Type 0
IsWhole both = (before : List ℕ) × (both.page ≡ before ++ 124 ∷ both.highest)
