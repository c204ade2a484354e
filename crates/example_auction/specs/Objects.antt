-- The functions as definitions of one type.
use Rattle.std.specs.Prelude.{ℕ}
use Rattle.txc_site.specs.Activity.{Says}
use Rattle.example_auction.specs.Auction.{auction}
use Rattle.example_auction.specs.declared.functions.AuctionFunction.{AuctionFunction}
use Rattle.example_auction.specs.declared.functions.AuctionFunction.TheVariants as functions

abbrev pub auction_number : AuctionFunction → ℕ
auction_number functions.HighestBid = 0
auction_number functions.ItemPage = 1
auction_number functions.ItemsOf = 2

abbrev pub auction_says : AuctionFunction → Says
auction_says f = auction.says (auction_number f)
