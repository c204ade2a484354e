use Rattle.example_auction.proofs.Shown.{shown_is_whole}
use Rattle.example_auction.proofs.crowd.Crowd.page.Goals as goal

pub returns-in-Ok : goal.returns-in-Ok
returns-in-Ok g c =
    shown_is_whole _ _ c.read-shown.result.0 c.in-Ok.shown c.in-Ok.is c.read-shown.ensures.shows c.read-shown.ensures.explained
