-- The entries of nodes that a site over another database takes over.
use Rattle.std.specs.Prelude.{◌≡◌, true, length}
use Rattle.txc_stamp.specs.Interval.{Holds}
use Rattle.txc_db.specs.History.{History, state_at}
use Rattle.txc_db.specs.FrontsAndFeeds.{FrontValue}
use Rattle.txc_node.specs.declared.entry.Entry.{Entry}

-- after all events that each of the two fronts shows, the state is the same
abbrev pub EndInOneState : FrontValue → FrontValue → Type 0
EndInOneState one other = state_at one.history (length one.history) ≡ state_at other.history (length other.history)

-- the entry holds at the newest stamp, and is still valid
pub record IsValidAtEnd (L : History) (e : Entry) : Type 0 where
  pub still : e.reach.still ≡ true
  pub holds : Holds e.reach (length L)
