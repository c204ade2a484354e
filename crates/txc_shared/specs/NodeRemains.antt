-- The entries of a node that ends.
use Rattle.std.specs.Prelude.{◌≡◌, ℕ, ◌≤◌, List, ◌++◌, ◌∷◌, [], length}
use Rattle.std.specs.List.{AllByRecursion}
use Rattle.txc_node.specs.declared.entry.Entry.{Entry}
use Rattle.txc_db.specs.FrontsAndFeeds.{FrontValue}
use Rattle.txc_app.specs.Eval.{Next}
use Rattle.txc_shared.specs.Runs.{IsShownTrue, shown_entry}

-- its number; its entries, the most recently used first; the stamp of the last event that it took; and what it
-- has seen of the database's history
pub record LeftValue : Type 0 where
  pub number : ℕ
  pub entries : List Entry
  pub processed : ℕ
  pub seen : FrontValue

-- its entries, as hits show them, are true in the history that it has seen
pub record IsLeftNode (next : Next) (left : LeftValue) : Type 0 where
  pub entries : AllByRecursion (IsShownTrue next left.seen.history left.processed) left.entries
  pub within : left.processed ≤ length left.seen.history

-- it was the least recently used, and comes as a hit showed it
pub record WasLast (old new : LeftValue) (e : Entry) : Type 0 where
  pub last : Entry
  pub is : e ≡ shown_entry old.processed last
  pub before : old.entries ≡ new.entries ++ last ∷ []
