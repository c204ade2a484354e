-- The histories of the nodes of a site.
use Rattle.std.specs.Prelude.{◌≡◌, ℕ, ◌+◌, ◌<◌, List, [], ◌∷◌}
use Rattle.txc_stream.specs.Names.{Name}
use Rattle.txc_db_carry.specs.Rooms.{IsHistoryFor}
use Rattle.txc_site_ledger.specs.declared.node_history.NodeHistory.{NodeHistory}
use Rattle.txc_site_ledger.specs.Histories.{IsNew, history_name}
use Rattle.txc_site_workers.specs.declared.plan.Plan.{Plan}

-- each history is new and the one named at its number, of which the first has this one
abbrev pub AreHistoriesOf : (ℕ → Name) → ℕ → List NodeHistory → Type 0
AreHistoriesOf named number [] = Unit {0}
AreHistoriesOf named number (history ∷ histories) =
    IsNew history × (history_name history ≡ named number) × AreHistoriesOf named (number + 1) histories

-- the history of each node is stored, or is not, by the plan
abbrev pub HaveHistoriesBy : Plan → (ℕ → Name) → Type 0
HaveHistoriesBy p histories = (number : ℕ) → number < p.nodes → IsHistoryFor p.records (histories number)
