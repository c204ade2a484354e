-- The histories of nodes that are still to be made.
use Rattle.std.specs.Prelude.{◌≡◌, []}
use Rattle.txc_stream.specs.Names.{Name, stored, unstored}
use Rattle.txc_site_ledger.specs.declared.node_history.NodeHistory.{NodeHistory}
use Rattle.txc_site_ledger.specs.declared.node_history.NodeHistory.TheVariants.{Stored, Unstored}

-- the name of a history
abbrev pub history_name : NodeHistory → Name
history_name (Stored row) = stored row
history_name (Unstored pen) = unstored pen.number

-- nothing was written
abbrev pub IsNew : NodeHistory → Type 0
IsNew (Stored row) = Unit {0}
IsNew (Unstored pen) = pen.list ≡ []
