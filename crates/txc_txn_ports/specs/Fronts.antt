-- The history in a reply.
use Rattle.std.specs.Prelude.{Option, Some, None, Ok}
use Rattle.txc_db.specs.FrontsAndFeeds.{FrontValue}
use Rattle.txc_txn_ports.specs.declared.reply.PortReply.{PortReply}
use Rattle.txc_txn_ports.specs.declared.reply.PortReply.TheVariants.{Pin, AddPin, Lookup, Query}

-- the front in a port's reply; none if the reply has none
abbrev pub front_of_reply : PortReply → Option FrontValue
front_of_reply (Pin (Ok pinned)) = Some pinned.front
front_of_reply (AddPin pinned added) = Some pinned.front
front_of_reply (Lookup (Some hit)) = Some hit.front
front_of_reply (Query (Ok found)) = Some found.front
front_of_reply reply = None
