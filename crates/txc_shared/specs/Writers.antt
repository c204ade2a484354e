-- The writer of a node's history.
use Rattle.std.specs.Prelude.{◌≡◌, Option, None, Some}
use Rattle.txc_stream.specs.Names.{HasRow, unstored}
use Rattle.txc_stream.specs.declared.append_token.AppendToken.{AppendToken}
use Rattle.txc_node.specs.declared.record.Record.{Record}
use Rattle.txc_shared.specs.Nodes.{NodeFrontValue}

-- a stored history has no append token, and the token of a ghost history has written all of it
abbrev pub HasWriter : Option (AppendToken Record) → NodeFrontValue → Type 0
HasWriter None h = HasRow h.name
HasWriter (Some pen) h = (h.name ≡ unstored pen.number) × (h.records ≡ pen.list)
