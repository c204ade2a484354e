-- The node of a handle.
use Rattle.std.specs.Prelude.{Option, Some, None, if◌then◌else◌}
use Rattle.txc_c.specs.CountedNode.{Counted}
use Rattle.txc_c.specs.declared.handle.TxcNode.{TxcNode}

-- the node that an open handle has
abbrev pub held : TxcNode → Option Counted
held handle = if handle.is_open then Some handle.slot.value else None
