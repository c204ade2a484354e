-- A node may be sent to threads and shared between them, whatever names its history. The terms are written out, one proof for
-- each field.
use denote.RattleType.{RattleType}
use denote.Param.Send.{IsSend, IsSync, view_send, view_sync}
use denote.Param.SendFields.{declared_send, declared_sync}
use Rattle.std.proofs.Crossing.{Arc-sync}
use Rattle.std.proofs.option.Option.TheSendSync as option
use Rattle.std.proofs.sync.Mutex.TheSendSync as mutex
use Rattle.txc_stream.proofs.row.EventRow.TheSendSync as row
use Rattle.txc_stream.proofs.row.Front.TheSendSync as front
use Rattle.txc_stream.specs.contracts.row.EventRow as EventRow
use Rattle.txc_db.specs.declared.naming.Naming as naming
use Rattle.txc_db.proofs.Crosses.{feed_send}
use Rattle.txc_node.specs.contracts.record.Record as Record
use Rattle.txc_node.proofs.record.Record.TheSendSync as record_crosses
use Rattle.txc_app.specs.declared.app.App as app
use Rattle.txc_shared.specs.contracts.node_front.NodeFront as NodeFront
use Rattle.txc_shared.specs.contracts.node_front.NodeFront.TheInside as front_inside
use Rattle.txc_shared.proofs.node_front.NodeFront.TheSendSync as node_front
use Rattle.txc_shared.specs.contracts.held.Held as Held
use Rattle.txc_shared.specs.contracts.held.Held.TheInside as held_inside
use Rattle.txc_shared.specs.contracts.shared_node.SharedNode as SharedNode
use Rattle.txc_shared.specs.contracts.shared_node.SharedNode.TheInside as node_inside
use Rattle.txc_shared.proofs.settings.NodeSettings.TheSendSync as settings
use Rattle.txc_shared.proofs.stored_node.StoredNode.TheSendSync as stored

records_send : IsSend (EventRow.the_row Record.the_row)
records_send = row.the_send Record.the_row record_crosses.the_send

records_sync : IsSync (EventRow.the_row Record.the_row)
records_sync = row.the_sync Record.the_row record_crosses.the_send record_crosses.the_sync

front_sync : IsSync NodeFront.the_row
front_sync = view_sync front_inside.the_row _ _ _ _ (declared_sync front_inside.the_type (
  option.the_sync _ (Arc-sync (EventRow.the_row Record.the_row) records_send records_sync),
  (front.the_sync Record.the_row, tt),
))

module _ (A : RattleType) (a : app.Ghosts A.Denot) (J : RattleType) (g : naming.Ghosts J.Denot) where
  held_send : IsSend (Held.the_row A J a g)
  held_send = view_send (held_inside.the_row A J a g) _ _ _ _ (declared_send (held_inside.the_type A J a g) (stored.the_send A a, (feed_send J g, tt)))

  pub node_send : IsSend (SharedNode.the_row A J a g)
  node_send = view_send (node_inside.the_row A J a g) _ _ _ _ (declared_send (node_inside.the_type A J a g) (
    settings.the_send,
    (node_front.the_send, (mutex.the_send (Held.the_row A J a g) held_send, tt)),
  ))

  pub node_sync : IsSync (SharedNode.the_row A J a g)
  node_sync = view_sync (node_inside.the_row A J a g) _ _ _ _ (declared_sync (node_inside.the_type A J a g) (
    settings.the_sync,
    (front_sync, (mutex.the_sync (Held.the_row A J a g) held_send, tt)),
  ))
