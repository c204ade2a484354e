-- A client may be sent to a thread where its functions may, whatever names its rows. The terms are written out, one proof for
-- each field.
use denote.RattleType.{RattleType}
use denote.Ref.{NamedLft}
use denote.Param.Send.{IsSend, plain_send, shr_send, shr_slice_send, view_send}
use denote.Param.SendFields.{declared_send, as_row_send}
use denote.Struct.Field.{shr_ref_field, shr_slice_field}
use Rattle.std.proofs.Crossing.{Vec-send}
use Rattle.txc_db.proofs.Crosses.{database_sync}
use Rattle.txc_db.specs.contracts.database.Database as Database
use Rattle.txc_db.specs.declared.naming.Naming as naming
use Rattle.txc_cushion.specs.contracts.pincushion.Pincushion as Pincushion
use Rattle.txc_cushion.proofs.pincushion.Pincushion.TheSendSync as cushion
use Rattle.txc_app.specs.declared.app.App as app
use Rattle.txc_shared.specs.contracts.node_pass.NodePass as NodePass
use Rattle.txc_shared.specs.contracts.shared_node.SharedNode as SharedNode
use Rattle.txc_shared.proofs.Crosses.{node_sync}
use Rattle.txc_shared.proofs.node_pass.NodePass.TheSendSync as pass
use Rattle.txc_call_registry.specs.declared.cacheable.Cacheable as cacheable
use Rattle.txc_call_registry.proofs.registry.Registry.TheSendSync as registry
use Rattle.txc_txn_client.specs.contracts.client.Client as Client
use Rattle.txc_txn_client.specs.contracts.client.Client.TheInside as client_inside
use Rattle.txc_txn_client.specs.contracts.ports.Ports as Ports
use Rattle.txc_txn_client.specs.contracts.ports.Ports.TheInside as ports_inside

module _ (l : NamedLft) (A J : RattleType) (a : app.Ghosts A.Denot) (g : naming.Ghosts J.Denot) where
  ports_send : IsSend (Ports.the_row l A J g a)
  ports_send = view_send (ports_inside.the_row l A J g a) _ _ _ _ (declared_send (ports_inside.the_type l A J g a) (
    as_row_send (shr_ref_field l (Database.the_row J g) tt) (shr_send _ _ _ (database_sync J g)),
    (
      as_row_send (shr_ref_field l (Pincushion.the_row J g) tt) (shr_send _ _ _ (cushion.the_sync J g)),
      (
        as_row_send (shr_slice_field l (SharedNode.the_row A J a g) tt) (shr_slice_send _ _ _ (node_sync A a J g)),
        (Vec-send (NodePass.the_row J g) (pass.the_send J g), tt),
      ),
    ),
  ))

module _ (l : NamedLft) (A C J : RattleType) (a : app.Ghosts A.Denot) (c : cacheable.Ghosts C.Denot) (g : naming.Ghosts J.Denot) where
  pub client_send : IsSend C → IsSend (Client.the_row l A C J a c g)
  client_send objects = view_send (client_inside.the_row l A C J a c g) _ _ _ _ (declared_send (client_inside.the_type l A C J a c g) (
    ports_send l A J a g,
    (registry.the_send A C a c objects, (plain_send _ _ _ _ _, tt)),
  ))
