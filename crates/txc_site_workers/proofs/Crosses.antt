-- What the threads of a site share, and what they are given. The terms are written out, one proof for each field.
use denote.RattleType.{RattleType}
use denote.Ref.{NamedLft}
use denote.Param.Send.{IsSend, IsSync, shr_send, view_send}
use denote.Param.SendFields.{declared_send, declared_sync, as_row_send}
use denote.Struct.Field.{shr_ref_field}
use Rattle.std.proofs.Crossing.{Vec-sync}
use Rattle.txc_db.specs.declared.naming.Naming as naming
use Rattle.txc_app.specs.declared.app.App as app
use Rattle.txc_shared.specs.contracts.shared_node.SharedNode as SharedNode
use Rattle.txc_shared.proofs.Crosses.{node_sync}
use Rattle.txc_call_registry.proofs.registry.Registry.TheSendSync as registry
use Rattle.txc_call_definition.specs.declared.definition.Definition as definition
use Rattle.txc_call_definition.specs.contracts.function.Function as Function
use Rattle.txc_call_definition.specs.contracts.function.FunctionCacheable.TheImpl as function
use Rattle.txc_call_definition.proofs.function.Function.TheSendSync as function_crosses
use Rattle.txc_txn_client.proofs.Crosses.{client_send}
use Rattle.txc_site_workers.specs.contracts.client.SiteClient as SiteClient
use Rattle.txc_site_workers.specs.contracts.client.SiteClient.TheInside as inside
use Rattle.txc_site_workers.specs.contracts.site_parts.SiteParts as SiteParts
use Rattle.txc_site_ledger.proofs.Crosses.{ledger_sync}
use Rattle.txc_site_ledger.proofs.ledger.CommitCounter.TheSendSync as committer
use Rattle.txc_site_keeper.proofs.clock.SharedClock.TheSendSync as moment
use Rattle.txc_site_workers.proofs.site_stats.Tally.TheSendSync as tally
use Rattle.txc_site_workers.specs.contracts.site_stats.Tally as Tally
use Rattle.txc_site_workers.proofs.plan.Plan.TheSendSync as plan

module _ (A J : RattleType) (a : app.Ghosts A.Denot) (g : naming.Ghosts J.Denot) where
  pub foundation_sync : IsSync (SiteParts.the_row A J a g)
  foundation_sync = declared_sync (SiteParts.the_type A J a g) (
    ledger_sync J g,
    (Vec-sync (SharedNode.the_row A J a g) (node_sync A a J g), (plan.the_sync, (Vec-sync Tally.the_row tally.the_sync, (moment.the_sync, tt)))),
  )

module _ (l : NamedLft) (A D J : RattleType) (a : app.Ghosts A.Denot) (d : definition.Ghosts D.Denot) (g : naming.Ghosts J.Denot) where
  pub site_client_send : IsSend D → IsSend (SiteClient.the_row l A D J a d g)
  site_client_send objects =
      let object = function_crosses.the_send D d objects in
      let ghosts = function.ghosts D d function.no_dict function.no_dict in
      view_send (inside.the_row l A D J a d g) _ _ _ _ (declared_send (inside.the_type l A D J a d g) (
        as_row_send (shr_ref_field l (SiteParts.the_row A J a g) tt) (shr_send _ _ _ (foundation_sync A J a g)),
        (
          client_send l A (Function.the_row D d) J a ghosts g object,
          (registry.the_send A (Function.the_row D d) a ghosts object, (committer.the_send J g, (as_row_send (shr_ref_field l Tally.the_row tt) (shr_send _ _ _ tally.the_sync), tt))),
        ),
      ))
