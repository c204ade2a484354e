-- A ledger may be shared between threads, whatever names its rows.
use denote.RattleType.{RattleType}
use denote.Param.Send.{IsSync}
use denote.Param.SendFields.{declared_sync}
use Rattle.txc_db.proofs.Crosses.{database_sync}
use Rattle.txc_db.specs.declared.naming.Naming as naming
use Rattle.txc_cushion.proofs.pincushion.Pincushion.TheSendSync as cushion
use Rattle.txc_site_ledger.specs.contracts.ledger.Ledger as Ledger

module _ (J : RattleType) (g : naming.Ghosts J.Denot) where
  pub ledger_sync : IsSync (Ledger.the_row J g)
  ledger_sync = declared_sync (Ledger.the_type J g) (database_sync J g, (cushion.the_sync J g, tt))
