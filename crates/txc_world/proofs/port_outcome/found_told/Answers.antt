use Rattle.std.proofs.Common.{refl, subst, sym}
use Rattle.std.specs.Prelude.{Result}
use Rattle.txc_validity.specs.declared.answer.Found.{Found}
use Rattle.txc_db.specs.declared.answered.Answered.{Answered}
use Rattle.txc_db.specs.declared.error.DbError.{DbError}
use Rattle.txc_txn_ports.specs.declared.reply.PortReply.TheVariants.{Query}
use Rattle.txc_world.specs.declared.port_outcome.PortOutcome.TheVariants.{Rows}
use Rattle.txc_world.specs.PortRequests.{DoesTell}
use Rattle.txc_world.proofs.port_outcome.found_told.Goals as goal

-- the rows that were found are shown
pub returns-in_ok-rows_found-in-Ok-clause-tells : goal.returns-in_ok-rows_found-in-Ok-clause-tells
returns-in_ok-rows_found-in-Ok-clause-tells c =
    let rows = c.in_ok-rows_found-in-Ok.field-0 in
    subst (λ (r : Result (Answered Found) DbError). DoesTell (Query r) (Rows rows)) (sym c.in-Ok.is)
    (rows, refl, c.in_ok-rows_found-in-Ok.ensures)
