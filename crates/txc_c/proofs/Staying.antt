-- What the act of one transaction leaves of the others.
use Rattle.std.proofs.Common.{◌∙◌, sym}
use Rattle.txc_db.specs.Laws.{StatesStay}
use Rattle.txc_txn_rw.proofs.Holding.{holds_in_longer}
use Rattle.txc_c.specs.Opaque.{opaque_next}
use Rattle.txc_c.specs.Opened.{OpenStays}
use Rattle.txc_c.specs.declared.opened.Open.TheVariants.{Reading, Writing}

pub open_stays : StatesStay → OpenStays
open_stays stay c c' (Reading t) keeps grown is = record { row = is.row ∙ sym keeps.row; renew_after = is.renew_after ∙ sym keeps.renew_after }
open_stays stay c c' (Writing w) keeps grown is = holds_in_longer stay opaque_next c.ports.database.history c'.ports.database.history w.objects w.core grown.longer is
