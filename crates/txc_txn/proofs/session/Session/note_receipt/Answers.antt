use Rattle.txc_txn.proofs.Sessions.{receipt_noted}
use Rattle.txc_txn.proofs.session.Session.note_receipt.Goals as goal

pub returns-clause-noted : goal.returns-clause-noted
returns-clause-noted c = λ deeds h. receipt_noted deeds c.args.receipt.now c.args.self.now _ c.note_pin.ensures h
