use Rattle.txc_txn.proofs.Meanings
use Rattle.txc_txn.proofs.laws.meaning_begins.Goals as goal

pub returns : goal.returns
returns c = record { begins = Meanings.meaning_begins; call = Meanings.call_begins; given_up = Meanings.call_is_given_up }
