use Rattle.std.proofs.Common.{refl}
use Rattle.txc_txn.proofs.Sessions.{nothing_noted}
use Rattle.txc_txn.proofs.session.Session.new.Goals as goal

pub returns-clause-nothing : goal.returns-clause-nothing
returns-clause-nothing c = nothing_noted _ refl
