use Rattle.std.proofs.Common.{sym, ap, subst}
use Rattle.std.specs.Prelude.{All}
use Rattle.txc_db.specs.History.{History}
use Rattle.txc_txn_ports.specs.Answers.{IsFresh}
use Rattle.txc_txn_ports.proofs.Pins.{fresh_pins}
use Rattle.txc_txn.specs.TxnCore.{CoreValue}
use Rattle.txc_txn_client.proofs.client.begun_with.Goals as goal

-- the core has seen what the front of its pins shows
pub returns-in-Ok-clause-holds : goal.returns-in-Ok-clause-holds
returns-in-Ok-clause-holds c = λ next objects.
    c.in-Ok.ensures.holds next c.in-Ok.core.seen.history objects
    (subst (λ (L : History). All (IsFresh L c.args.bounds.now) c.args.pins.pins.items) (sym (ap (λ (v : CoreValue). v.seen.history) c.in-Ok.ensures.answer))
    (fresh_pins c.args.pins.front.history c.args.bounds.now c.args.pins.pins.items c.args.pins.shows c.requires.allowed))
