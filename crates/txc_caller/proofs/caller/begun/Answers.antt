use Rattle.std.proofs.Common.{◌∙◌, sym, ap, subst}
use Rattle.std.specs.Prelude.{All}
use Rattle.txc_cushion.specs.declared.pins.Pins.{Pins}
use Rattle.txc_db.specs.History.{History}
use Rattle.txc_txn_ports.specs.Answers.{IsFresh}
use Rattle.txc_txn_ports.proofs.Pins.{fresh_pins}
use Rattle.txc_txn.specs.TxnCore.{CoreValue}
use Rattle.txc_caller.proofs.GivingBack.{fresh_back}
use Rattle.txc_caller.proofs.caller.begun.Goals as goal

-- the core has seen what the front of its pins shows
pub returns-in-Ok-clause-holds : goal.returns-in-Ok-clause-holds
returns-in-Ok-clause-holds c = λ next objects.
    c.in-Ok.ensures.holds next c.in-Ok.core.seen.history objects
    (subst (λ (L : History). All (IsFresh L c.args.bounds) c.in_ok-pins.pins.pins.items) (sym (ap (λ (v : CoreValue). v.seen.history) c.in-Ok.ensures.answer))
    (fresh_pins c.in_ok-pins.pins.front.history c.args.bounds c.in_ok-pins.pins.pins.items c.in_ok-pins.pins.shows c.in_ok-pins.ensures.allowed))

-- out of memory the pins are given back, and all is as it was
pub returns-in-Err-clause-unchanged : goal.returns-in-Err-clause-unchanged
returns-in-Err-clause-unchanged c =
    fresh_back c.args.cushion.now c.args.bounds.now c.args.bounds.staleness c.args.bounds.at_least c.is_cushion.ensures c.fresh.new.self c.give_back_each.new.cushion
    c.in-Err.pins.pins.items c.in_ok-pins.ensures.after
    (ap (λ (given : Pins). given.pins.items) c.in-Err.ensures.handed_back ∙ c.in_ok-pins.ensures.pins) c.give_back_each.ensures.given_back
