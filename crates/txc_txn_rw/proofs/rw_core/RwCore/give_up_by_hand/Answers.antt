use Rattle.std.proofs.Common.{None, ap, sym, subst}
use Rattle.txc_call.specs.CallMachine.{Calling}
use Rattle.txc_txn_rw.specs.RwCore.{query_of_reading, RwHolds, RwValue}
use Rattle.txc_txn_rw.proofs.Holding.{given_up}
use Rattle.txc_txn_rw.proofs.rw_core.RwCore.give_up_by_hand.Goals as goal

pub returns-clause-holds : goal.returns-clause-holds
returns-clause-holds c = λ next objects after L h.
    let was : RwValue = record { base = c.self.inside.base; queried = c.self.inside.queried.items; answers = c.self.inside.answers.items; changes = c.self.inside.changes.items; call = c.self.inside.machine; reading = query_of_reading c.self.inside.reading } in
    given_up next L objects was (subst (λ (w : RwValue). RwHolds next L objects w) (sym c.self.view_is) h) after c.give_up.new.self None
    (ap (λ (v : Calling). v.frames) c.give_up.ensures.after) (ap (λ (v : Calling). v.need) c.give_up.ensures.after)
