use Rattle.std.proofs.Common.{◌≤◌, Option, Err, ap, sym, subst}
use Rattle.txc_rows.specs.declared.query.Query.{Query}
use Rattle.txc_txn_ports.specs.declared.turn.Turn.TheVariants.{Ended}
use Rattle.txc_txn_rw.specs.Transitions.{standing_of}
use Rattle.txc_txn_rw.proofs.Counting.{counted_query}
use Rattle.txc_txn_rw.specs.RwCore.{IsDone, NeedsOnly, query_of_reading, RwHolds, RwValue}
use Rattle.txc_txn_rw.proofs.Holding.{given_up, holds_moved}
use Rattle.txc_txn_rw.proofs.rw_core.RwCore.go_on.Goals as goal

pub returns-in-Err-clause-holds : goal.returns-in-Err-clause-holds
returns-in-Err-clause-holds g c = λ L h.
    let was : RwValue = record { base = c.self.inside.base; queried = c.self.inside.queried.items; answers = c.self.inside.answers.items; changes = c.self.inside.changes.items; call = c.self.inside.machine; reading = query_of_reading c.self.inside.reading } in
    given_up g.A.App.next L c.args.registry.now was (subst (λ (w : RwValue). RwHolds g.A.App.next L c.args.registry.now w) (sym c.self.view_is) h)
    c.go_on_uncached.new.registry c.go_on_uncached.new.machine was.reading c.in-Err.ensures.rest.1.0 c.in-Err.ensures.rest.0

pub returns-in-Ok-Some-clause-holds : goal.returns-in-Ok-Some-clause-holds
returns-in-Ok-Some-clause-holds g c = λ L h.
    let was : RwValue = record { base = c.self.inside.base; queried = c.self.inside.queried.items; answers = c.self.inside.answers.items; changes = c.self.inside.changes.items; call = c.self.inside.machine; reading = query_of_reading c.self.inside.reading } in
    c.ask_of_call.ensures.holds L
    (holds_moved g.A.App.next L c.args.registry.now was (subst (λ (w : RwValue). RwHolds g.A.App.next L c.args.registry.now w) (sym c.self.view_is) h)
    c.go_on_uncached.new.registry c.go_on_uncached.new.machine was.reading c.in-Ok-Some.ensures.holds)

pub returns-in-Ok-None-clause-holds : goal.returns-in-Ok-None-clause-holds
returns-in-Ok-None-clause-holds g c = λ L h.
    let was : RwValue = record { base = c.self.inside.base; queried = c.self.inside.queried.items; answers = c.self.inside.answers.items; changes = c.self.inside.changes.items; call = c.self.inside.machine; reading = query_of_reading c.self.inside.reading } in
    c.keep_value.ensures.holds g.A.App.next c.go_on_uncached.new.registry L c.go_on_uncached.ensures.fits c.in-Ok-None.ensures.at_one
    (holds_moved g.A.App.next L c.args.registry.now was (subst (λ (w : RwValue). RwHolds g.A.App.next L c.args.registry.now w) (sym c.self.view_is) h)
    c.go_on_uncached.new.registry c.go_on_uncached.new.machine was.reading c.in-Ok-None.ensures.holds)

pub returns-in-Ok-Some-clause-counted : goal.returns-in-Ok-Some-clause-counted
returns-in-Ok-Some-clause-counted g c = λ asks.
    let needs = subst (λ (q : Option Query). NeedsOnly q c.go_on_uncached.new.machine.need) c.in-Ok-Some.field-0-is c.in-Ok-Some.ensures.needs in
    let both = counted_query c.self.inside.machine c.go_on_uncached.new.machine c.in-Ok-Some.query needs c.in-Ok-Some.ensures.counted in
    rw (c.ask_of_call.ensures.after asks) (subst (λ (w : RwValue). (¬ (IsDone w.call.need)) × (w.call.asked ≤ c.go_on_uncached.new.machine.asked)) c.self.view_is both)

pub returns-in-Err-clause-transition : goal.returns-in-Err-clause-transition
returns-in-Err-clause-transition g c = λ s.
    rw (← c.self.view_is) (Err c.in-Err.error, c.in-Err.ensures.led s, ap (λ e. Ended (Err e)) c.into.ensures)

pub returns-in-Ok-Some-clause-transition : goal.returns-in-Ok-Some-clause-transition
returns-in-Ok-Some-clause-transition g c = λ s.
    rw (← c.self.view_is) (standing_of c.go_on_uncached.new.machine c.go_on_uncached.new.registry, c.in-Ok-Some.ensures.led s, c.ask_of_call.ensures.transition)

pub returns-in-Ok-None-clause-transition : goal.returns-in-Ok-None-clause-transition
returns-in-Ok-None-clause-transition g c = λ s.
    rw (← c.self.view_is)
    (standing_of c.go_on_uncached.new.machine c.go_on_uncached.new.registry, c.in-Ok-None.ensures.led s, c.keep_value.ensures.transition c.go_on_uncached.new.registry)
