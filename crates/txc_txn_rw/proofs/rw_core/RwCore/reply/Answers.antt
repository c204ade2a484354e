use Rattle.std.proofs.Common.{◌≡◌, ◌<◌, [], ◌∷◌, Option, Some, None, Err, sym, ap, subst, ◌∙◌, arith}
use Rattle.txc_stamp.specs.Interval.{Interval, Holds}
use Rattle.txc_rows.specs.declared.query.Query.{Query}
use Rattle.txc_call.specs.declared.need.Need.TheVariants as needs
use Rattle.txc_rows.specs.States.{answer}
use Rattle.txc_validity.specs.declared.answer.Found.{Found}
use Rattle.txc_txn_ports.specs.declared.turn.Turn.TheVariants.{Ended}
use Rattle.txc_call.specs.MachineTurn.{Turn as CallTurn}
use Rattle.txc_call.specs.CallMachine.{Calling, InCall}
use Rattle.txc_txn_rw.specs.declared.reading.Reading.{Reading}
use Rattle.txc_txn_rw.specs.Answers.{committed}
use Rattle.txc_txn_rw.specs.RwCore.{IsFoundAt, IsRightReply, query_of_reading, RwHolds, RwValue}
use Rattle.txc_txn_rw.specs.Transitions.{standing_of}
use Rattle.txc_txn_rw.proofs.Running.{led_both, led_by_found, same_found}
use Rattle.txc_txn_rw.proofs.Counting.{counted_ask}
use Rattle.txc_txn_rw.proofs.Holding.{at_rest_holds, found_at_one, given_up, holds_queried, kept_more, need_of_asked, reply_found}
use Rattle.txc_txn_rw.proofs.rw_core.RwCore.reply.Goals as goal

pub returns-in-Err-clause-holds : goal.returns-in-Err-clause-holds
returns-in-Err-clause-holds g c = λ L right h.
    let was : RwValue = record { base = c.self.inside.base; queried = c.self.inside.queried.items; answers = c.self.inside.answers.items; changes = c.self.inside.changes.items; call = c.self.inside.machine; reading = query_of_reading c.self.inside.reading } in
    let h' : RwHolds g.A.App.next L c.args.registry.now was = subst (λ (w : RwValue). RwHolds g.A.App.next L c.args.registry.now w) (sym c.self.view_is) h in
    given_up g.A.App.next L c.args.registry.now was h' c.cancel.new.registry c.cancel.new.self (query_of_reading c.replace.new.dest) c.cancel.ensures.rest.0 c.cancel.ensures.need

pub invariant_of-self-in-Ok-reply : goal.invariant_of-self-in-Ok-reply
invariant_of-self-in-Ok-reply g c =
    kept_more c.self.inside.tags c.self.inside.queried c.push_reserved.new.self c.self.inside.changes.items c.self.inside.reading c.replace.new.dest c.in-Some.field-0 c.self.invariant
    (sym c.replace.ensures.value ∙ c.in-Some.is) c.replace.ensures.after c.push_reserved.ensures.items

pub invariant_of-self-in-Err-reply : goal.invariant_of-self-in-Err-reply
invariant_of-self-in-Err-reply g c =
    kept_more c.self.inside.tags c.self.inside.queried c.push_reserved.new.self c.self.inside.changes.items c.self.inside.reading c.replace.new.dest c.in-Some.field-0 c.self.invariant
    (sym c.replace.ensures.value ∙ c.in-Some.is) c.replace.ensures.after c.push_reserved.ensures.items

pub reply-requires-clause-common : goal.reply-requires-clause-common
reply-requires-clause-common g c = (
  1,
  subst (λ (i : Interval). Holds i 1) (sym c.at_one.ensures.reach) (omega arith, omega arith),
  subst (λ (w : RwValue). InCall 1 w.call) (sym c.self.view_is) c.requires.fits.at_one,
)

pub reply-requires-clause-reply : goal.reply-requires-clause-reply
reply-requires-clause-reply g c = (
  needs.Query c.requires.asks.0,
  subst (λ (w : RwValue). w.call.need ≡ Some (needs.Query c.requires.asks.0)) (sym c.self.view_is) c.requires.asks.1.1,
  tt,
)

pub go_on-requires-clause-at_one : goal.go_on-requires-clause-at_one
go_on-requires-clause-at_one g c =
    c.in-Ok-reply.ensures.within 1 (subst (λ (i : Interval). Holds i 1) (sym c.at_one.ensures.reach) (omega arith, omega arith))
    (subst (λ (w : RwValue). InCall 1 w.call) (sym c.self.view_is) c.requires.fits.at_one)

pub returns-in-Ok-reply-clause-holds : goal.returns-in-Ok-reply-clause-holds
returns-in-Ok-reply-clause-holds g c = λ L right h.
    let was : RwValue = record { base = c.self.inside.base; queried = c.self.inside.queried.items; answers = c.self.inside.answers.items; changes = c.self.inside.changes.items; call = c.self.inside.machine; reading = query_of_reading c.self.inside.reading } in
    let q : Query = c.in-Some.field-0.query in
    let same : c.args.self.now ≡ was = sym c.self.view_is in
    let asked : was.reading ≡ Some q = ap (λ (r : Option Reading). query_of_reading r) (sym c.replace.ensures.value ∙ c.in-Some.is) in
    let h' : RwHolds g.A.App.next L c.args.registry.now was = subst (λ (w : RwValue). RwHolds g.A.App.next L c.args.registry.now w) same h in
    let none : query_of_reading c.replace.new.dest ≡ None = ap (λ (r : Option Reading). query_of_reading r) c.replace.ensures.after in
    let found : IsFoundAt L was.base q c.in-Ok.found = reply_found L was c.args.reply c.in-Ok.found q c.in-Ok.is asked (subst (λ (w : RwValue). IsRightReply L w c.args.reply) same right) in
    let is = need_of_asked was q c.requires.asks.0 asked (subst (λ (w : RwValue). w.reading ≡ Some c.requires.asks.0) same c.requires.asks.1.0) (subst (λ (w : RwValue). w.call.need ≡ Some (needs.Query c.requires.asks.0)) same c.requires.asks.1.1) in
    c.go_on.ensures.holds L
    (holds_queried g.A.App.next L c.args.registry.now was h' q c.reply.new.registry c.reply.new.self c.push_reserved.new.self.items (query_of_reading c.replace.new.dest) c.push_reserved.ensures.items none
    (λ changes agree hold.
    c.in-Ok-reply.ensures.holds (committed changes) (needs.Query q) is
    (found_at_one L was.base changes q c.in-Ok.found c.at_one.result c.at_one.ensures.rows c.at_one.ensures.reach found agree) hold))

pub returns-in-Err-reply-clause-holds : goal.returns-in-Err-reply-clause-holds
returns-in-Err-reply-clause-holds g c = λ L right h.
    let was : RwValue = record { base = c.self.inside.base; queried = c.self.inside.queried.items; answers = c.self.inside.answers.items; changes = c.self.inside.changes.items; call = c.self.inside.machine; reading = query_of_reading c.self.inside.reading } in
    let q : Query = c.in-Some.field-0.query in
    let h' : RwHolds g.A.App.next L c.args.registry.now was = subst (λ (w : RwValue). RwHolds g.A.App.next L c.args.registry.now w) (sym c.self.view_is) h in
    let none : query_of_reading c.replace.new.dest ≡ None = ap (λ (r : Option Reading). query_of_reading r) c.replace.ensures.after in
    holds_queried g.A.App.next L c.args.registry.now was h' q c.reply.new.registry c.reply.new.self c.push_reserved.new.self.items (query_of_reading c.replace.new.dest) c.push_reserved.ensures.items none
    (λ changes agree hold. at_rest_holds g.A.App.next (committed changes) c.reply.new.registry c.reply.new.self c.in-Err-reply.ensures.rest.1.0 c.in-Err-reply.ensures.rest.0)

pub returns-in-Ok-reply-clause-counted : goal.returns-in-Ok-reply-clause-counted
returns-in-Ok-reply-clause-counted g c = λ asks.
    let more = counted_ask c.self.inside.machine.asked c.reply.new.self c.go_on.new.self.call.asked c.in-Ok-reply.ensures.counted (c.go_on.ensures.counted asks) in
    subst (λ (w : RwValue). w.call.asked < c.go_on.new.self.call.asked) c.self.view_is more

pub returns-in-Ok-reply-clause-transition : goal.returns-in-Ok-reply-clause-transition
returns-in-Ok-reply-clause-transition g c = λ s query found need is right.
    let call : Calling = c.self.inside.machine in
    let need' : call.need ≡ Some (needs.Query query) = subst (λ (w : RwValue). w.call.need ≡ Some (needs.Query query)) (sym c.self.view_is) need in
    let right' : c.in-Ok.found.rows.items ≡ answer query s = subst (λ (f : Found). f.rows.items ≡ answer query s) (same_found c.args.reply found c.in-Ok.found is c.in-Ok.is) right in
    let mid : CallTurn = standing_of c.reply.new.self c.reply.new.registry in
    let one = led_by_found g.A.App.next s call c.args.registry.now mid query c.in-Ok.found c.at_one.result need' c.at_one.ensures.rows right' c.in-Ok-reply.ensures.answer in
    let on = c.go_on.ensures.transition s in
    rw (← c.self.view_is) (on.0, led_both g.A.App.next s (standing_of call c.args.registry.now) mid on.0 (query ∷ []) [] one on.1, on.2)

pub returns-in-Err-reply-clause-transition : goal.returns-in-Err-reply-clause-transition
returns-in-Err-reply-clause-transition g c = λ s query found need is right.
    let call : Calling = c.self.inside.machine in
    let need' : call.need ≡ Some (needs.Query query) = subst (λ (w : RwValue). w.call.need ≡ Some (needs.Query query)) (sym c.self.view_is) need in
    let right' : c.in-Ok.found.rows.items ≡ answer query s = subst (λ (f : Found). f.rows.items ≡ answer query s) (same_found c.args.reply found c.in-Ok.found is c.in-Ok.is) right in
    let one = led_by_found g.A.App.next s call c.args.registry.now (Err c.in-Err-reply.error) query c.in-Ok.found c.at_one.result need' c.at_one.ensures.rows right' c.in-Err-reply.ensures.answer in
    rw (← c.self.view_is) (Err c.in-Err-reply.error, one, ap (λ e. Ended (Err e)) c.into-in-Err-reply.ensures)
