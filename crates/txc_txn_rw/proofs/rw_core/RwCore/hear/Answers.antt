use Rattle.std.proofs.Common.{◌≡◌, inr, Option, Some, None, Ok, sym, ap, subst, ◌∙◌, arith}
use Rattle.std.specs.Prelude.{Result}
use Rattle.txc_stamp.specs.Interval.{Interval, Holds}
use Rattle.txc_rows.specs.declared.query.Query.{Query}
use Rattle.txc_validity.specs.declared.answer.Found.{Found}
use Rattle.txc_db.specs.declared.error.DbError.{DbError}
use Rattle.txc_call_registry.specs.Objects.{Objects}
use Rattle.txc_call.specs.declared.need.Need.TheVariants as needs
use Rattle.txc_call.specs.CallMachine.{Calling, InCall, IsCalling}
use Rattle.txc_call.specs.CallSteps.{NeedsFunction}
use Rattle.txc_call.specs.MachineTurn.{rows_held}
use Rattle.txc_txn_rw.specs.declared.reading.Reading.{Reading}
use Rattle.txc_txn_rw.specs.Answers.{committed}
use Rattle.txc_txn_rw.specs.ByHand.{IsRwByHand, RwHearTransition}
use Rattle.txc_txn_rw.specs.RwCore.{IsFoundAt, IsRightReply, query_of_reading, RwHolds, RwValue}
use Rattle.txc_txn_rw.proofs.ByHand.{heard_leads}
use Rattle.txc_txn_rw.proofs.Holding.{found_at_one, given_up, holds_queried, kept_more, need_of_asked, reply_found}
use Rattle.txc_txn_rw.proofs.rw_core.RwCore.hear.Goals as goal

pub returns-in-Err-clause-holds : goal.returns-in-Err-clause-holds
returns-in-Err-clause-holds c = λ next objects after L left right fits h.
    let was : RwValue = record { base = c.self.inside.base; queried = c.self.inside.queried.items; answers = c.self.inside.answers.items; changes = c.self.inside.changes.items; call = c.self.inside.machine; reading = query_of_reading c.self.inside.reading } in
    given_up next L objects was (subst (λ (w : RwValue). RwHolds next L objects w) (sym c.self.view_is) h) after c.give_up.new.self (query_of_reading c.replace.new.dest)
    (ap (λ (v : Calling). v.frames) c.give_up.ensures.after) (ap (λ (v : Calling). v.need) c.give_up.ensures.after)

pub take-requires : goal.take-requires
take-requires c = record {
  reply = (
    needs.Query c.requires.asks.0,
    subst (λ (w : RwValue). w.call.need ≡ Some (needs.Query c.requires.asks.0)) (sym c.self.view_is) c.requires.asks.1.1,
    tt,
  );
}

pub invariant_of-self-2 : goal.invariant_of-self-2
invariant_of-self-2 c =
    kept_more c.self.inside.tags c.self.inside.queried c.push_reserved.new.self c.self.inside.changes.items c.self.inside.reading c.replace.new.dest c.in-Some.field-0 c.self.invariant
    (sym c.replace.ensures.value ∙ c.in-Some.is) c.replace.ensures.after c.push_reserved.ensures.items

pub returns-clause-fits : goal.returns-clause-fits
returns-clause-fits c = λ next objects after left h.
    let was : RwValue = record { base = c.self.inside.base; queried = c.self.inside.queried.items; answers = c.self.inside.answers.items; changes = c.self.inside.changes.items; call = c.self.inside.machine; reading = query_of_reading c.self.inside.reading } in
    let same : c.args.self.now ≡ was = sym c.self.view_is in
    let q : Query = c.in-Some.field-0.query in
    let asked : was.reading ≡ Some q = ap (λ (r : Option Reading). query_of_reading r) (sym c.replace.ensures.value ∙ c.in-Some.is) in
    let is = need_of_asked was q c.requires.asks.0 asked (subst (λ (w : RwValue). w.reading ≡ Some c.requires.asks.0) same c.requires.asks.1.0) (subst (λ (w : RwValue). w.call.need ≡ Some (needs.Query c.requires.asks.0)) same c.requires.asks.1.1) in
    let none : query_of_reading c.replace.new.dest ≡ None = ap (λ (r : Option Reading). query_of_reading r) c.replace.ensures.after in
    let new : RwValue = record was { queried = c.push_reserved.new.self.items; call = c.take.new.self; reading = query_of_reading c.replace.new.dest } in
    let call : c.take.new.self ≡ record was.call { need = Some (needs.Resume (rows_held c.at_one.result)) } = c.take.ensures.after (needs.Query q) is in
    let fits : IsRwByHand next objects new = record {
      call = c.take.ensures.fits next objects (subst (λ (w : RwValue). IsCalling next objects w.call) same h.call);
      at_one = c.take.ensures.within 1 (subst (λ (i : Interval). Holds i 1) (sym c.at_one.ensures.reach) (omega arith, omega arith)) (subst (λ (w : RwValue). InCall 1 w.call) same h.at_one);
      reading = inr (none, subst (λ (v : Calling). NeedsFunction v.need) (sym call) tt);
    } in
    subst (λ (os : Objects). IsRwByHand next os new) (sym left) fits

pub returns-clause-holds : goal.returns-clause-holds
returns-clause-holds c = λ next objects after L left right fits h.
    let was : RwValue = record { base = c.self.inside.base; queried = c.self.inside.queried.items; answers = c.self.inside.answers.items; changes = c.self.inside.changes.items; call = c.self.inside.machine; reading = query_of_reading c.self.inside.reading } in
    let same : c.args.self.now ≡ was = sym c.self.view_is in
    let q : Query = c.in-Some.field-0.query in
    let asked : was.reading ≡ Some q = ap (λ (r : Option Reading). query_of_reading r) (sym c.replace.ensures.value ∙ c.in-Some.is) in
    let is = need_of_asked was q c.requires.asks.0 asked (subst (λ (w : RwValue). w.reading ≡ Some c.requires.asks.0) same c.requires.asks.1.0) (subst (λ (w : RwValue). w.call.need ≡ Some (needs.Query c.requires.asks.0)) same c.requires.asks.1.1) in
    let none : query_of_reading c.replace.new.dest ≡ None = ap (λ (r : Option Reading). query_of_reading r) c.replace.ensures.after in
    let new : RwValue = record was { queried = c.push_reserved.new.self.items; call = c.take.new.self; reading = query_of_reading c.replace.new.dest } in
    let call : c.take.new.self ≡ record was.call { need = Some (needs.Resume (rows_held c.at_one.result)) } = c.take.ensures.after (needs.Query q) is in
    let h' : RwHolds next L objects was = subst (λ (w : RwValue). RwHolds next L objects w) same h in
    let calling = subst (λ (w : RwValue). IsCalling next objects w.call) same fits.call in
    let found : IsFoundAt L was.base q c.in-Ok.found = reply_found L was c.args.reply c.in-Ok.found q c.in-Ok.is asked (subst (λ (w : RwValue). IsRightReply L w c.args.reply) same right) in
    subst (λ (os : Objects). RwHolds next L os new) (sym left)
    (holds_queried next L objects was h' q objects c.take.new.self c.push_reserved.new.self.items (query_of_reading c.replace.new.dest) c.push_reserved.ensures.items none
    (λ changes agree hold.
    c.take.ensures.holds next objects (committed changes) (needs.Query q) is calling
    (found_at_one L was.base changes q c.in-Ok.found c.at_one.result c.at_one.ensures.rows c.at_one.ensures.reach found agree) hold))

pub returns-clause-turn : goal.returns-clause-turn
returns-clause-turn c =
    let was : RwValue = record { base = c.self.inside.base; queried = c.self.inside.queried.items; answers = c.self.inside.answers.items; changes = c.self.inside.changes.items; call = c.self.inside.machine; reading = query_of_reading c.self.inside.reading } in
    let same : c.args.self.now ≡ was = sym c.self.view_is in
    let q : Query = c.in-Some.field-0.query in
    let asked : was.reading ≡ Some q = ap (λ (r : Option Reading). query_of_reading r) (sym c.replace.ensures.value ∙ c.in-Some.is) in
    let is = need_of_asked was q c.requires.asks.0 asked (subst (λ (w : RwValue). w.reading ≡ Some c.requires.asks.0) same c.requires.asks.1.0) (subst (λ (w : RwValue). w.call.need ≡ Some (needs.Query c.requires.asks.0)) same c.requires.asks.1.1) in
    let none : query_of_reading c.replace.new.dest ≡ None = ap (λ (r : Option Reading). query_of_reading r) c.replace.ensures.after in
    let new : RwValue = record was { queried = c.push_reserved.new.self.items; call = c.take.new.self; reading = query_of_reading c.replace.new.dest } in
    let call : c.take.new.self ≡ record was.call { need = Some (needs.Resume (rows_held c.at_one.result)) } = c.take.ensures.after (needs.Query q) is in
    (none, subst (λ (v : Calling). NeedsFunction v.need) (sym call) tt)

pub returns-clause-transition : goal.returns-clause-transition
returns-clause-transition c = λ query asked'.
    let was : RwValue = record { base = c.self.inside.base; queried = c.self.inside.queried.items; answers = c.self.inside.answers.items; changes = c.self.inside.changes.items; call = c.self.inside.machine; reading = query_of_reading c.self.inside.reading } in
    let same : c.args.self.now ≡ was = sym c.self.view_is in
    let q : Query = c.in-Some.field-0.query in
    let asked : was.reading ≡ Some q = ap (λ (r : Option Reading). query_of_reading r) (sym c.replace.ensures.value ∙ c.in-Some.is) in
    let is = need_of_asked was q c.requires.asks.0 asked (subst (λ (w : RwValue). w.reading ≡ Some c.requires.asks.0) same c.requires.asks.1.0) (subst (λ (w : RwValue). w.call.need ≡ Some (needs.Query c.requires.asks.0)) same c.requires.asks.1.1) in
    let none : query_of_reading c.replace.new.dest ≡ None = ap (λ (r : Option Reading). query_of_reading r) c.replace.ensures.after in
    let new : RwValue = record was { queried = c.push_reserved.new.self.items; call = c.take.new.self; reading = query_of_reading c.replace.new.dest } in
    let call : c.take.new.self ≡ record was.call { need = Some (needs.Resume (rows_held c.at_one.result)) } = c.take.ensures.after (needs.Query q) is in
    let led = heard_leads was q c.in-Ok.found c.at_one.result c.push_reserved.new.self.items c.take.new.self (query_of_reading c.replace.new.dest)
    c.at_one.ensures.rows c.at_one.ensures.tags c.at_one.ensures.reach c.push_reserved.ensures.items call none in
    let two : Some q ≡ Some query = sym asked ∙ subst (λ (w : RwValue). w.reading ≡ Some query) same asked' in
    let one : q ≡ query = cc in
    subst (λ (w : RwValue). RwHearTransition w query c.args.reply new None) c.self.view_is
    (subst (λ (r : Result Found DbError). RwHearTransition was query r new None) (sym c.in-Ok.is) (subst (λ (p : Query). RwHearTransition was p (Ok c.in-Ok.found) new None) one led))
