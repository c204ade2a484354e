use Rattle.std.proofs.Common.{ap, rules, sym, subst}
use Rattle.txc_pinset.specs.Members.{PinSetValue}
use Rattle.txc_txn.specs.TxnCore.{CoreValue, CoreHolds, IsRightPortReply, PinsAfter, value_of}
use Rattle.txc_txn.specs.Transitions.{ReplyTransition}
use Rattle.txc_txn.proofs.Cores.{core_seen, holds_seen, leads_seen}
use Rattle.txc_db.proofs.Histories.{states_stay}
use Rattle.txc_txn.proofs.txn_core.TxnCore.next.Goals as goal

pub answer-requires-clause-fits : goal.answer-requires-clause-fits
answer-requires-clause-fits g c = rw c.see.ensures.same (core_seen g.A.App.next c.args.registry.now (value_of c.args.self.now) c.see.new.self.seen c.requires.fits)

pub returns-clause-holds : goal.returns-clause-holds
returns-clause-holds g c = λ L M begins h right.
    let next = g.A.App.next in
    c.answer.ensures.holds M
    (subst (λ (v : CoreValue). IsRightPortReply next M v.call.need c.args.reply) (sym c.see.ensures.same) right)
    (subst (CoreHolds next M c.args.registry.now) (sym c.see.ensures.same) (holds_seen states_stay next L M begins c.args.registry.now (value_of c.args.self.now) c.see.new.self.seen h))

pub returns-clause-gone_on : goal.returns-clause-gone_on
returns-clause-gone_on g c =
    let next = g.A.App.next in
    let new = value_of c.answer.new.self in
    let transition = leads_seen next (value_of c.args.self.now) c.see.new.self.seen c.args.registry.now c.args.reply new c.answer.new.registry c.answer.result
    (subst (λ (v : CoreValue). ReplyTransition next v c.args.registry.now c.args.reply new c.answer.new.registry c.answer.result) c.see.ensures.same c.answer.ensures.transition) in
    let pins = subst (λ (p : PinSetValue). PinsAfter (record (value_of c.args.self.now) { pins = p }) c.args.reply new.pins)
    (ap (λ (v : CoreValue). v.pins) c.see.ensures.same) c.answer.ensures.pins in
    search (rules, transition, pins)
