use Rattle.std.proofs.Common.{ap, rules, sym, subst}
use Rattle.txc_pinset.specs.Members.{PinSetValue}
use Rattle.txc_txn.specs.TxnCore.{CoreValue, CoreHolds, IsCore, IsRightPortReply, PinsAfter, first_call, value_of}
use Rattle.txc_txn.specs.ByHand.{FirstExists, HearTransition}
use Rattle.txc_txn.proofs.Cores.{core_seen, holds_seen}
use Rattle.txc_txn.proofs.ByHand.{hear_seen}
use Rattle.txc_db.proofs.Histories.{states_stay}
use Rattle.txc_txn.proofs.txn_core.TxnCore.hear.Goals as goal

pub heard-requires-clause-fits : goal.heard-requires-clause-fits
heard-requires-clause-fits c =
    let next = c.requires.fits.0 in
    let objects = c.requires.fits.1 in
    (next, objects, subst (IsCore next objects) (sym c.see.ensures.same) (core_seen next objects (value_of c.args.self.now) c.see.new.self.seen c.requires.fits.2))

pub returns-clause-fits : goal.returns-clause-fits
returns-clause-fits c = λ next objects after there left h.
    c.heard.ensures.fits next objects after
    (subst (λ (v : CoreValue). FirstExists objects (first_call v.pinning)) (sym c.see.ensures.same) there) left
    (subst (IsCore next objects) (sym c.see.ensures.same) (core_seen next objects (value_of c.args.self.now) c.see.new.self.seen h))

pub returns-clause-holds : goal.returns-clause-holds
returns-clause-holds c = λ next objects after L M begins left right h holds.
    c.heard.ensures.holds next objects after M left
    (subst (λ (v : CoreValue). IsRightPortReply next M v.call.need c.args.reply) (sym c.see.ensures.same) right)
    (subst (IsCore next objects) (sym c.see.ensures.same) (core_seen next objects (value_of c.args.self.now) c.see.new.self.seen h))
    (subst (CoreHolds next M objects) (sym c.see.ensures.same) (holds_seen states_stay next L M begins objects (value_of c.args.self.now) c.see.new.self.seen holds))

pub returns-clause-gone_on : goal.returns-clause-gone_on
returns-clause-gone_on c =
    let new = value_of c.heard.new.self in
    let transition = hear_seen (value_of c.args.self.now) c.see.new.self.seen c.args.reply new c.heard.result
    (subst (λ (v : CoreValue). HearTransition v c.args.reply new c.heard.result) c.see.ensures.same c.heard.ensures.transition) in
    let pins = subst (λ (p : PinSetValue). PinsAfter (record (value_of c.args.self.now) { pins = p }) c.args.reply new.pins)
    (ap (λ (v : CoreValue). v.pins) c.see.ensures.same) c.heard.ensures.pins in
    search (rules, transition, pins)
