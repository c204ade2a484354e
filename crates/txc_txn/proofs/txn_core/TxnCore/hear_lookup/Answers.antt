use Rattle.std.proofs.Common.{rules, ◌≡◌, ◌∙◌, [], Some, None, ap, refl, sym, subst}
use Rattle.txc_pinset.specs.Members.{kept}
use Rattle.txc_call.specs.declared.need.Need.{Need}
use Rattle.txc_call.specs.declared.need.Need.TheVariants as needs
use Rattle.txc_call.specs.declared.reply.Reply.TheVariants as replies
use Rattle.txc_call.specs.Needs.{ReplyHolds}
use Rattle.txc_txn.specs.TxnCore.{CoreValue, value_of}
use Rattle.txc_txn_ports.specs.declared.reply.PortReply.TheVariants as ports
use Rattle.txc_txn.specs.ByHand.{HearTransition, TakeTransition}
use Rattle.txc_txn.proofs.ByHand.{miss_holds}
use Rattle.txc_txn.proofs.txn_core.TxnCore.hear_lookup.Goals as goal

pub take-requires-in-Err-clause-reply : goal.take-requires-in-Err-clause-reply
take-requires-in-Err-clause-reply c =
    (needs.Lookup c.requires.reply.0, ap (λ (v : CoreValue). v.call.need) c.narrow.ensures.same ∙ c.requires.reply.1.1, tt)

-- no member lies in the reach of the hit
pub returns : goal.returns
returns c =
    let old = value_of c.args.self.now in
    let new = value_of c.take-in-Err.new.self in
    let gone : kept c.in-Some.hit.answer.reach c.args.self.now.pins.members ≡ [] = c.in-Err.ensures.refused.0 refl in
    let transition : HearTransition old (ports.Lookup c.args.hit) new c.take-in-Err.result =
    rw c.in-Some.is (λ k is. record {
      held = λ some. absurd (some gone);
      none = λ none.
          subst (λ (v : CoreValue). TakeTransition v (needs.Lookup k) replies.Miss new c.take-in-Err.result)
          c.narrow.ensures.same (c.take-in-Err.ensures.transition (needs.Lookup k) (ap (λ (v : CoreValue). v.call.need) c.narrow.ensures.same ∙ is));
    }) in
    record {
      fits = λ next objects after there left h. c.take-in-Err.ensures.fits next objects after left (c.narrow.ensures.fits next objects h);
      holds = λ next objects after L left right h holds.
          c.take-in-Err.ensures.holds next objects after L left (λ n is. miss_holds next L n) (c.narrow.ensures.fits next objects h) (c.narrow.ensures.holds next objects L holds);
      turn_fits = search rules;
      transition = transition;
      rests = c.take-in-Err.ensures.rests;
      adds = search rules;
      pins = search rules;
      taken = search rules;
      left = search rules;
      recorded = search rules;
      goes_on = search rules;
      same = search rules;
    }

-- no node has the call
pub returns-in_default : goal.returns-in_default
returns-in_default c =
    let old = value_of c.args.self.now in
    let new = value_of c.take.new.self in
    let none : c.args.hit ≡ None = search rules in
    let transition : HearTransition old (ports.Lookup c.args.hit) new c.take.result = rw none (λ k is. c.take.ensures.transition (needs.Lookup k) is) in
    record {
      fits = λ next objects after there left h. c.take.ensures.fits next objects after left h;
      holds = λ next objects after L left right h holds. c.take.ensures.holds next objects after L left (λ n is. miss_holds next L n) h holds;
      turn_fits = search rules;
      transition = transition;
      rests = c.take.ensures.rests;
      adds = search rules;
      pins = search rules;
      taken = search rules;
      left = search rules;
      recorded = search rules;
      goes_on = search rules;
      same = search rules;
    }

-- a member lies in the reach of the hit
pub returns-in-Ok : goal.returns-in-Ok
returns-in-Ok c =
    let old = value_of c.args.self.now in
    let new = value_of c.take-in-Ok.new.self in
    let transition : HearTransition old (ports.Lookup c.args.hit) new c.take-in-Ok.result =
    rw c.in-Some.is (λ k is. record {
      held = λ some.
          subst (λ (v : CoreValue). TakeTransition v (needs.Lookup k) (replies.Hit c.in-Some.hit.answer) new c.take-in-Ok.result)
          c.narrow.ensures.same (c.take-in-Ok.ensures.transition (needs.Lookup k) (ap (λ (v : CoreValue). v.call.need) c.narrow.ensures.same ∙ is));
      none = λ gone. cc (c.in-Ok.ensures.refused.1 gone);
    }) in
    record {
      fits = λ next objects after there left h. c.take-in-Ok.ensures.fits next objects after left (c.narrow.ensures.fits next objects h);
      holds = λ next objects after L left right h holds.
          let right' : (n : Need) → old.call.need ≡ Some n → ReplyHolds next L n (replies.Hit c.in-Some.hit.answer) = rw c.in-Some.is at right in
          c.take-in-Ok.ensures.holds next objects after L left
          (λ n is. right' n (sym (ap (λ (v : CoreValue). v.call.need) c.narrow.ensures.same) ∙ is)) (c.narrow.ensures.fits next objects h) (c.narrow.ensures.holds next objects L holds);
      turn_fits = search rules;
      transition = transition;
      rests = c.take-in-Ok.ensures.rests;
      adds = search rules;
      pins = search rules;
      taken = search rules;
      left = search rules;
      recorded = search rules;
      goes_on = search rules;
      same = search rules;
    }
