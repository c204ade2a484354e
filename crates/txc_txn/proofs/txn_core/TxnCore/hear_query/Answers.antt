use Rattle.std.proofs.Common.{rules, ◌≡◌, ◌∙◌, Some, ap, sym, subst}
use Rattle.txc_call_registry.specs.Objects.{AllIdle}
use Rattle.txc_call.specs.declared.need.Need.{Need}
use Rattle.txc_call.specs.declared.need.Need.TheVariants as needs
use Rattle.txc_call.specs.declared.reply.Reply.TheVariants as replies
use Rattle.txc_call.specs.Needs.{ReplyHolds}
use Rattle.txc_txn.specs.TxnCore.{CoreValue, value_of}
use Rattle.txc_txn_ports.specs.declared.reply.PortReply.TheVariants as ports
use Rattle.txc_txn.specs.ByHand.{HearTransition, TakeTransition}
use Rattle.txc_txn.proofs.txn_core.TxnCore.hear_query.Goals as goal

pub returns-in-Err : goal.returns-in-Err
returns-in-Err c = record {
  fits = λ next objects after there left h.
      let idle : AllIdle after = rw c.drop_call.ensures.answer at left in c.drop_call.ensures.fits next objects after idle h;
  holds = λ next objects after L left right h holds. c.drop_call.ensures.holds next objects after L holds;
  turn_fits = search rules;
  transition = search rules;
  rests = λ asking. let no : ⊥ = rw c.drop_call.ensures.answer at asking in no;
  adds = search rules;
  pins = search rules;
  taken = search rules;
  left = search rules;
  recorded = search rules;
  goes_on = search rules;
  same = search rules;
}

pub returns : goal.returns
returns c =
    let old = value_of c.args.self.now in
    let new = value_of c.take.new.self in
    let transition : HearTransition old (ports.Query c.args.found) new c.take.result =
    rw c.in-Ok.is (λ query is.
    subst (λ (v : CoreValue). TakeTransition v (needs.Query query) (replies.Found c.in-Ok.found.answer) new c.take.result)
    c.narrow.ensures.same (c.take.ensures.transition (needs.Query query) (ap (λ (v : CoreValue). v.call.need) c.narrow.ensures.same ∙ is))) in
    record {
      fits = λ next objects after there left h. c.take.ensures.fits next objects after left (c.narrow.ensures.fits next objects h);
      holds = λ next objects after L left right h holds.
          let right' : (n : Need) → old.call.need ≡ Some n → ReplyHolds next L n (replies.Found c.in-Ok.found.answer) = rw c.in-Ok.is at right in
          c.take.ensures.holds next objects after L left
          (λ n is. right' n (sym (ap (λ (v : CoreValue). v.call.need) c.narrow.ensures.same) ∙ is)) (c.narrow.ensures.fits next objects h) (c.narrow.ensures.holds next objects L holds);
      turn_fits = search rules;
      transition = transition;
      rests = c.take.ensures.rests;
      adds = search rules;
      pins = search rules;
      taken = search rules;
      left = search rules;
      recorded = search rules;
      goes_on = search rules;
      same = search rules;
    }
