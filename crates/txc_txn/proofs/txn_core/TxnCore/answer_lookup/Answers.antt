use Rattle.std.proofs.Common.{rules, ◌≡◌, ◌∙◌, [], ap, refl, subst}
use Rattle.txc_pinset.specs.Members.{kept}
use Rattle.txc_call.specs.declared.need.Need.TheVariants as needs
use Rattle.txc_call.specs.declared.reply.Reply.TheVariants as replies
use Rattle.txc_txn.specs.TxnCore.{CoreValue, value_of}
use Rattle.txc_txn_ports.specs.declared.reply.PortReply.TheVariants as ports
use Rattle.txc_txn.specs.Transitions.{CallTransition, ReplyTransition}
use Rattle.txc_txn.proofs.txn_core.TxnCore.answer_lookup.Goals as goal

pub go_on-requires-in-Err-clause-reply : goal.go_on-requires-in-Err-clause-reply
go_on-requires-in-Err-clause-reply g c =
    (needs.Lookup c.requires.reply.0, ap (λ (v : CoreValue). v.call.need) c.narrow.ensures.same ∙ c.requires.reply.1.1, tt)

pub returns : goal.returns
returns g c =
    let old = value_of c.args.self.now in
    let new = value_of c.go_on-in-Err.new.self in
    let gone : kept c.in-Some.hit.answer.reach c.args.self.now.pins.members ≡ [] = c.in-Err.ensures.refused.0 refl in
    let transition : ReplyTransition g.A.App.next old c.args.registry.now (ports.Lookup c.args.hit) new c.go_on-in-Err.new.registry c.go_on-in-Err.result =
    rw c.in-Some.is (λ k is. record {
      held = λ some. absurd (some gone);
      none = λ none.
          subst (λ (v : CoreValue). CallTransition g.A.App.next v c.args.registry.now (needs.Lookup k) replies.Miss new c.go_on-in-Err.new.registry c.go_on-in-Err.result)
          c.narrow.ensures.same (c.go_on-in-Err.ensures.transition (needs.Lookup k) (ap (λ (v : CoreValue). v.call.need) c.narrow.ensures.same ∙ is));
    }) in
    search (rules, transition)
