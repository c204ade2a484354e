use Rattle.std.proofs.Common.{◌≡◌, ◌∙◌, true, ap, subst}
use Rattle.std.specs.Prelude.{IsSome}
use Rattle.txc_txn.specs.TxnCore.{Explains}
use Rattle.txc_txn.specs.RunningTxn.{TxnValue}
use Rattle.txc_txn.specs.Sessions.{IsAtLeast}
use Rattle.txc_caller.specs.ComputedFunctions.{top_call}
use Rattle.txc_caller.proofs.Lent.{resting_idle}
use Rattle.txc_caller.proofs.Reading.{at_least_of, ended_grown, ended_keeps, ended_so}
use Rattle.txc_caller.proofs.Some.{none_of}
use Rattle.txc_caller.proofs.caller_txn.CallerTxn.commit.Goals as goal

pub finish-receipt-requires : goal.finish-receipt-requires
finish-receipt-requires g c =
    let old = c.self.inside.txn in
    let closed = none_of (top_call old.core.call)
    (λ there. let yes : c.is_computing.result ≡ true = c.is_computing.ensures.1 (subst (λ (t : TxnValue). IsSome (top_call t.core.call)) c.self.view_is there) in absurd (cc (yes, c.if-is_computing.false))) in
    resting_idle old.core c.self.invariant.rests closed

pub returns-clause-explained : goal.returns-clause-explained
returns-clause-explained g c =
    let given = c.finish-receipt.result.0 in
    subst (λ (t : TxnValue). Explains g.A.App.next given.seen.history t.core.bounds given.pin given.answers.items) c.self.view_is c.finish-receipt.ensures.explained

pub returns-clause-not_before : goal.returns-clause-not_before
returns-clause-not_before g c =
    let given = c.finish-receipt.result.0 in
    subst (λ (t : TxnValue). IsAtLeast t.core.bounds.at_least given.pin) c.self.view_is
    (at_least_of g.A.App.next given.seen.history c.self.inside.txn.core.bounds given.pin given.answers.items c.finish-receipt.ensures.explained)

pub returns-clause-ended : goal.returns-clause-ended
returns-clause-ended g c =
    ended_so c.args.self c.args.caller.now c.caller.inside.ports c.give_back.new.self c.caller.inside.renew_after c.deref.result.now c.caller.view_is
    (c.deref.ensures.value ∙ (c.finish-receipt.ensures.give_back ∙ ap (λ (t : TxnValue). t.core.taken) c.self.view_is)) c.give_back.ensures.after c.give_back.ensures.same

pub returns-clause-only_if : goal.returns-clause-only_if
returns-clause-only_if g c = λ done.
    none_of (top_call c.args.self.core.call) (λ there. let yes : c.is_computing.result ≡ true = c.is_computing.ensures.1 there in absurd (cc (yes, c.if-is_computing.false)))

pub returns-clause-caller : goal.returns-clause-caller
returns-clause-caller g c = ended_keeps c.args.caller.now c.caller.inside.ports c.give_back.new.self c.caller.inside.renew_after c.caller.view_is c.give_back.ensures.same

pub returns-clause-grown : goal.returns-clause-grown
returns-clause-grown g c = ended_grown c.args.caller.now c.caller.inside.ports c.give_back.new.self c.caller.inside.renew_after c.caller.view_is c.give_back.ensures.same
