use Rattle.std.proofs.Common.{◌≡◌, sym, subst}
use Rattle.slab.specs.Slab.{with_value}
use Rattle.txc_c.specs.Calls.{StepAct, SiteStepTransition}
use Rattle.txc_c.specs.Sites.{SiteValue}
use Rattle.txc_c.specs.SiteReply.{buffer}
use Rattle.txc_c.proofs.Acting.{acted, acted_site}
use Rattle.txc_c.proofs.site.Site.step.Goals as goal

pub ask-requires-clause-of_caller : goal.ask-requires-clause-of_caller
ask-requires-clause-of_caller c = (c.self.invariant.placed c.place_of.result c.in-Some.it.now (sym c.in-Some.ensures.value)).of_caller

pub invariant_of-self-2 : goal.invariant_of-self-2
invariant_of-self-2 c =
    let s : SiteValue = record { caller = c.self.inside.caller; opened = c.self.inside.opened; begun = c.self.inside.begun } in
    acted_site c.acts_leave_others.ensures s c.self.invariant c.args.txn c.place_of.result c.place_of.ensures c.in-Some.it.now (sym c.in-Some.ensures.value) c.if-it-txn.false
    c.ask.new.caller c.ask.ensures.caller c.ask.ensures.grown c.ask.new.self c.ask.ensures.of_caller

pub returns : goal.returns
returns c =
    let s : SiteValue = record { caller = c.self.inside.caller; opened = c.self.inside.opened; begun = c.self.inside.begun } in
    let s' : SiteValue = record { caller = c.ask.new.caller; opened = with_value s.opened c.place_of.result (record { number = c.in-Some.it.now.number; txn = c.ask.new.self }); begun = s.begun } in
    let was = buffer c.args.value.now c.args.len.now in let is = buffer c.ask.new.value c.ask.new.len in
    subst (λ (old : SiteValue). SiteStepTransition c.args.ask was is c.args.txn old c.ask.result s') c.self.view_is
    (acted c.acts_leave_others.ensures s c.self.invariant c.args.txn c.place_of.result c.place_of.ensures c.in-Some.it.now (sym c.in-Some.ensures.value) c.if-it-txn.false
    c.ask.new.caller c.ask.ensures.caller c.ask.ensures.grown c.ask.new.self c.ask.ensures.of_caller (StepAct c.args.ask was is) (is ≡ was) c.ask.result c.ask.ensures.act)
