use Rattle.std.proofs.Common.{◌≡◌, ◌⊎◌, inl, inr, ⊎_elim, ◌<◌, Some, sym, ap, subst, ◌∙◌}
use Rattle.txc_tags.specs.Keys.{Call}
use Rattle.txc_call.specs.declared.need.Need.TheVariants as needs
use Rattle.txc_call.specs.declared.need.Outcome.{Outcome}
use Rattle.txc_call.specs.CallMachine.{Calling}
use Rattle.txc_call.specs.Needs.{NeedFits}
use Rattle.txc_call.proofs.Keeping.{machine_keeps}
use Rattle.txc_call.proofs.Offered.{reply_counts}
use Rattle.txc_call.proofs.machine.CallMachine.reply.Goals as goal

pub returns-in-Ok-clause-fits : goal.returns-in-Ok-clause-fits
returns-in-Ok-clause-fits g c =
    let kept = machine_keeps g.A.App.next c.right_answers_give_the_value.ensures _ c.args.self.now c.args.registry.now c.in-Some.need c.args.reply _ c.self.view_is
    (sym c.replace.ensures.value ∙ c.in-Some.is) c.requires.fits c.requires.common c.in-Ok.ensures.answer in
    let top : c.args.self.now.top ≡ c.advance.new.frames.top = ap (λ (v : Calling). v.top) (sym c.self.view_is) ∙ sym c.in-Ok.ensures.same_top in
    subst (λ (k : Call). NeedFits g.A.App.next c.advance.new.registry k (Some c.in-Ok.next) c.advance.new.frames.stack) top kept.fits

pub returns-in-Ok-clause-holds : goal.returns-in-Ok-clause-holds
returns-in-Ok-clause-holds g c =
    let kept = machine_keeps g.A.App.next c.right_answers_give_the_value.ensures _ c.args.self.now c.args.registry.now c.in-Some.need c.args.reply _ c.self.view_is
    (sym c.replace.ensures.value ∙ c.in-Some.is) c.requires.fits c.requires.common c.in-Ok.ensures.answer in
    kept.holds

pub returns-in-Ok-clause-within : goal.returns-in-Ok-clause-within
returns-in-Ok-clause-within g c =
    let kept = machine_keeps g.A.App.next c.right_answers_give_the_value.ensures _ c.args.self.now c.args.registry.now c.in-Some.need c.args.reply _ c.self.view_is
    (sym c.replace.ensures.value ∙ c.in-Some.is) c.requires.fits c.requires.common c.in-Ok.ensures.answer in
    kept.within

pub returns-in-Ok-clause-unreached : goal.returns-in-Ok-clause-unreached
returns-in-Ok-clause-unreached g c =
    let kept = machine_keeps g.A.App.next c.right_answers_give_the_value.ensures _ c.args.self.now c.args.registry.now c.in-Some.need c.args.reply _ c.self.view_is
    (sym c.replace.ensures.value ∙ c.in-Some.is) c.requires.fits c.requires.common c.in-Ok.ensures.answer in
    kept.no_reach

pub returns-in-Ok-clause-counted : goal.returns-in-Ok-clause-counted
returns-in-Ok-clause-counted g c =
    let counts = reply_counts g.A.App.next _ c.self.inside.frames.stack c.self.inside.frames.asked c.args.registry.now c.in-Some.need c.args.reply c.in-Ok.ensures.answer in
    subst (λ (v : Calling). ((o : Outcome) × (Some c.in-Ok.next ≡ Some (needs.Value o))) ⊎ (v.asked < c.advance.new.frames.asked)) c.self.view_is (⊎_elim (λ done. inl done) (λ more. inr more.0) counts)
