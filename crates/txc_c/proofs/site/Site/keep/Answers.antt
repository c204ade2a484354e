use Rattle.std.proofs.Common.{refl, subst}
use Rattle.txc_c.specs.Maintenance.{SiteKeepTransition}
use Rattle.txc_c.specs.Sites.{SiteValue}
use Rattle.txc_c.proofs.Places.{caller_site}
use Rattle.txc_c.proofs.site.Site.keep.Goals as goal

pub invariant_of-self : goal.invariant_of-self
invariant_of-self c =
    let old : SiteValue = record { caller = c.self.inside.caller; opened = c.self.inside.opened; begun = c.self.inside.begun } in
    caller_site c.acts_leave_others.ensures old c.self.invariant c.keep.new.caller c.keep.ensures.caller c.keep.ensures.grown

pub returns : goal.returns
returns c =
    let old : SiteValue = record { caller = c.self.inside.caller; opened = c.self.inside.opened; begun = c.self.inside.begun } in
    subst (λ (s : SiteValue). SiteKeepTransition c.args.now c.args.age c.args.kept.now c.keep.new.kept s c.keep.result (record old { caller = c.keep.new.caller })) c.self.view_is (c.keep.ensures.kept, refl)
