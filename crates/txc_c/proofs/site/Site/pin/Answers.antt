use Rattle.txc_c.specs.Sites.{SiteValue}
use Rattle.txc_c.proofs.Places.{caller_site}
use Rattle.txc_c.proofs.site.Site.pin.Goals as goal

pub invariant_of-self : goal.invariant_of-self
invariant_of-self c =
    let old : SiteValue = record { caller = c.self.inside.caller; opened = c.self.inside.opened; begun = c.self.inside.begun } in
    caller_site c.acts_leave_others.ensures old c.self.invariant c.pin.new.self c.pin.ensures.caller c.pin.ensures.grown
