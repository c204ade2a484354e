use Rattle.txc_c.specs.Sites.{SiteValue}
use Rattle.txc_c.proofs.Places.{caller_site}
use Rattle.txc_c.proofs.site.Site.trim.Goals as goal

pub invariant_of-self : goal.invariant_of-self
invariant_of-self c =
    let old : SiteValue = record { caller = c.self.inside.caller; opened = c.self.inside.opened; begun = c.self.inside.begun } in
    caller_site c.acts_leave_others.ensures old c.self.invariant c.trim.new.self c.trim.ensures.caller c.trim.ensures.grown
