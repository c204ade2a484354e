use Rattle.txc_c.specs.Sites.{SiteValue}
use Rattle.txc_c.proofs.Places.{caller_site}
use Rattle.txc_c.proofs.site.Site.abort.Goals as goal

pub invariant_of-self : goal.invariant_of-self
invariant_of-self c =
    let s : SiteValue = record { caller = c.self.inside.caller; opened = c.self.inside.opened; begun = c.self.inside.begun } in
    caller_site c.acts_leave_others.ensures s c.self.invariant c.abort.new.caller c.abort.ensures.caller c.abort.ensures.grown

pub invariant_of-self-in-Writing : goal.invariant_of-self-in-Writing
invariant_of-self-in-Writing c =
    let s : SiteValue = record { caller = c.self.inside.caller; opened = c.self.inside.opened; begun = c.self.inside.begun } in
    caller_site c.acts_leave_others.ensures s c.self.invariant c.abort-in-Writing.new.caller c.abort-in-Writing.ensures.caller c.abort-in-Writing.ensures.grown
