use Rattle.std.proofs.Common.{refl, sym, subst}
use Rattle.slab.specs.Slab.{with_value}
use Rattle.txc_caller.proofs.Letting.{grown_self}
use Rattle.txc_c.specs.Calls.{ChangeAct, SiteChangeTransition}
use Rattle.txc_c.specs.Sites.{SiteValue}
use Rattle.txc_c.proofs.Acting.{acted, acted_site}
use Rattle.txc_c.proofs.site.Site.change.Goals as goal

pub invariant_of-self-2 : goal.invariant_of-self-2
invariant_of-self-2 c =
    let s : SiteValue = record { caller = c.self.inside.caller; opened = c.self.inside.opened; begun = c.self.inside.begun } in
    let there = sym c.in-Some.ensures.value in
    acted_site c.acts_leave_others.ensures s c.self.invariant c.args.txn c.place_of.result c.place_of.ensures c.in-Some.it.now there c.if-it-txn.false s.caller (record { row = refl; renew_after = refl })
    (grown_self s.caller.ports.database) c.change.new.self (c.change.ensures.of_caller s.caller (c.self.invariant.placed c.place_of.result c.in-Some.it.now there).of_caller)

pub returns : goal.returns
returns c =
    let s : SiteValue = record { caller = c.self.inside.caller; opened = c.self.inside.opened; begun = c.self.inside.begun } in
    let s' : SiteValue = record { caller = s.caller; opened = with_value s.opened c.place_of.result (record { number = c.in-Some.it.now.number; txn = c.change.new.self }); begun = s.begun } in
    let there = sym c.in-Some.ensures.value in
    subst (λ (old : SiteValue). SiteChangeTransition c.args.change c.args.txn old c.change.result s') c.self.view_is
    (acted c.acts_leave_others.ensures s c.self.invariant c.args.txn c.place_of.result c.place_of.ensures c.in-Some.it.now there c.if-it-txn.false s.caller (record { row = refl; renew_after = refl })
    (grown_self s.caller.ports.database) c.change.new.self (c.change.ensures.of_caller s.caller (c.self.invariant.placed c.place_of.result c.in-Some.it.now there).of_caller) (ChangeAct c.args.change) (Unit {0})
    c.change.result (c.change.ensures.changed, refl))
