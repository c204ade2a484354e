use Rattle.std.proofs.Common.{◌≡◌, ℕ, inr, refl, sym, subst}
use Rattle.txc_txn_ports.specs.declared.bounds.Bounds.{Bounds}
use Rattle.txc_c_types.specs.declared.numbers.TheConstants.{DONE, NO_MEMORY}
use Rattle.txc_caller.proofs.Letting.{grown_then}
use Rattle.txc_c.specs.Sites.{HasMadeRoom, SiteValue}
use Rattle.txc_c.specs.BeginAndEnd.{BeginPlaced}
use Rattle.txc_c.specs.declared.opened.Open.TheVariants.{Reading}
use Rattle.txc_c.proofs.Asked.{asked_so}
use Rattle.txc_c.proofs.Beginning.{caught_up, reading_begun, reading_not_begun}
use Rattle.txc_c.proofs.Going.{begun_site, may_add}
use Rattle.txc_c.proofs.MaintenanceLemmas.{keeps_then}
use Rattle.txc_c.proofs.Places.{caller_site}
use Rattle.txc_c.proofs.site.Site.begin.Goals as goal

abbrev bounds_of : ℕ → ℕ → ℕ → Bounds
bounds_of now staleness at_least = record { now = now; staleness = staleness; at_least = at_least }

pub returns-in_default : goal.returns-in_default
returns-in_default c = rw (← c.in_default.ensures.there) ((refl, refl), refl)

pub returns-in-Err : goal.returns-in-Err
returns-in-Err c =
    asked_so (λ at_least. BeginPlaced (bounds_of c.args.now c.args.staleness at_least) c.args.txn.now c.args.txn.now c.args.self.now c.in-Err.number c.make_room.new.self) _ _ _ _
    c.in-Some.ensures.there c.in-Some.ensures.stamp (inr (c.in-Err.ensures.refused, refl))

pub add-requires-clause-room : goal.add-requires-clause-room
add-requires-clause-room c =
    let s : SiteValue = record { caller = c.self.inside.caller; opened = c.self.inside.opened; begun = c.self.inside.begun } in
    (subst (λ (v : SiteValue). HasMadeRoom c.args.self.now v) (sym c.self.view_is) c.in_default-make_room.ensures.made).room

pub add-requires-clause-place : goal.add-requires-clause-place
add-requires-clause-place c =
    let s : SiteValue = record { caller = c.self.inside.caller; opened = c.self.inside.opened; begun = c.self.inside.begun } in
    (may_add c.args.self.now s (subst (λ (v : SiteValue). HasMadeRoom c.args.self.now v) (sym c.self.view_is) c.in_default-make_room.ensures.made)).0

pub add-requires-clause-number : goal.add-requires-clause-number
add-requires-clause-number c =
    let s : SiteValue = record { caller = c.self.inside.caller; opened = c.self.inside.opened; begun = c.self.inside.begun } in
    (may_add c.args.self.now s (subst (λ (v : SiteValue). HasMadeRoom c.args.self.now v) (sym c.self.view_is) c.in_default-make_room.ensures.made)).1

pub invariant_of-self-2 : goal.invariant_of-self-2
invariant_of-self-2 c =
    let s : SiteValue = record { caller = c.self.inside.caller; opened = c.self.inside.opened; begun = c.self.inside.begun } in
    let room : HasMadeRoom c.args.self.now s = subst (λ (v : SiteValue). HasMadeRoom c.args.self.now v) (sym c.self.view_is) c.in_default-make_room.ensures.made in
    begun_site c.acts_leave_others.ensures c.args.self.now s room c.self.invariant c.begin.new.self
    (keeps_then s.caller c.take_events-has_all.new.self c.begin.new.self c.take_events-has_all.ensures.caller c.begin.ensures.caller)
    (grown_then s.caller.ports.database c.take_events-has_all.new.self.ports.database c.begin.new.self.ports.database c.take_events-has_all.ensures.grown c.begin.ensures.grown)
    (Reading c.in-Ok.begun) c.in-Ok.ensures.begun.of_caller c.add.new.opened c.add.new.begun c.add.result c.add.ensures

pub invariant_of-self : goal.invariant_of-self
invariant_of-self c =
    let s : SiteValue = record { caller = c.self.inside.caller; opened = c.self.inside.opened; begun = c.self.inside.begun } in
    caller_site c.acts_leave_others.ensures s c.self.invariant c.begin.new.self
    (keeps_then s.caller c.take_events-has_all.new.self c.begin.new.self c.take_events-has_all.ensures.caller c.begin.ensures.caller)
    (grown_then s.caller.ports.database c.take_events-has_all.new.self.ports.database c.begin.new.self.ports.database c.take_events-has_all.ensures.grown c.begin.ensures.grown)

pub returns-in_default-begin : goal.returns-in_default-begin
returns-in_default-begin c =
    let s0 : SiteValue = c.args.self.now in
    let s : SiteValue = record { caller = c.self.inside.caller; opened = c.self.inside.opened; begun = c.self.inside.begun } in
    let s' : SiteValue = record s { caller = c.begin.new.self } in
    let room : HasMadeRoom s0 s = subst (λ (v : SiteValue). HasMadeRoom s0 v) (sym c.self.view_is) c.in_default-make_room.ensures.made in
    let taken = c.take_events-has_all in
    asked_so (λ at_least. BeginPlaced (bounds_of c.args.now c.args.staleness at_least) c.args.txn.now c.args.txn.now s0 NO_MEMORY s') _ _ _ _ c.in-Some.ensures.there c.in-Some.ensures.stamp
    (reading_not_begun c.acts_leave_others.ensures s0 s room c.self.invariant (bounds_of c.args.now c.args.staleness c.in-Some.at_least) taken.new.self c.begin.new.self
    (caught_up s.caller taken.new.self taken.result taken.ensures.node taken.ensures.all taken.ensures.left taken.ensures.same) c.in_default-begin.ensures.unchanged c.args.txn.now)

pub returns : goal.returns
returns c =
    let s0 : SiteValue = c.args.self.now in
    let s : SiteValue = record { caller = c.self.inside.caller; opened = c.self.inside.opened; begun = c.self.inside.begun } in
    let s' : SiteValue = record { caller = c.begin.new.self; opened = c.add.new.opened; begun = c.add.new.begun } in
    let room : HasMadeRoom s0 s = subst (λ (v : SiteValue). HasMadeRoom s0 v) (sym c.self.view_is) c.in_default-make_room.ensures.made in
    let taken = c.take_events-has_all in
    asked_so (λ at_least. BeginPlaced (bounds_of c.args.now c.args.staleness at_least) c.args.txn.now c.add.result s0 DONE s') _ _ _ _ c.in-Some.ensures.there c.in-Some.ensures.stamp
    (reading_begun c.acts_leave_others.ensures s0 s room c.self.invariant c.begin.new.self
    (keeps_then s.caller taken.new.self c.begin.new.self taken.ensures.caller c.begin.ensures.caller)
    (grown_then s.caller.ports.database taken.new.self.ports.database c.begin.new.self.ports.database taken.ensures.grown c.begin.ensures.grown)
    (Reading c.in-Ok.begun) c.in-Ok.ensures.begun.of_caller c.add.new.opened c.add.new.begun c.add.result c.add.ensures c.args.txn.now
    (bounds_of c.args.now c.args.staleness c.in-Some.at_least) taken.new.self c.in-Ok.begun refl
    (caught_up s.caller taken.new.self taken.result taken.ensures.node taken.ensures.all taken.ensures.left taken.ensures.same) c.in-Ok.ensures.begun)
