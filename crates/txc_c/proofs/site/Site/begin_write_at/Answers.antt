use Rattle.std.proofs.Common.{◌≡◌, ℕ, ap, inr, refl, sym, subst}
use Rattle.txc_db.specs.Steps.{IsBaseRefused}
use Rattle.txc_c_types.specs.declared.numbers.TheConstants.{DONE}
use Rattle.txc_caller.proofs.Letting.{grown_same}
use Rattle.txc_caller.specs.CallerTxn.{CallerValue}
use Rattle.txc_c.specs.Sites.{HasMadeRoom, SiteValue}
use Rattle.txc_c.specs.BeginAndEnd.{BeginWritePlaced, BeginsWritingAt}
use Rattle.txc_c.specs.declared.opened.Open.TheVariants.{Writing}
use Rattle.txc_c.proofs.Asked.{asked_so}
use Rattle.txc_c.proofs.Beginning.{writing_begun, writing_not_begun}
use Rattle.txc_c.proofs.Going.{begun_site, may_add}
use Rattle.txc_c.proofs.Places.{caller_site}
use Rattle.txc_c.proofs.site.Site.begin_write_at.Goals as goal

pub returns-in_default : goal.returns-in_default
returns-in_default c = rw (← c.in_default.ensures.there) ((refl, refl), refl)

pub returns-in-Err : goal.returns-in-Err
returns-in-Err c =
    asked_so (λ (base : ℕ). BeginWritePlaced (BeginsWritingAt base) (IsBaseRefused c.args.self.now.caller.ports.database base) c.args.txn.now c.args.txn.now c.args.self.now c.in-Err.number c.make_room.new.self) _ _ _ _ c.in-Some.ensures.there c.in-Some.ensures.stamp
    (inr (c.in-Err.ensures.refused, refl))

pub add-requires-clause-room : goal.add-requires-clause-room
add-requires-clause-room c =
    let s : SiteValue = record { caller = c.self.inside.caller; opened = c.self.inside.opened; begun = c.self.inside.begun } in
    let room : HasMadeRoom c.args.self.now s = subst (λ (v : SiteValue). HasMadeRoom c.args.self.now v) (sym c.self.view_is) c.in_default-make_room.ensures.made in
    room.room

pub add-requires-clause-place : goal.add-requires-clause-place
add-requires-clause-place c =
    let s : SiteValue = record { caller = c.self.inside.caller; opened = c.self.inside.opened; begun = c.self.inside.begun } in
    let room : HasMadeRoom c.args.self.now s = subst (λ (v : SiteValue). HasMadeRoom c.args.self.now v) (sym c.self.view_is) c.in_default-make_room.ensures.made in
    (may_add c.args.self.now s room).0

pub add-requires-clause-number : goal.add-requires-clause-number
add-requires-clause-number c =
    let s : SiteValue = record { caller = c.self.inside.caller; opened = c.self.inside.opened; begun = c.self.inside.begun } in
    let room : HasMadeRoom c.args.self.now s = subst (λ (v : SiteValue). HasMadeRoom c.args.self.now v) (sym c.self.view_is) c.in_default-make_room.ensures.made in
    (may_add c.args.self.now s room).1

pub invariant_of-self : goal.invariant_of-self
invariant_of-self c =
    let s : SiteValue = record { caller = c.self.inside.caller; opened = c.self.inside.opened; begun = c.self.inside.begun } in
    let room : HasMadeRoom c.args.self.now s = subst (λ (v : SiteValue). HasMadeRoom c.args.self.now v) (sym c.self.view_is) c.in_default-make_room.ensures.made in
    begun_site c.acts_leave_others.ensures c.args.self.now s room c.self.invariant c.begin_write_at.new.self (record { row = ap (λ (v : CallerValue). v.ports.database.events) c.begin_write_at.ensures.same; renew_after = ap (λ (v : CallerValue). v.renew_after) c.begin_write_at.ensures.same })
    (grown_same s.caller.ports.database c.begin_write_at.new.self.ports.database (ap (λ (v : CallerValue). v.ports.database) c.begin_write_at.ensures.same))
    (Writing c.in-Ok.write) c.in-Ok.ensures.of_caller c.add.new.opened c.add.new.begun c.add.result c.add.ensures

pub invariant_of-self-in-Err-begin_write_at : goal.invariant_of-self-in-Err-begin_write_at
invariant_of-self-in-Err-begin_write_at c =
    let s : SiteValue = record { caller = c.self.inside.caller; opened = c.self.inside.opened; begun = c.self.inside.begun } in
    caller_site c.acts_leave_others.ensures s c.self.invariant c.begin_write_at.new.self (record { row = ap (λ (v : CallerValue). v.ports.database.events) c.begin_write_at.ensures.same; renew_after = ap (λ (v : CallerValue). v.renew_after) c.begin_write_at.ensures.same })
    (grown_same s.caller.ports.database c.begin_write_at.new.self.ports.database (ap (λ (v : CallerValue). v.ports.database) c.begin_write_at.ensures.same))

pub returns-in-Ok : goal.returns-in-Ok
returns-in-Ok c =
    let s : SiteValue = record { caller = c.self.inside.caller; opened = c.self.inside.opened; begun = c.self.inside.begun } in
    let room : HasMadeRoom c.args.self.now s = subst (λ (v : SiteValue). HasMadeRoom c.args.self.now v) (sym c.self.view_is) c.in_default-make_room.ensures.made in
    asked_so (λ (base : ℕ). BeginWritePlaced (BeginsWritingAt base) (IsBaseRefused c.args.self.now.caller.ports.database base) c.args.txn.now c.add.result c.args.self.now DONE (record { caller = c.begin_write_at.new.self; opened = c.add.new.opened; begun = c.add.new.begun })) _ _ _ _ c.in-Some.ensures.there c.in-Some.ensures.stamp
    (writing_begun c.acts_leave_others.ensures c.args.self.now s room c.self.invariant c.begin_write_at.new.self (record { row = ap (λ (v : CallerValue). v.ports.database.events) c.begin_write_at.ensures.same; renew_after = ap (λ (v : CallerValue). v.renew_after) c.begin_write_at.ensures.same })
    (grown_same s.caller.ports.database c.begin_write_at.new.self.ports.database (ap (λ (v : CallerValue). v.ports.database) c.begin_write_at.ensures.same))
    (Writing c.in-Ok.write) c.in-Ok.ensures.of_caller c.add.new.opened c.add.new.begun c.add.result c.add.ensures c.args.txn.now (BeginsWritingAt c.in-Some.base) (IsBaseRefused c.args.self.now.caller.ports.database c.in-Some.base)
    (record { write = c.in-Ok.write; is = refl; begun = c.in-Ok.ensures.begun; could = c.in-Ok.ensures.only_if.0 refl; same = c.begin_write_at.ensures.same }))

pub returns-in-Err-begin_write_at : goal.returns-in-Err-begin_write_at
returns-in-Err-begin_write_at c =
    let s : SiteValue = record { caller = c.self.inside.caller; opened = c.self.inside.opened; begun = c.self.inside.begun } in
    let room : HasMadeRoom c.args.self.now s = subst (λ (v : SiteValue). HasMadeRoom c.args.self.now v) (sym c.self.view_is) c.in_default-make_room.ensures.made in
    asked_so (λ (base : ℕ). BeginWritePlaced (BeginsWritingAt base) (IsBaseRefused c.args.self.now.caller.ports.database base) c.args.txn.now c.args.txn.now c.args.self.now c.database_number.result (record s { caller = c.begin_write_at.new.self })) _ _ _ _ c.in-Some.ensures.there c.in-Some.ensures.stamp
    (writing_not_begun c.acts_leave_others.ensures c.args.self.now s room c.self.invariant (BeginsWritingAt c.in-Some.base) (λ (v : CallerValue). IsBaseRefused v.ports.database c.in-Some.base) c.in-Err-begin_write_at.error c.database_number.result c.database_number.ensures
    c.in-Err-begin_write_at.ensures.refused c.begin_write_at.new.self c.begin_write_at.ensures.same c.args.txn.now)
