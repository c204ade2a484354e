use Rattle.std.proofs.Common.{◌≡◌, ℕ, ap, inr, refl, sym, subst}
use Rattle.txc_db.specs.Calls.{IsHoldRefused}
use Rattle.txc_c_types.specs.declared.numbers.TheConstants.{DONE}
use Rattle.txc_caller.specs.CallerTxn.{CallerValue}
use Rattle.txc_c.specs.Sites.{HasMadeRoom, SiteValue}
use Rattle.txc_c.specs.BeginAndEnd.{BeginsWriting}
use Rattle.txc_c.specs.declared.opened.Open.TheVariants.{Writing}
use Rattle.txc_c.proofs.Beginning.{writing_begun, writing_not_begun}
use Rattle.txc_c.proofs.Going.{begun_site, may_add}
use Rattle.txc_c.proofs.Places.{caller_site}
use Rattle.txc_c.proofs.site.Site.begin_write.Goals as goal

pub returns-in-Err : goal.returns-in-Err
returns-in-Err c =
    (inr (c.in-Err.ensures.refused, refl))

pub add-requires-clause-room : goal.add-requires-clause-room
add-requires-clause-room c =
    let s : SiteValue = record { caller = c.self.inside.caller; opened = c.self.inside.opened; begun = c.self.inside.begun } in
    let room : HasMadeRoom c.args.self.now s = subst (λ (v : SiteValue). HasMadeRoom c.args.self.now v) (sym c.self.view_is) c.in_default.ensures.made in
    room.room

pub add-requires-clause-place : goal.add-requires-clause-place
add-requires-clause-place c =
    let s : SiteValue = record { caller = c.self.inside.caller; opened = c.self.inside.opened; begun = c.self.inside.begun } in
    let room : HasMadeRoom c.args.self.now s = subst (λ (v : SiteValue). HasMadeRoom c.args.self.now v) (sym c.self.view_is) c.in_default.ensures.made in
    (may_add c.args.self.now s room).0

pub add-requires-clause-number : goal.add-requires-clause-number
add-requires-clause-number c =
    let s : SiteValue = record { caller = c.self.inside.caller; opened = c.self.inside.opened; begun = c.self.inside.begun } in
    let room : HasMadeRoom c.args.self.now s = subst (λ (v : SiteValue). HasMadeRoom c.args.self.now v) (sym c.self.view_is) c.in_default.ensures.made in
    (may_add c.args.self.now s room).1

pub invariant_of-self : goal.invariant_of-self
invariant_of-self c =
    let s : SiteValue = record { caller = c.self.inside.caller; opened = c.self.inside.opened; begun = c.self.inside.begun } in
    let room : HasMadeRoom c.args.self.now s = subst (λ (v : SiteValue). HasMadeRoom c.args.self.now v) (sym c.self.view_is) c.in_default.ensures.made in
    begun_site c.acts_leave_others.ensures c.args.self.now s room c.self.invariant c.begin_write.new.self c.begin_write.ensures.caller
    c.begin_write.ensures.grown
    (Writing c.in-Ok.write) c.in-Ok.ensures.of_caller c.add.new.opened c.add.new.begun c.add.result c.add.ensures

pub invariant_of-self-in-Err-begin_write : goal.invariant_of-self-in-Err-begin_write
invariant_of-self-in-Err-begin_write c =
    let s : SiteValue = record { caller = c.self.inside.caller; opened = c.self.inside.opened; begun = c.self.inside.begun } in
    caller_site c.acts_leave_others.ensures s c.self.invariant c.begin_write.new.self c.begin_write.ensures.caller
    c.begin_write.ensures.grown

pub returns-in-Ok : goal.returns-in-Ok
returns-in-Ok c =
    let s : SiteValue = record { caller = c.self.inside.caller; opened = c.self.inside.opened; begun = c.self.inside.begun } in
    let room : HasMadeRoom c.args.self.now s = subst (λ (v : SiteValue). HasMadeRoom c.args.self.now v) (sym c.self.view_is) c.in_default.ensures.made in
    (writing_begun c.acts_leave_others.ensures c.args.self.now s room c.self.invariant c.begin_write.new.self c.begin_write.ensures.caller
    c.begin_write.ensures.grown
    (Writing c.in-Ok.write) c.in-Ok.ensures.of_caller c.add.new.opened c.add.new.begun c.add.result c.add.ensures c.args.txn.now (BeginsWriting) (IsHoldRefused c.args.self.now.caller.ports.database)
    (record { write = c.in-Ok.write; is = refl; begun = c.in-Ok.ensures.begun; could = c.in-Ok.ensures.only_if refl; held = c.in-Ok.ensures.held }))

pub returns-in-Err-begin_write : goal.returns-in-Err-begin_write
returns-in-Err-begin_write c =
    let s : SiteValue = record { caller = c.self.inside.caller; opened = c.self.inside.opened; begun = c.self.inside.begun } in
    let room : HasMadeRoom c.args.self.now s = subst (λ (v : SiteValue). HasMadeRoom c.args.self.now v) (sym c.self.view_is) c.in_default.ensures.made in
    (writing_not_begun c.acts_leave_others.ensures c.args.self.now s room c.self.invariant (BeginsWriting) (λ (v : CallerValue). IsHoldRefused v.ports.database) c.in-Err-begin_write.error c.database_number.result c.database_number.ensures
    c.in-Err-begin_write.ensures.refused c.begin_write.new.self c.in-Err-begin_write.ensures.unchanged c.args.txn.now)
