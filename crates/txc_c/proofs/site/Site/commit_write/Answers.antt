use Rattle.std.proofs.Common.{◌≡◌, ℕ, ap, sym, subst}
use Rattle.txc_c.specs.Sites.{HasTakenOut, IsPlaced, SiteValue}
use Rattle.txc_c.specs.BeginAndEnd.{HasCommittedWrites}
use Rattle.txc_c.specs.declared.opened.Open.{Open}
use Rattle.txc_c.specs.declared.opened.Open.TheVariants.{Writing}
use Rattle.txc_c.specs.declared.opened.Opened.{Opened}
use Rattle.txc_c.proofs.Ending.{committed_write}
use Rattle.txc_c.proofs.Going.{placed_again}
use Rattle.txc_c.proofs.Places.{caller_site}
use Rattle.txc_c.proofs.site.Site.commit_write.Goals as goal

pub invariant_of-self : goal.invariant_of-self
invariant_of-self c =
    let s : SiteValue = record { caller = c.self.inside.caller; opened = c.self.inside.opened; begun = c.self.inside.begun } in
    caller_site c.acts_leave_others.ensures s c.self.invariant c.commit.new.caller c.commit.ensures.caller c.commit.ensures.grown

pub invariant_of-self-in-Err : goal.invariant_of-self-in-Err
invariant_of-self-in-Err c =
    let s : SiteValue = record { caller = c.self.inside.caller; opened = c.self.inside.opened; begun = c.self.inside.begun } in
    caller_site c.acts_leave_others.ensures s c.self.invariant c.commit.new.caller c.commit.ensures.caller c.commit.ensures.grown

pub put_back-requires-clause-placed : goal.put_back-requires-clause-placed
put_back-requires-clause-placed c =
    let s0 : SiteValue = c.args.self.now in
    let s : SiteValue = record { caller = c.self.inside.caller; opened = c.self.inside.opened; begun = c.self.inside.begun } in
    let out = c.in-Some-Writing-take_out in
    let o : Opened = out.field-0 in
    let taken : HasTakenOut c.args.txn o s0 s = subst (λ (v : SiteValue). HasTakenOut c.args.txn o s0 v) (sym c.self.view_is) out.ensures in
    let same : Writing c.in-Err.write ≡ o.txn = cc (c.in-Err.ensures.handed_back, out.field-0-is, c.in-Err.write-is, out.write-is) in
    let back : record { number = o.number; txn = Writing c.in-Err.write } ≡ o = ap (λ (x : Open). record { number = o.number; txn = x }) same in
    subst (λ (it : Opened). IsPlaced c.commit.new.caller s.begun s.opened.vacant_key it) (sym back)
    (placed_again c.acts_leave_others.ensures s0 s c.args.txn o taken c.commit.new.caller c.commit.ensures.caller c.commit.ensures.grown s.opened.vacant_key taken.next_place)

pub returns-in-Ok : goal.returns-in-Ok
returns-in-Ok c =
    let s0 : SiteValue = c.args.self.now in
    let s : SiteValue = record { caller = c.self.inside.caller; opened = c.self.inside.opened; begun = c.self.inside.begun } in
    let out = c.in-Some-Writing-take_out in
    let o : Opened = out.field-0 in
    let taken : HasTakenOut c.args.txn o s0 s = subst (λ (v : SiteValue). HasTakenOut c.args.txn o s0 v) (sym c.self.view_is) out.ensures in
    let same : o.txn ≡ Writing out.write = cc (out.field-0-is, out.write-is) in
    let it = c.in-Ok.ensures in
    let done : HasCommittedWrites out.write c.in-Ok.done.stamp s.caller c.commit.new.caller = record { committed = it.committed; answer = it.answer; at_base = it.at_base; apart = it.apart } in
    committed_write c.acts_leave_others.ensures s0 s c.args.txn o taken c.self.invariant c.commit.new.caller c.commit.ensures.caller c.commit.ensures.grown out.write same c.args.stamp.now c.number.result
    (subst (λ (n : ℕ). HasCommittedWrites out.write n s.caller c.commit.new.caller) (sym c.number.ensures.answer) done)
