use Rattle.std.proofs.Common.{◌≡◌, ◌-◌, sym, subst, length, slice_get, Some}
use Rattle.txc_pinset.specs.Members.{PinSetValue, AreBounds}
use Rattle.txc_pinset.proofs.Kept.{bounds_are}
use Rattle.txc_pinset.proofs.pin_set.PinSet.bounds.Goals as goal

pub returns : goal.returns
returns c =
    let members = c.self.inside.members.items in
    let newest = c.in_ok-newest.newest.now in
    let oldest = c.in_ok-oldest.oldest.now in
    let first : slice_get members 0 ≡ Some newest = rw (← c.deref.ensures.value) (sym c.in_ok-newest.ensures.value) in
    let last : slice_get members (length members - 1) ≡ Some oldest = rw (← c.deref-2.ensures.value) (sym c.in_ok-oldest.ensures.value) in
    subst (λ (v : PinSetValue). AreBounds v.members (oldest.stamp, newest.stamp)) c.self.view_is (bounds_are members newest oldest c.self.invariant.set.falls first last)
