use Rattle.std.proofs.Common.{◌≡◌, Some, None, false, sym, ◌==◌}
use Rattle.std.specs.List.{position}
use Rattle.txc_stamp.specs.Interval.{Interval}
use Rattle.txc_node.proofs.Positions.{position_later, position_never}
use Rattle.txc_node.proofs.versions.Versions.position.Goals as goal

pub returns-in-None : goal.returns-in-None
returns-in-None c =
    let v = c.self.inside in
    let first : (v.first.lo == c.args.lo) ≡ false = cc in
    let none : position (λ (i : Interval). i.lo == c.args.lo) v.others.items ≡ None = cc in
    rw (← c.self.view_is) (sym (position_never (λ i. i.lo == c.args.lo) v.first v.others.items first none))

pub returns-in-Some : goal.returns-in-Some
returns-in-Some c =
    let v = c.self.inside in
    let first : (v.first.lo == c.args.lo) ≡ false = cc in
    let there : position (λ (i : Interval). i.lo == c.args.lo) v.others.items ≡ Some c.in-Some.at = cc in
    rw (← c.self.view_is) (sym (position_later (λ i. i.lo == c.args.lo) v.first v.others.items c.in-Some.at first there))
