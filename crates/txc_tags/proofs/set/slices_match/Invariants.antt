use Rattle.std.proofs.Common.{◌≡◌, ◌+◌, ◌-◌, ◌≤◌, length, drop}
use Rattle.txc_tags.specs.Tags.{sets_match}
use Rattle.txc_tags.proofs.set.slices_match.Given as goal

abbrev pub invariant-loop-i : goal.invariant-loop-i
invariant-loop-i l = record {
  first : l.i ≤ length l.a;
  second : l.j ≤ length l.b;
  left : sets_match l.a l.b ≡ sets_match (drop l.i l.a) (drop l.j l.b);
}

abbrev pub decreases-loop-i : goal.decreases-loop-i
decreases-loop-i l = (length l.a - l.i) + (length l.b - l.j)
