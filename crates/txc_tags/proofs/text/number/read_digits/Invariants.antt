use Rattle.std.proofs.Common.{◌≡◌, ◌≤◌, ◌++◌, IfSome, length}
use Rattle.txc_tags.specs.TextNumber.{digits_read}
use Rattle.txc_tags.proofs.text.number.read_digits.Given as goal

abbrev pub invariant-loop-byte : goal.invariant-loop-byte
invariant-loop-byte l = record {
  within : IfSome l.number (λ n. n ≤ l.most);
  read : l.text ≡ digits_read l.number ++ l.rest;
}

abbrev pub decreases-loop-byte : goal.decreases-loop-byte
decreases-loop-byte l = length l.rest
