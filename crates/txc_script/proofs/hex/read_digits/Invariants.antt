use Rattle.std.proofs.Common.{◌≡◌, ◌++◌, length}
use Rattle.std.specs.List.{flat_map}
use Rattle.txc_node.specs.Texts.{digits_of}
use Rattle.txc_script.specs.Hex.{IsBytes}
use Rattle.txc_script.proofs.hex.read_digits.Given as goal

abbrev pub invariant-digits : goal.invariant-digits
invariant-digits l = record {
  bytes : IsBytes l.bytes.items;
  read : l.fn.text ≡ flat_map digits_of l.bytes.items ++ l.rest;
}

abbrev pub decreases-digits : goal.decreases-digits
decreases-digits l = length l.rest
