use Rattle.std.proofs.Common.{◌≡◌, ◌+◌, ◌*◌, ◌≤◌, ◌++◌, take, vec_len, vec_capacity}
use Rattle.std.specs.List.{flat_map}
use Rattle.txc_node.specs.Texts.{digits_of}
use Rattle.txc_script_node.proofs.output.put_digits.Given as goal

abbrev pub invariant-loop-byte : goal.invariant-loop-byte
invariant-loop-byte l = record {
  text : l.text.items ≡ l.fn.text.items ++ flat_map digits_of (take l.byte-index l.bytes);
  len : vec_len l.text ≡ vec_len l.fn.text + 2 * l.byte-index;
  capacity : vec_capacity l.fn.text ≤ vec_capacity l.text;
}
