use Rattle.std.proofs.Common.{◌≡◌, ◌+◌, ◌*◌, ◌≤◌, ◌∷◌, ◌++◌, take, vec_len, vec_capacity}
use Rattle.std.specs.Fmt.{decimal}
use Rattle.std.specs.List.{flat_map}
use Rattle.txc_script_node.proofs.output.put_others.Given as goal

abbrev pub invariant-loop-number : goal.invariant-loop-number
invariant-loop-number l = record {
  text : l.text.items ≡ l.fn.text.items ++ flat_map (λ n. 44 ∷ decimal n) (take l.number-index l.numbers);
  len : vec_len l.text ≤ vec_len l.fn.text + 21 * l.number-index;
  capacity : vec_capacity l.fn.text ≤ vec_capacity l.text;
}
