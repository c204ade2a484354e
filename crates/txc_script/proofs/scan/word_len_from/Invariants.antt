use Rattle.std.proofs.Common.{◌-◌, ◌≤◌, length, take}
use Rattle.txc_script.specs.Words.{HasNoBlank}
use Rattle.txc_script.proofs.scan.word_len_from.Given as goal

abbrev pub invariant-loop-at : goal.invariant-loop-at
invariant-loop-at l = record {
  within : l.at ≤ length l.bytes;
  bare : HasNoBlank (take l.at l.bytes);
}

abbrev pub decreases-loop-at : goal.decreases-loop-at
decreases-loop-at l = length l.bytes - l.at
