use Rattle.std.proofs.Common.{◌<◌, length}
use Rattle.txc_tags.proofs.TextKeys.{HasArgs}
use Rattle.txc_tags.proofs.text.key.read_some.Given as goal

abbrev pub invariant-loop-number : goal.invariant-loop-number
invariant-loop-number l = record {
  few : length l.args < 4;
  read : HasArgs l.text l.rest l.args;
}

abbrev pub decreases-loop-number : goal.decreases-loop-number
decreases-loop-number l = length l.rest
