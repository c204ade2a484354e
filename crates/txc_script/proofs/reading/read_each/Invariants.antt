use Rattle.std.proofs.Common.{◌≡◌, ◌≤◌, ◌+◌, length, vec_len, vec_capacity}
use Rattle.txc_script.specs.LineFaults.{kinds_for}
use Rattle.txc_script.specs.Words.{words_left}
use Rattle.txc_script.proofs.SaidKinds.{HasRead}
use Rattle.txc_script.proofs.reading.read_each.Given as goal

abbrev pub invariant-loop-before : goal.invariant-loop-before
invariant-loop-before g l = record {
  read : HasRead (kinds_for l.fn.kinds l.fn.other (words_left l.fn.words)) (words_left l.fn.words) (kinds_for l.rest l.fn.other (words_left l.left)) (words_left l.left) l.said.items l.before;
  all : length (words_left l.left) + l.before ≡ l.count;
  room : vec_len l.said ≡ l.before;
  capacity : l.count ≤ vec_capacity l.said;
}
