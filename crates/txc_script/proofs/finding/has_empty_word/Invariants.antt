use Rattle.std.proofs.Common.{◌≡◌, ◌+◌, length}
use Rattle.std.specs.List.{list_any}
use Rattle.txc_script.specs.Words.{words_of, words_left}
use Rattle.txc_script.specs.LineFaults.{is_empty}
use Rattle.txc_script.proofs.finding.has_empty_word.Given as goal

abbrev pub invariant-loop : goal.invariant-loop
invariant-loop l = record {
  same : list_any is_empty (words_of l.fn.line) ≡ list_any is_empty (words_left l.words);
  all : length (words_left l.words) + l.counter ≡ l.end;
}
