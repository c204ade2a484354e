use Rattle.std.proofs.Common.{arith}
use Rattle.txc_script.specs.Words.{words_of}
use Rattle.txc_script.proofs.Blanks.{some_taken, some_word}
use Rattle.txc_script.proofs.words.WordsLeft.pop.Goals as goal

pub next-requires : goal.next-requires
next-requires c = let self = c.args.self.now in some_taken self.count (words_of self.rest.now) (omega arith) (some_word self.rest.now)
