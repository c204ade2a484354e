use Rattle.std.proofs.Common.{sym, arith}
use Rattle.std.proofs.lemmas.List.{take-take}
use Rattle.txc_script.specs.Words.{words_of}
use Rattle.txc_script.proofs.Blanks.{taken_few}
use Rattle.txc_script.proofs.words.WordsLeft.first.Goals as goal

pub returns : goal.returns
returns c =
    let self = c.args.self in
    sym (take-take c.args.count self.count (words_of self.rest.now) (omega (arith, c.requires, taken_few self.count (words_of self.rest.now))))
