use Rattle.std.proofs.Common.{ap, min, sym, ◌∙◌}
use Rattle.std.proofs.lemmas.List.{length-take}
use Rattle.txc_script.specs.Words.{words_of}
use Rattle.txc_script.proofs.words.WordsLeft.len.Goals as goal

pub returns : goal.returns
returns c = let self = c.args.self in c.min.ensures ∙ ap (min self.count) c.count_words.ensures.count ∙ sym (length-take self.count (words_of self.rest.now))
