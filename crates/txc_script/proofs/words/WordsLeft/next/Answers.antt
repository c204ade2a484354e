use Rattle.std.proofs.Common.{ap, subst, take, arith, ◌∙◌}
use Rattle.std.proofs.lemmas.List.{take_all}
use Rattle.txc_script.specs.Words.{HasNoBlank, words_of}
use Rattle.txc_script.proofs.Blanks.{words_cut, words_alone, some_left, take_first, take_one}
use Rattle.txc_script.proofs.words.WordsLeft.next.Goals as goal

pub returns-then-end-text : goal.returns-then-end-text
returns-then-end-text c =
    let self = c.args.self.now in
    let bare : HasNoBlank self.rest.now = subst HasNoBlank (take_all c.word_len-end.result self.rest.now (omega (arith, c.if-end-text.true))) c.word_len-end.ensures.bare in
    ap (take self.count) (words_alone self.rest.now bare) ∙ take_one self.count self.rest.now (some_left self.count (words_of self.rest.now) c.requires)

pub returns : goal.returns
returns c =
    let self = c.args.self.now in
    ap (take self.count) (words_cut self.rest.now c.cut_word.result.0.now c.cut_word.result.1.now c.cut_word.ensures.0 c.cut_word.ensures.1)
    ∙ take_first self.count c.cut_word.result.0.now (words_of c.cut_word.result.1.now) (some_left self.count (words_of self.rest.now) c.requires)
