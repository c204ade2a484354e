use Rattle.std.proofs.Common.{sym, ◌∙◌}
use Rattle.txc_script.proofs.WordFaults.{whole_words}
use Rattle.txc_script.proofs.finding.bad_words.Goals as goal

pub returns-then-has_empty_word : goal.returns-then-has_empty_word
returns-then-has_empty_word g c = (c.requires.plain, sym c.has_empty_word.ensures ∙ c.if-has_empty_word.true)

pub returns : goal.returns
returns g c = (whole_words c.args.line.now c.has_empty_word.result c.requires.plain c.has_empty_word.ensures c.if-has_empty_word.false, c.requires.wrong)
