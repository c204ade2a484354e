use Rattle.std.proofs.Common.{arith}
use Rattle.std.proofs.lemmas.List.{take_all}
use Rattle.std.proofs.lemmas.List.Splits.{length-slice_split}
use Rattle.std.proofs.lemmas.List.Sums.{count_by-le-length}
use Rattle.txc_script.specs.Words.{is_blank, words_of}
use Rattle.txc_script.proofs.words.all_words.Goals as goal

pub returns : goal.returns
returns c = let text = c.args.text.now in take_all _ (words_of text) (omega (arith, length-slice_split is_blank text, count_by-le-length is_blank text))
