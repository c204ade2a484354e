use Rattle.std.proofs.Common.{arith}
use Rattle.std.proofs.lemmas.List.Splits.{length-slice_split}
use Rattle.txc_script.specs.Words.{is_blank}
use Rattle.txc_script.proofs.words.count_words.Goals as goal

pub returns-clause-count : goal.returns-clause-count
returns-clause-count c = let counted = length-slice_split is_blank c.args.text.now in omega arith
