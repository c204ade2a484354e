use Rattle.std.proofs.Common.{List, IfErr, IfOk, subst, ◌∙◌}
use Rattle.txc_script.specs.LineFaults.{IsKindsFault, IsWrong}
use Rattle.txc_script.specs.ParsedWords.{SayAll}
use Rattle.txc_script.specs.Words.{words_left}
use Rattle.txc_script.specs.declared.line_fault.WordKind.{WordKind}
use Rattle.txc_script.specs.declared.line_fault.WordKind.TheVariants.{Key}
use Rattle.txc_script.proofs.WordFaults.{same_kinds}
use Rattle.txc_script.proofs.reading.read_words.Goals as goal

pub returns-clause-answer : goal.returns-clause-answer
returns-clause-answer g c =
    let words = words_left c.args.words in
    subst (λ (ks : List WordKind). IfOk c.read_each.result (λ said. SayAll ks words said.items)) (same_kinds c.args.kinds.now Key words (c.requires ∙ c.if-count-kinds.false)) c.read_each.ensures.answer

pub returns-clause-refused : goal.returns-clause-refused
returns-clause-refused g c =
    let words = words_left c.args.words in
    subst (λ (ks : List WordKind). IfErr c.read_each.result (IsWrong (IsKindsFault ks words))) (same_kinds c.args.kinds.now Key words (c.requires ∙ c.if-count-kinds.false)) c.read_each.ensures.refused
