use Rattle.std.proofs.Common.{List, ℕ, subst, take}
use Rattle.txc_script.specs.ParsedWords.{SayAll}
use Rattle.txc_script.specs.Words.{words_left}
use Rattle.txc_script.specs.declared.line_fault.WordKind.{WordKind}
use Rattle.txc_script.proofs.Offered.{said_of}
use Rattle.txc_script_lines.specs.Faults.{first_kinds}
use Rattle.txc_script_lines.proofs.Meant.{none_unkind}
use Rattle.txc_script_lines.proofs.said.find_without_kinds.Goals as goal

pub unreachable-requires : goal.unreachable-requires
unreachable-requires c =
    let words = words_left c.args.words in
    let first = subst (λ (ws : List (List ℕ)). SayAll c.first_kinds.result.now ws c.in-Ok.field-0.items) c.first.ensures c.in-Ok.ensures.answer in
    let said = said_of (first_kinds c.args.name) (take 2 words) c.in-Ok.field-0.items (subst (λ (ks : List WordKind). SayAll ks (take 2 words) c.in-Ok.field-0.items) c.first_kinds.ensures first) in
    none_unkind c.args.name words said.0 c.requires.unknown said.1
