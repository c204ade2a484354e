use Rattle.std.proofs.Common.{◌≡◌, List, Option, Result, Ok, Err, Some, None, IfOk, ℕ, sym, ap, subst, ◌∙◌}
use Rattle.std.specs.Global.{Vec}
use Rattle.std.specs.Prelude.{MatchOption}
use Rattle.txc_script.specs.LineFaults.{IsKindsFault}
use Rattle.txc_script.specs.ParsedWords.{SayAll}
use Rattle.txc_script.specs.Words.{words_left}
use Rattle.txc_script.specs.declared.line_fault.WordKind.{WordKind}
use Rattle.txc_script.specs.declared.parsed_word.ParsedWord.{ParsedWord}
use Rattle.txc_script.proofs.Offered.{wrong_in, wrong_of}
use Rattle.txc_script_lines.specs.Faults.{IsFaultAfter, IsUnkindFault, WordsFault, kinds_after_name, second_of}
use Rattle.txc_script_lines.specs.LineWords.{SaysAfter}
use Rattle.txc_script_lines.specs.declared.name.LineName.{LineName}
use Rattle.txc_script_lines.proofs.said.read_after_name.Goals as goal

-- by the kinds, or where there are none
by_kinds : (name : LineName) (words : List (List ℕ)) (o : Option (List WordKind)) (fault : WordsFault) → kinds_after_name name (second_of words) ≡ o
    → MatchOption o (IsUnkindFault name words fault) (λ kinds. IsKindsFault kinds words fault) → IsFaultAfter name words fault
by_kinds name words o fault e h = subst (λ (k : Option (List WordKind)). MatchOption k (IsUnkindFault name words fault) (λ kinds. IsKindsFault kinds words fault)) (sym e) h

says_after : {E : Type 0} (name : LineName) (words : List (List ℕ)) (kinds : List WordKind) (r : Result (Vec ParsedWord) E) → kinds_after_name name (second_of words) ≡ Some kinds → IfOk r (λ said. SayAll kinds words said.items)
    → IfOk r (λ said. SaysAfter name words said.items)
says_after name words kinds (Ok said) known h = record { kinds = kinds; known = known; say = h }
says_after name words kinds (Err e) known h = tt

pub returns-in-Some-clause-answer : goal.returns-in-Some-clause-answer
returns-in-Some-clause-answer c =
    let words = words_left c.args.words in
    says_after c.args.name words c.in-Some.kinds.now c.read_words.result (ap (kinds_after_name c.args.name) (sym c.second_of.ensures) ∙ c.in-Some.ensures.answer) c.read_words.ensures.answer

pub returns-in-Some-clause-refused : goal.returns-in-Some-clause-refused
returns-in-Some-clause-refused c =
    let words = words_left c.args.words in
    let known = ap (kinds_after_name c.args.name) (sym c.second_of.ensures) ∙ c.in-Some.ensures.answer in
    wrong_of c.read_words.result _ (IsFaultAfter c.args.name words) c.read_words.ensures.refused (λ fault h. by_kinds c.args.name words (Some c.in-Some.kinds.now) fault known h)

pub find_without_kinds-requires-clause-unknown : goal.find_without_kinds-requires-clause-unknown
find_without_kinds-requires-clause-unknown c = ap (kinds_after_name c.args.name) (sym c.second_of.ensures) ∙ c.in-None.ensures.refused

pub returns-in-None-clause-refused : goal.returns-in-None-clause-refused
returns-in-None-clause-refused c =
    let words = words_left c.args.words in
    let none = ap (kinds_after_name c.args.name) (sym c.second_of.ensures) ∙ c.in-None.ensures.refused in
    wrong_in c.find_without_kinds.result _ (IsFaultAfter c.args.name words) c.find_without_kinds.ensures (λ fault h. by_kinds c.args.name words None fault none h)
