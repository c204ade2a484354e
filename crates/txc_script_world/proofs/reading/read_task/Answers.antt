use Rattle.std.proofs.Common.{◌≡◌, ℕ, List, ◌∷◌, length, sym, ap, subst, arith, inl, inr, ◌∙◌}
use Rattle.std.proofs.lemmas.List.Splits.{length-slice_split}
use Rattle.txc_script.specs.Words.{is_blank, words_left, words_of}
use Rattle.txc_script.specs.declared.line_fault.CommandFault.TheVariants.{Unknown}
use Rattle.txc_script.proofs.Offered.{wrong_as}
use Rattle.txc_script_lines.specs.Faults.{IsFaultAfter}
use Rattle.txc_script_lines.specs.Names.{name_text}
use Rattle.txc_script_lines.specs.LineWords.{AreBodies}
use Rattle.txc_script_world.specs.Tasks.{task_said}
use Rattle.txc_script_world.specs.WorldFaults.{IsWorldFault}
use Rattle.txc_script_world.proofs.TaskNames.{asks_some}
use Rattle.txc_script_world.proofs.reading.read_task.Goals as goal

pub next-word-requires : goal.next-word-requires
next-word-requires c = omega (arith, ap length c.all_words-words.ensures, length-slice_split is_blank c.args.line.now)

pub returns-in_default-clause-refused : goal.returns-in_default-clause-refused
returns-in_default-clause-refused c =
    inl (c.next-word.result.now, words_left c.next-word.new.self, sym c.all_words-words.ensures ∙ c.next-word.ensures, c.in_default.ensures.refused, ap Unknown c.new.ensures)

pub returns-in_err-said-clause-refused : goal.returns-in_err-said-clause-refused
returns-in_err-said-clause-refused c =
    let words = words_left c.next-word.new.self in
    let cut : words_of c.args.line.now ≡ name_text c.in-Some.name ∷ words = sym c.all_words-words.ensures ∙ c.next-word.ensures ∙ ap (λ (w : List ℕ). w ∷ words) c.in-Some.ensures.answer in
    wrong_as _ c.in_err-said.field-0.0 (IsFaultAfter c.in-Some.name words) (IsWorldFault (words_of c.args.line.now)) c.from_residual.ensures c.in_err-said.ensures.refused (λ fault h. inr (c.in-Some.name, words, cut, h))

pub task_of-requires : goal.task_of-requires
task_of-requires c =
    subst AreBodies (sym c.as_slice.ensures.value) (asks_some c.in-Some.name (words_left c.next-word.new.self) c.in_ok-said.said.items c.in_ok-said.ensures.answer).bodies

pub unreachable-requires : goal.unreachable-requires
unreachable-requires c =
    (asks_some c.in-Some.name (words_left c.next-word.new.self) c.in_ok-said.said.items c.in_ok-said.ensures.answer).some
    (ap (task_said c.in-Some.name) (sym c.as_slice.ensures.value) ∙ sym c.in_ok-task.ensures ∙ c.in-None.is)
