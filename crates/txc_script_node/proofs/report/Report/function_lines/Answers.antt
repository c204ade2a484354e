use Rattle.std.proofs.Common.{◌≤◌, ◌++◌, ◌∷◌, [], ap, ◌∙◌, ℕ, List, string_bytes}
use Rattle.std.proofs.lemmas.List.Elements.{All-rest}
use Rattle.txc_node.specs.Counts.{counts_of}
use Rattle.txc_node.specs.declared.counts.FunctionCounts.{FunctionCounts}
use Rattle.txc_tags.specs.declared.key.TheConstants.{LAST_FUNCTION}
use Rattle.txc_script.specs.FunctionLines.{function_line}
use Rattle.txc_script_node.proofs.Reporting.{line_more}
use Rattle.txc_script_node.proofs.report.Report.function_lines.Goals as goal

pub loop-function-preserved : goal.loop-function-preserved
loop-function-preserved c =
    let at = c.in-Some.ensures.steps in
    record {
      text = line_more (counts_of c.args.self.now.counts.functions) (string_bytes c.loop-function.text) (string_bytes c.in_ok-line.line) (string_bytes c.push_str.new.self) _ c.in-Some.function.now
          c.loop-function.function-iterator c.next.new.self at c.loop-function.invariant.text
          (c.in_ok-push_str.ensures.bytes ∙ ap (λ (xs : List ℕ). string_bytes c.loop-function.text ++ xs) c.as_str.ensures.value) (c.in_ok-line.ensures ∙ ap (λ (k : FunctionCounts). function_line c.in-Some.function.now k ++ 10 ∷ []) c.of.ensures);
      in_range = All-rest (λ f. f ≤ LAST_FUNCTION) c.in-Some.function.now c.next.new.self c.loop-function.function-iterator at c.loop-function.invariant.in_range;
    }
