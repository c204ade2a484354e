use Rattle.std.proofs.Common.{◌≡◌, ◌++◌, ◌≤◌, All, string_bytes}
use Rattle.txc_node.specs.Counts.{counts_of}
use Rattle.txc_tags.specs.declared.key.TheConstants.{LAST_FUNCTION}
use Rattle.txc_script_node.specs.Reports.{functions_text}
use Rattle.txc_script_node.proofs.report.Report.function_lines.Given as goal

abbrev pub invariant-loop-function : goal.invariant-loop-function
invariant-loop-function l = record {
  text : string_bytes l.text ++ functions_text (counts_of l.self.counts.functions) l.function-iterator ≡ functions_text (counts_of l.self.counts.functions) l.self.functions.keys;
  in_range : All (λ f. f ≤ LAST_FUNCTION) l.function-iterator;
}
