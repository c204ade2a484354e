use Rattle.std.proofs.Common.{ℕ, List, ◌++◌, false, ap, refl, string_bytes, ◌∙◌}
use Rattle.txc_script.specs.Kinds.{Closing}
use Rattle.txc_script_node.specs.Reports.{steps_of}
use Rattle.txc_script_node.proofs.node.CountingScript.close.Goals as goal

abbrev closing_of : List ℕ → Closing
closing_of text = record { text = text; is_refused = false }

pub returns-clause-closed : goal.returns-clause-closed
returns-clause-closed g c = record {
  more = string_bytes c.in_ok-report.report;
  text = c.in_ok-extend_from_slice.ensures.items ∙ ap (λ (xs : List ℕ). c.args.text.now.items ++ xs) c.as_bytes.ensures.value;
  closes = λ given none counted. (ap closing_of (c.in_ok-report.ensures (steps_of given) counted), refl);
}
