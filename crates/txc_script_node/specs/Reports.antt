-- The text of a report on the lines' replies: counts of the replies by function, and in all.
use Rattle.std.specs.Prelude.{◌≡◌, ℕ, List, [], ◌∷◌, ◌++◌, Option, Some, None, nat_eq, not, filter, codes, if◌then◌else◌}
use Rattle.std.specs.Fmt.{decimal}
use Rattle.std.specs.List.{flat_map, list_any, sum_by}
use Rattle.txc_node.specs.declared.counts.FunctionCounts.{FunctionCounts}
use Rattle.txc_node.specs.declared.hit.HitValue.{HitValue}
use Rattle.txc_node.specs.declared.op.Op.{Op}
use Rattle.txc_node.specs.declared.record.Record.{Record}
use Rattle.txc_node.specs.declared.reply.Reply.{Reply}
use Rattle.txc_node.specs.Counts.{Totals, AreCountsOf, events_by, closed_by, swept_by}
use Rattle.txc_node.specs.Steps.{is_refusal, function_of}
use Rattle.txc_script.specs.FunctionLines.{counts_in, function_line}
use Rattle.txc_script.specs.Kinds.{Given, Nothing, Replied, Malformed}

-- ---- counts

-- a step that a line names, with its reply, as the only one of a pass
abbrev pub step_by : Op → Reply HitValue → Record
step_by op reply = record { pass = 0; turn = 0; op = op; reply = reply }

-- the steps of the lines that are not refused
abbrev pub steps_in : Given Op (Reply HitValue) → List Record
steps_in Nothing = []
steps_in (Replied op reply) = if is_refusal reply then [] else step_by op reply ∷ []
steps_in (Malformed number) = []

abbrev pub steps_of : List (Given Op (Reply HitValue)) → List Record
steps_of given = flat_map steps_in given

-- a name before others, which do not repeat it
abbrev pub before_others : Option ℕ → List ℕ → List ℕ
before_others None names = names
before_others (Some f) names = f ∷ filter (λ other. not (nat_eq f other)) names

-- the functions that steps name, each once, in the order of its first naming
abbrev pub functions_named : List Record → List ℕ
functions_named [] = []
functions_named (step ∷ steps) = before_others (function_of step.op) (functions_named steps)

-- ---- texts

-- the line of what is counted in all
abbrev pub total_line : ℕ → ℕ → ℕ → List ℕ
total_line events closed swept =
    codes "total events " ++ (decimal events ++ (codes " closed " ++ (decimal closed
    ++ (codes " swept " ++ (decimal swept ++ 10 ∷ [])))))

-- a line for each of the functions
abbrev pub functions_text : (ℕ → FunctionCounts) → List ℕ → List ℕ
functions_text counts functions = flat_map (λ f. function_line f (counts f) ++ 10 ∷ []) functions

-- a line for each function that is named, and then that of all
abbrev pub steps_report : List Record → List ℕ
steps_report steps =
    functions_text (counts_in steps) (functions_named steps)
    ++ total_line (sum_by (λ s. events_by s.reply) steps) (sum_by (λ s. closed_by s.reply) steps)
    (sum_by (λ s. swept_by s.reply) steps)

abbrev pub report_text : List (Given Op (Reply HitValue)) → List ℕ
report_text given = steps_report (steps_of given)

-- ---- only private functions need these: a report in progress

-- a name after the others, if it is not among them
abbrev pub with_name : Option ℕ → List ℕ → List ℕ
with_name None names = names
with_name (Some f) names = if list_any (nat_eq f) names then names else names ++ f ∷ []

-- the names and the counts are those of the steps
pub record IsReportOf (steps : List Record) (names : List ℕ) (counts : Totals) : Type 0 where
  pub names_are : names ≡ functions_named steps
  pub counts_are : AreCountsOf steps counts
