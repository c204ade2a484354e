-- Only private functions need this file: a report in progress.
use Rattle.std.specs.Prelude.{◌++◌, ◌∷◌, [], List}
use Rattle.txc_script_settings.specs.declared.mode.Mode.TheVariants.{Report}
use Rattle.txc_node.specs.declared.value.TheConstants.{MAX_VALUE_LEN}
use Rattle.txc_node.specs.declared.hit.HitValue.{HitValue}
use Rattle.txc_node.specs.declared.op.Op.{Op}
use Rattle.txc_node.specs.declared.reply.Reply.{Reply}
use Rattle.txc_node.specs.Steps.{is_refusal, MayReply}
use Rattle.txc_script.specs.Kinds.{ScriptKind, Given, Replied}
use Rattle.txc_script.specs.LineFaults.{IsCommandFault}
use Rattle.txc_script_node.specs.Lines.{Spells, node_forms}
use Rattle.txc_script_node.specs.NodeScripts.{CloseNode, reply_line}
use Rattle.txc_script_node.specs.Reports.{IsReportOf, steps_of}
use Rattle.txc_script_node.specs.declared.report.Report as reports
use Rattle.txc_script_node.specs.declared.node.Counted.{Counted}

-- the report is that of what lines gave
abbrev pub HasReport : List (Given Op (Reply HitValue)) → reports.Report → Type 0
HasReport given report = IsReportOf (steps_of given) report.functions.keys report.counts

-- a reply to a step was counted
abbrev pub Counts : reports.Report → Op → Reply HitValue → reports.Report → Type 0
Counts old op reply new =
    (given : List (Given Op (Reply HitValue))) → HasReport given old
    → HasReport (given ++ Replied op reply ∷ []) new

-- a script of a node's lines whose replies are counted
abbrev pub counted_script : {F : Type 0} → ScriptKind Counted Op (Reply HitValue) F
counted_script = record {
  asks = λ s. Spells;
  does = λ s op reply next. MayReply MAX_VALUE_LEN s.node op reply next.node × Counts s.report op reply next.report;
  breaks_off = λ s line next. Unit {0};
  text = reply_line Report;
  is_refused = is_refusal;
  is_wrong = λ s. IsCommandFault node_forms;
  closes = λ s given closing next. HasReport given s.report → CloseNode Report s.node given closing next.node;
  breaks_at_end = λ s next. Unit {0};
}
