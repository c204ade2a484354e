-- Scripts of a node: the requests of their lines and the replies, by the mode of the run.
use Rattle.std.specs.Prelude.{◌≡◌, ℕ, false, List, [], ◌∷◌, ◌++◌}
use Rattle.txc_script_settings.specs.declared.mode.Mode.{Mode}
use Rattle.txc_script_settings.specs.declared.mode.Mode.TheVariants.{Node, Report}
use Rattle.txc_node.specs.declared.value.TheConstants.{MAX_VALUE_LEN}
use Rattle.txc_node.specs.declared.hit.HitValue.{HitValue}
use Rattle.txc_node.specs.declared.op.Op.{Op}
use Rattle.txc_node.specs.declared.reply.Reply.{Reply}
use Rattle.txc_node.specs.Cache.{Cache}
use Rattle.txc_node.specs.Steps.{is_refusal, MayReply}
use Rattle.txc_node.specs.Texts.{reply_text}
use Rattle.txc_script.specs.Kinds.{ScriptKind, Given, Closing}
use Rattle.txc_script.specs.LineFaults.{IsCommandFault}
use Rattle.txc_script_node.specs.Lines.{Spells, node_forms}
use Rattle.txc_script_node.specs.Reports.{report_text}

-- the text of a reply, written at once: none for a report
abbrev pub reply_line : Mode → Reply HitValue → List ℕ
reply_line Node reply = reply_text reply ++ 10 ∷ []
reply_line Report reply = []

-- the text after all lines, none of which was malformed: the report
abbrev pub closing_text : Mode → List (Given Op (Reply HitValue)) → List ℕ
closing_text Node given = []
closing_text Report given = report_text given

-- the cache is unchanged, and no refusal is written
abbrev pub CloseNode : Mode → Cache → List (Given Op (Reply HitValue)) → Closing → Cache → Type 0
CloseNode mode c given closing next =
    (closing ≡ record { text = closing_text mode given; is_refused = false }) × (next ≡ c)

-- only a report may lack memory at the end
abbrev pub MayBreakAtEnd : Mode → Type 0
MayBreakAtEnd Node = ⊥
MayBreakAtEnd Report = Unit {0}

-- A script of a node's lines, each of which names a step. Nothing is stated of the cache that is left if there
-- is no memory: no line finds it.
abbrev pub node_script : {F : Type 0} → Mode → ScriptKind Cache Op (Reply HitValue) F
node_script mode = record {
  asks = λ c. Spells;
  does = MayReply MAX_VALUE_LEN;
  breaks_off = λ c line next. Unit {0};
  text = reply_line mode;
  is_refused = is_refusal;
  is_wrong = λ c. IsCommandFault node_forms;
  closes = CloseNode mode;
  breaks_at_end = λ c next. MayBreakAtEnd mode;
}
