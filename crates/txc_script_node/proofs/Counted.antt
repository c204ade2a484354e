-- A run whose replies are counted is one whose report is written after all lines.
use Rattle.std.proofs.Common.{◌≡◌, ℕ, ◌+◌, Bool, true, false, ◌||◌, List, [], ◌∷◌, ◌++◌, Option, Result, Ok, Err, refl, sym, ap, subst, take, ◌∙◌, append_assoc, inl, inr}
use Rattle.std.specs.Prelude.{MatchBool}
use Rattle.std.specs.List.{flat_map, list_any}
use Rattle.std.proofs.lemmas.List.{append-nil}
use Rattle.txc_script_settings.specs.declared.mode.Mode.TheVariants.{Node, Report}
use Rattle.txc_node.specs.Cache.{Cache}
use Rattle.txc_node.specs.declared.hit.HitValue.{HitValue}
use Rattle.txc_node.specs.declared.op.Op.{Op}
use Rattle.txc_node.specs.declared.record.Record.{Record}
use Rattle.txc_node.specs.declared.reply.Reply.{Reply}
use Rattle.txc_script.specs.Kinds.{Given, Nothing, Replied, Malformed, AreGiven, Closing, Gives, IsFaultOf, IsMalformed, IsStatusOf, is_malformed, is_refused, line_text, lines_text}
use Rattle.txc_script.specs.Runs.{Breaks, After, Within, AtEnd, BreaksOff, Ends, ScriptHasRun, ScriptHasWritten}
use Rattle.txc_script.specs.declared.fault.RunFault.{RunFault}
use Rattle.txc_script.specs.declared.fault.RunFault.TheVariants as faults
use Rattle.txc_script.specs.declared.fault.Status.{Status}
use Rattle.txc_script.specs.declared.fault.Status.TheVariants as statuses
use Rattle.txc_script.specs.declared.line_fault.LineFault.{LineFault}
use Rattle.txc_script.specs.declared.line_fault.LineFault.TheVariants.{TooLong, Byte, Blanks, Command}
use Rattle.txc_script_node.specs.ReportProgress.{HasReport, counted_script}
use Rattle.txc_script_node.specs.NodeScripts.{node_script}
use Rattle.txc_script_node.specs.Reports.{IsReportOf, steps_in, steps_of}
use Rattle.txc_script_node.specs.declared.node.Counted.{Counted}
use Rattle.txc_script_node.proofs.Reporting.{steps_more}

-- ---- one line

same_malformed : {F : Type 0} (s : Counted) (line : List ℕ) → IsMalformed (counted_script {F = F}) s line → IsMalformed (node_script {F = F} Report) s.node line
same_malformed s line h = record { not_quiet = h.not_quiet; asks_nothing = h.asks_nothing }

same_gives : (F : Type 0) (s : Counted) (n : ℕ) (line : List ℕ) (g : Given Op (Reply HitValue)) (next : Counted) → Gives (counted_script {F = F}) s n line g next → Gives (node_script {F = F} Report) s.node n line g next.node
same_gives F s n line Nothing next h = (h.0, ap (λ (x : Counted). x.node) h.1)
same_gives F s n line (Replied op reply) next h = (h.0, h.1.0)
same_gives F s n line (Malformed k) next h = (same_malformed s line h.0, h.1, ap (λ (x : Counted). x.node) h.2)

-- a line that names no step counts nothing
none_counted : (s : Counted) (g : Given Op (Reply HitValue)) (next : Counted) (before : List (Given Op (Reply HitValue))) → steps_in g ≡ [] → next ≡ s → HasReport before s.report → HasReport (before ++ g ∷ []) next.report
none_counted s g next before none same h =
    subst (λ (x : Counted). HasReport (before ++ g ∷ []) x.report) (sym same)
    (subst (λ (steps : List Record). IsReportOf steps s.report.functions.keys s.report.counts)
    (sym (steps_more before g ∙ ap (λ (xs : List Record). steps_of before ++ xs) none ∙ append-nil (steps_of before))) h)

counts_more : (F : Type 0) (s : Counted) (n : ℕ) (line : List ℕ) (g : Given Op (Reply HitValue)) (next : Counted) (before : List (Given Op (Reply HitValue))) → Gives (counted_script {F = F}) s n line g next → HasReport before s.report
    → HasReport (before ++ g ∷ []) next.report
counts_more F s n line Nothing next before h counted = none_counted s Nothing next before refl h.1 counted
counts_more F s n line (Replied op reply) next before h counted = h.1.1 before counted
counts_more F s n line (Malformed k) next before h counted = none_counted s (Malformed k) next before refl h.2 counted

-- ---- all lines

record GivenCounted (F : Type 0) (start : Cache) (n : ℕ) (lines : List (List ℕ)) (before given : List (Given Op (Reply HitValue))) (end : Counted) : Type 0 where
  answers : AreGiven (node_script {F = F} Report) start n lines given end.node
  counted : HasReport (before ++ given) end.report

given_counted : (F : Type 0) (s : Counted) (n : ℕ) (lines : List (List ℕ)) (before given : List (Given Op (Reply HitValue))) (end : Counted) → AreGiven (counted_script {F = F}) s n lines given end → HasReport before s.report
    → GivenCounted F s.node n lines before given end
given_counted F s n [] before [] end h counted = record {
  answers = ap (λ (x : Counted). x.node) h;
  counted = subst (λ (x : Counted). HasReport (before ++ []) x.report) (sym h) (subst (λ (gs : List (Given Op (Reply HitValue))). HasReport gs s.report) (sym (append-nil before)) counted);
}
given_counted F s n [] before (g ∷ given) end h counted = absurd h
given_counted F s n (line ∷ lines) before [] end h counted = absurd h
given_counted F s n (line ∷ lines) before (g ∷ given) end h counted =
    let rest = given_counted F h.0 (n + 1) lines (before ++ g ∷ []) given end h.3 (counts_more F s n line g h.0 before h.1 counted) in
    record {
      answers = (h.0.node, same_gives F s n line g h.0 h.1, h.2, rest.answers);
      counted = subst (λ (gs : List (Given Op (Reply HitValue))). HasReport gs end.report) (append_assoc before (g ∷ []) given) rest.counted;
    }

same_line : (F : Type 0) (g : Given Op (Reply HitValue)) → line_text (counted_script {F = F}) g ≡ line_text (node_script {F = F} Report) g
same_line F Nothing = refl
same_line F (Replied op reply) = refl
same_line F (Malformed k) = refl

same_text : (F : Type 0) (given : List (Given Op (Reply HitValue))) → lines_text (counted_script {F = F}) given ≡ lines_text (node_script {F = F} Report) given
same_text F given = λ i. flat_map (λ (g : Given Op (Reply HitValue)). same_line F g i) given

same_refused : (F : Type 0) (g : Given Op (Reply HitValue)) → is_refused (counted_script {F = F}) g ≡ is_refused (node_script {F = F} Report) g
same_refused F Nothing = refl
same_refused F (Replied op reply) = refl
same_refused F (Malformed k) = refl

any_refused : (F : Type 0) (given : List (Given Op (Reply HitValue))) → list_any (is_refused (counted_script {F = F})) given ≡ list_any (is_refused (node_script {F = F} Report)) given
any_refused F given = λ i. list_any (λ (g : Given Op (Reply HitValue)). same_refused F g i) given

same_fault : {F : Type 0} (s : Counted) (line : List ℕ) (fault : LineFault F) → IsFaultOf (counted_script {F = F}) s line fault → IsFaultOf (node_script {F = F} Report) s.node line fault
same_fault s line TooLong h = h
same_fault s line (Byte at byte) h = h
same_fault s line Blanks h = h
same_fault s line (Command fault) h = h

same_status : {F : Type 0} (left : Counted) (lines : List (List ℕ)) (given : List (Given Op (Reply HitValue))) (closing : Closing) (status : Status F) → IsStatusOf (counted_script {F = F}) left lines given closing status
    → IsStatusOf (node_script {F = F} Report) left.node lines given closing status
same_status {F} left lines given closing statuses.Done h = ap (λ (b : Bool). b || closing.is_refused) (sym (any_refused F given)) ∙ h
same_status {F} left lines given closing statuses.Refused h = (ap (λ (b : Bool). b || closing.is_refused) (sym (any_refused F given)) ∙ h.0, h.1)
same_status {F} left lines given closing (statuses.Malformed bad) h = (h.0, (h.1.0, (h.1.1.0, h.1.1.1, h.1.1.2, same_fault left h.1.1.1 bad.fault h.1.1.3)))

-- ---- the end of a run

closed_by : (b : Bool) (P Q R T : Type 0) → (P → R) → (Q → T) → MatchBool b P Q → MatchBool b R T
closed_by true P Q R T f g h = f h
closed_by false P Q R T f g h = g h

same_ends : {F : Type 0} (start : Counted) (read : List ℕ) (at_end : Type 0) (lines : List (List ℕ)) (given : List (Given Op (Reply HitValue))) (closing : Closing) (left : Counted) → HasReport [] start.report
    → Ends (counted_script {F = F}) start read at_end lines given closing left → Ends (node_script {F = F} Report) start.node read at_end lines given closing left.node
same_ends {F} start read at_end lines given closing left none h =
    let all = given_counted F start 1 lines [] given h.end h.answers none in
    record {
      end = h.end.node;
      answers = all.answers;
      whole = h.whole;
      closes = closed_by (list_any is_malformed given) _ _ _ _ (λ k. (k.0, ap (λ (x : Counted). x.node) k.1)) (λ k. k all.counted) h.closes;
    }

same_breaks : {F : Type 0} (read : List ℕ) (at_end : Type 0) (lines : List (List ℕ)) (end left : Counted) → Breaks (counted_script {F = F}) read at_end lines end left → Breaks (node_script {F = F} Report) read at_end lines end.node left.node
same_breaks read at_end lines end left (After others begins same) = After others begins (ap (λ (x : Counted). x.node) same)
same_breaks read at_end lines end left (Within others line begins first plain broke) = Within others line begins first plain tt
same_breaks read at_end lines end left (AtEnd all ended broke) = AtEnd all ended tt

same_broke : {F : Type 0} (start : Counted) (read : List ℕ) (at_end : Type 0) (lines : List (List ℕ)) (given : List (Given Op (Reply HitValue))) (left : Counted) → HasReport [] start.report
    → BreaksOff (counted_script {F = F}) start read at_end lines given left → BreaksOff (node_script {F = F} Report) start.node read at_end lines given left.node
same_broke {F} start read at_end lines given left none h = record {
  end = h.end.node;
  answers = (given_counted F start 1 lines [] given h.end h.answers none).answers;
  breaks = same_breaks read at_end lines h.end left h.breaks;
}

same_written : {F : Type 0} (start : Counted) (read : List ℕ) (at_end : Type 0) (written : List ℕ) (r : Result (Status F) RunFault) (left : Counted) → HasReport [] start.report
    → ScriptHasWritten (counted_script {F = F}) start read at_end written r left → ScriptHasWritten (node_script {F = F} Report) start.node read at_end written r left.node
same_written {F} start read at_end written (Ok status) left none h = (
  h.0,
  h.1,
  h.2,
  same_ends start read at_end h.0 h.1 h.2 left none h.3,
  h.4 ∙ ap (λ (xs : List ℕ). xs ++ h.2.text) (same_text F h.1),
  same_status left h.0 h.1 h.2 status h.5,
)
same_written {F} start read at_end written (Err faults.Read) left none h =
    (h.0, h.1, h.2, (given_counted F start 1 h.0 [] h.1 left h.3 none).answers, h.4, h.5, h.6 ∙ same_text F h.1, h.7)
same_written {F} start read at_end written (Err faults.Write) left none (lines, given, n, inl h) =
    (lines, given, n, inl (same_broke start read at_end lines given left none h.0, h.1 ∙ ap (take n) (same_text F given)))
same_written {F} start read at_end written (Err faults.Write) left none (lines, given, n, inr h) =
    (lines, given, n, inr (h.0, same_ends start read at_end lines given h.0 left none h.1, h.2 ∙ ap (λ (xs : List ℕ). take n (xs ++ h.0.text)) (same_text F given)))
same_written {F} start read at_end written (Err faults.Memory) left none h = (h.0, h.1, same_broke start read at_end h.0 h.1 left none h.2, h.3 ∙ same_text F h.1, h.4)

pub same_run : {F : Type 0} (start : Counted) (a b w x : Option (List ℕ)) (r : Result (Status F) RunFault) (left : Counted) (c : Cache) → start.node ≡ c → HasReport [] start.report → ScriptHasRun (counted_script {F = F}) start a b w x r left
    → ScriptHasRun (node_script {F = F} Report) c a b w x r left.node
same_run {F} start a b w x r left c is none h =
    subst (λ (c : Cache). ScriptHasRun (node_script {F = F} Report) c a b w x r left.node) is (h.0, h.1, h.2, h.3, same_written start h.0 _ h.1 r left none h.4)

-- a run begins in the same cache
pub run_from : {F : Type 0} (start c : Cache) (a b w x : Option (List ℕ)) (r : Result (Status F) RunFault) (left : Cache) → start ≡ c → ScriptHasRun (node_script {F = F} Node) start a b w x r left → ScriptHasRun (node_script {F = F} Node) c a b w x r left
run_from {F} start c a b w x r left is h = subst (λ (s : Cache). ScriptHasRun (node_script {F = F} Node) s a b w x r left) is h
