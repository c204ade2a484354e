-- What lines gave is taken.
use Rattle.std.proofs.Common.{◌≡◌, ◌++◌, Bool, true, false, List, ℕ, [], ◌∷◌, Option, Some, None, IfNone, IfSome, refl, sym, ap, subst, inr, ◌∙◌}
use Rattle.std.specs.Prelude.{if◌then◌else◌}
use Rattle.std.proofs.lemmas.List.{append-nil}
use Rattle.txc_node.specs.declared.value.TheConstants.{MAX_VALUE_LEN}
use Rattle.txc_node.specs.Cache.{Cache}
use Rattle.txc_node.specs.declared.hit.HitValue.{HitValue}
use Rattle.txc_node.specs.declared.op.Op.{Op}
use Rattle.txc_node.specs.declared.record.Record.{Record}
use Rattle.txc_node.specs.declared.reply.Reply.{Reply}
use Rattle.txc_node.specs.Steps.{is_refusal, MayReply}
use Rattle.txc_script_settings.specs.declared.mode.Mode.TheVariants.{Node}
use Rattle.txc_script.specs.Answers.{IsUnanswered}
use Rattle.txc_script.specs.LineForms.{IsOfForm, LineForm}
use Rattle.txc_script.specs.Kinds.{Replied}
use Rattle.txc_script.specs.LineFaults.{IsKindsFault, IsWrong}
use Rattle.txc_script.specs.declared.unread.LineError.{LineError}
use Rattle.txc_script.specs.declared.unread.LineError.TheVariants.{Wrong, Memory}
use Rattle.txc_script.proofs.Offered.{fault_asks_none}
use Rattle.txc_script_node.specs.ReportProgress.{Counts, counted_script}
use Rattle.txc_script_node.specs.Lines.{node_forms}
use Rattle.txc_script_node.specs.NodeScripts.{node_script}
use Rattle.txc_script_node.specs.Reports.{IsReportOf, step_by, steps_in, steps_of}
use Rattle.txc_script_node.specs.Steps.{IsFor, MakesForm, MakesLine, Taking}
use Rattle.txc_script_node.specs.declared.node.Counted.{Counted}
use Rattle.txc_script_node.specs.declared.report.Report.{Report}
use Rattle.txc_script_node.proofs.Reporting.{steps_more}

-- a step that is refused counts nothing
refused_in : (op : Op) (reply : Reply HitValue) → is_refusal reply ≡ true → steps_in (Replied op reply) ≡ []
refused_in op reply refused = ap (λ (b : Bool). if b then [] else step_by op reply ∷ []) refused

pub refused_counted : (report : Report) (op : Op) (reply : Reply HitValue) → is_refusal reply ≡ true → Counts report op reply report
refused_counted report op reply refused given h =
    subst (λ (steps : List Record). IsReportOf steps report.functions.keys report.counts)
    (sym (steps_more given (Replied op reply) ∙ ap (λ (xs : List Record). steps_of given ++ xs) (refused_in op reply refused) ∙ append-nil (steps_of given))) h

-- a step that is not refused is counted
pub one_counted : (old new : Report) (op : Op) (reply : Reply HitValue) → is_refusal reply ≡ false
    → ((steps : List Record) → IsReportOf steps old.functions.keys old.counts → IsReportOf (steps ++ step_by op reply ∷ []) new.functions.keys new.counts) → Counts old op reply new
one_counted old new op reply kept counts given h =
    let one : steps_in (Replied op reply) ≡ step_by op reply ∷ [] = ap (λ (b : Bool). if b then [] else step_by op reply ∷ []) kept in
    subst (λ (steps : List Record). IsReportOf steps new.functions.keys new.counts) (sym (steps_more given (Replied op reply) ∙ ap (λ (xs : List Record). steps_of given ++ xs) one))
    (counts (steps_of given) h)

-- such a step was made, and its reply taken
pub taken : {T F : Type 0} (takes : Taking T) (form : LineForm Op) (words : List (List ℕ)) (r : Option Bool) (why : LineError F) (c next : Cache) (op : Op) (reply : Reply HitValue) (function : Option ℕ) (old new : T) → IsOfForm form words op
    → MayReply MAX_VALUE_LEN c op reply next → IsFor function op reply → IfSome r (λ refused. (o : Op) → IsFor function o reply → takes old o reply new) → IfSome r (λ refused. refused ≡ is_refusal reply) → IfNone r (why ≡ Memory)
    → MakesForm takes form words c next old new r why
taken takes form words (Some refused) why c next op reply function old new is may of after same memory = (op, is, reply, may, after op of, same)
taken takes form words None why c next op reply function old new is may of after same memory =
    subst (MakesForm takes form words c next old new None) (sym memory) tt

-- the words are no such step
pub unread : {T F : Type 0} (takes : Taking T) (form : LineForm Op) (words : List (List ℕ)) (why : LineError F) (c : Cache) (old : T) → IsWrong (IsKindsFault form.kinds words) why → MakesForm takes form words c c old old None why
unread takes form words (Wrong fault) c old wrong = (wrong, refl, refl)
unread takes form words Memory c old wrong = tt

-- ---- lines that name a step

pub on_made : {T F : Type 0} (takes : Taking T) (line : List ℕ) (r : Option Bool) (why : LineError F) (c next : Cache) (old new : T) (Q : Bool → Type 0) → MakesLine takes line c next old new r why
    → ((refused : Bool) → MakesLine takes line c next old new (Some refused) why → Q refused) → IfSome r Q
on_made takes line (Some refused) why c next old new Q h f = f refused h
on_made takes line None why c next old new Q h f = tt

pub node_unanswered : {T F : Type 0} (takes : Taking T) (line : List ℕ) (r : Option Bool) (why : LineError F) (c next : Cache) (old new : T) → MakesLine takes line c next old new r why → IfNone r (IsUnanswered (node_script {F = F} Node) c line next why)
node_unanswered takes line (Some x) why c next old new h = tt
node_unanswered takes line None (Wrong fault) c next old new h = ((λ op. fault_asks_none node_forms line fault op h.0), h.1, h.0)
node_unanswered takes line None Memory c next old new h = inr tt

same_counted : (s : Counted) (node : Cache) (report : Report) → node ≡ s.node → report ≡ s.report → ◌≡◌ {A = Counted} (record { node = node; report = report }) s
same_counted s node report n r =
    let a : ◌≡◌ {A = Counted} (record { node = node; report = report }) (record { node = s.node; report = report }) = ap (λ (x : Cache). record s { node = x; report = report }) n in
    let b : ◌≡◌ {A = Counted} (record { node = s.node; report = report }) s = ap (λ (x : Report). record s { report = x }) r in
    a ∙ b

pub counted_unanswered : {F : Type 0} (line : List ℕ) (r : Option Bool) (why : LineError F) (s : Counted) (node : Cache) (report : Report) → MakesLine Counts line s.node node s.report report r why
    → IfNone r (IsUnanswered (counted_script {F = F}) s line (record { node = node; report = report }) why)
counted_unanswered line (Some x) why s node report h = tt
counted_unanswered line None (Wrong fault) s node report h = ((λ op. fault_asks_none node_forms line fault op h.0), same_counted s node report h.1 h.2, h.0)
counted_unanswered line None Memory s node report h = inr tt
