-- What a report counts, one step after another.
use Rattle.std.proofs.Common.{◌≡◌, ℕ, ◌+◌, Bool, true, false, ◌||◌, List, [], ◌∷◌, ◌++◌, Option, Some, None, Result, Ok, Err, OnOk, refl, sym, ap, ◌∙◌, arith, append_assoc}
use Rattle.std.specs.Prelude.{nat_eq, not, filter, if◌then◌else◌}
use Rattle.std.specs.List.{list_any, sum_by}
use Rattle.std.proofs.lemmas.Bool.Decides.{nat_tests}
use Rattle.std.proofs.lemmas.Grind.{flat_map-append}
use Rattle.std.proofs.lemmas.List.{append-nil}
use Rattle.std.proofs.lemmas.List.Elements.{filter-append}
use Rattle.txc_node.specs.declared.counts.FunctionCounts.{FunctionCounts}
use Rattle.txc_node.specs.declared.hit.Hit.{Hit}
use Rattle.txc_node.specs.declared.node.Inserted.TheVariants.{Stored, Kept}
use Rattle.txc_node.specs.declared.op.Op.{Op}
use Rattle.txc_node.specs.declared.record.Record.{Record}
use Rattle.txc_node.specs.declared.reply.Reply.{Reply}
use Rattle.txc_node.specs.declared.reply.Reply.TheVariants as replies
use Rattle.txc_node.specs.Counts.{Totals, counts_for, counts_of, sum_of, events_by, closed_by, swept_by, trimmed_by}
use Rattle.txc_node.specs.Steps.{function_of, is_refusal, seen_reply}
use Rattle.txc_node.specs.declared.hit.HitValue.{HitValue}
use Rattle.txc_node.proofs.History.{counted_more}
use Rattle.txc_script.specs.Kinds.{Given}
use Rattle.txc_script.proofs.Counting.{counted_in}
use Rattle.txc_script.specs.FunctionLines.{counts_in, function_line}
use Rattle.txc_script_node.specs.Reports.{IsReportOf, before_others, functions_named, functions_text, step_by, steps_in, steps_of, steps_report, total_line, with_name}

pub refusal_seen : (reply : Reply Hit) → is_refusal (seen_reply reply) ≡ is_refusal reply
refusal_seen (replies.Inserted inserted) = refl
refusal_seen (replies.Hit hit) = refl
refusal_seen replies.Miss = refl
refusal_seen (replies.Closed count) = refl
refusal_seen (replies.Swept count) = refl
refusal_seen (replies.Trimmed count) = refl
refusal_seen (replies.Refused refusal) = refl

-- a lent hit counts as what it shows
record CountsAsSeen (reply : Reply Hit) : Type 0 where
  counts : (f : ℕ) (function : Option ℕ) → counts_for f function (seen_reply reply) ≡ counts_for f function reply
  events : events_by (seen_reply reply) ≡ events_by reply
  closed : closed_by (seen_reply reply) ≡ closed_by reply
  swept : swept_by (seen_reply reply) ≡ swept_by reply
  trimmed : trimmed_by (seen_reply reply) ≡ trimmed_by reply

counts_seen : (reply : Reply Hit) → CountsAsSeen reply
counts_seen (replies.Inserted (Stored reach evicted)) = record { counts = λ f function. refl; events = refl; closed = refl; swept = refl; trimmed = refl }
counts_seen (replies.Inserted (Kept entry)) = record { counts = λ f function. refl; events = refl; closed = refl; swept = refl; trimmed = refl }
counts_seen (replies.Hit hit) = record { counts = λ f function. refl; events = refl; closed = refl; swept = refl; trimmed = refl }
counts_seen replies.Miss = record { counts = λ f function. refl; events = refl; closed = refl; swept = refl; trimmed = refl }
counts_seen (replies.Closed count) = record { counts = λ f function. refl; events = refl; closed = refl; swept = refl; trimmed = refl }
counts_seen (replies.Swept count) = record { counts = λ f function. refl; events = refl; closed = refl; swept = refl; trimmed = refl }
counts_seen (replies.Trimmed count) = record { counts = λ f function. refl; events = refl; closed = refl; swept = refl; trimmed = refl }
counts_seen (replies.Refused refusal) = record { counts = λ f function. refl; events = refl; closed = refl; swept = refl; trimmed = refl }

-- ---- names

-- whether f is among others, where one name that is not f is left out
one_left_out : (b : Bool) (f n : ℕ) (kept names : List ℕ) → (b ≡ true → nat_eq f n ≡ false) → list_any (nat_eq f) kept ≡ list_any (nat_eq f) names
    → list_any (nat_eq f) (if not b then n ∷ kept else kept) ≡ (nat_eq f n || list_any (nat_eq f) names)
one_left_out true f n kept names h e = e ∙ ap (λ (c : Bool). c || list_any (nat_eq f) names) (sym (h refl))
one_left_out false f n kept names h e = ap (λ (c : Bool). nat_eq f n || c) e

not_both : (f g n : ℕ) → nat_eq f g ≡ false → nat_eq g n ≡ true → nat_eq f n ≡ false
not_both f g n apart same = grind (arith, nat_tests, apart, same)

among_others : (f g : ℕ) (names : List ℕ) → nat_eq f g ≡ false → list_any (nat_eq f) (filter (λ other. not (nat_eq g other)) names) ≡ list_any (nat_eq f) names
among_others f g [] apart = refl
among_others f g (n ∷ names) apart = one_left_out (nat_eq g n) f n _ names (not_both f g n apart) (among_others f g names apart)

left_out : (f g : ℕ) → nat_eq f g ≡ true → filter (λ other. not (nat_eq g other)) (f ∷ []) ≡ []
left_out f g same = let turned : nat_eq g f ≡ true = grind (arith, nat_tests, same) in rw turned refl

stays : (f g : ℕ) → nat_eq f g ≡ false → filter (λ other. not (nat_eq g other)) (f ∷ []) ≡ f ∷ []
stays f g apart = let turned : nat_eq g f ≡ false = grind (arith, nat_tests, apart) in rw turned refl

name_after : (there same : Bool) (f g : ℕ) (names : List ℕ) → list_any (nat_eq f) names ≡ there → nat_eq f g ≡ same
    → g ∷ filter (λ other. not (nat_eq g other)) (if there then names else names ++ f ∷ [])
    ≡ (if same || list_any (nat_eq f) (filter (λ other. not (nat_eq g other)) names) then g ∷ filter (λ other. not (nat_eq g other)) names
    else g ∷ (filter (λ other. not (nat_eq g other)) names ++ f ∷ []))
name_after true true f g names e k = refl
name_after false true f g names e k =
    let p : ℕ → Bool = λ other. not (nat_eq g other) in
    ap (λ (xs : List ℕ). g ∷ xs) (filter-append p names (f ∷ []) ∙ ap (λ (xs : List ℕ). filter p names ++ xs) (left_out f g k) ∙ append-nil (filter p names))
name_after true false f g names e k =
    let p : ℕ → Bool = λ other. not (nat_eq g other) in
    sym (ap (λ (b : Bool). if b then g ∷ filter p names else g ∷ (filter p names ++ f ∷ [])) (among_others f g names k ∙ e))
name_after false false f g names e k =
    let p : ℕ → Bool = λ other. not (nat_eq g other) in
    ap (λ (xs : List ℕ). g ∷ xs) (filter-append p names (f ∷ []) ∙ ap (λ (xs : List ℕ). filter p names ++ xs) (stays f g k))
    ∙ sym (ap (λ (b : Bool). if b then g ∷ filter p names else g ∷ (filter p names ++ f ∷ [])) (among_others f g names k ∙ e))

before_with : (first last : Option ℕ) (names : List ℕ) → before_others first (with_name last names) ≡ with_name last (before_others first names)
before_with None last names = refl
before_with (Some g) None names = refl
before_with (Some g) (Some f) names = name_after (list_any (nat_eq f) names) (nat_eq f g) f g names refl refl

first_name : (last : Option ℕ) → before_others last [] ≡ with_name last []
first_name None = refl
first_name (Some f) = refl

-- the name of one step more
pub named_more : (steps : List Record) (step : Record) → functions_named (steps ++ step ∷ []) ≡ with_name (function_of step.op) (functions_named steps)
named_more [] step = first_name (function_of step.op)
named_more (first ∷ steps) step = ap (before_others (function_of first.op)) (named_more steps step) ∙ before_with (function_of first.op) (function_of step.op) (functions_named steps)

-- ---- the report

pub reported_more : (steps : List Record) (op : Op) (function : Option ℕ) (reply : Reply Hit) (names others : List ℕ) (old new : Totals) → function ≡ function_of op
    → ((f : ℕ) → counts_of new.functions f ≡ sum_of (counts_of old.functions f) (counts_for f function reply))
    → new.replies ≡ old.replies + 1 → new.events ≡ old.events + events_by reply → new.closed ≡ old.closed + closed_by reply → new.swept ≡ old.swept + swept_by reply → new.trimmed ≡ old.trimmed + trimmed_by reply
    → others ≡ with_name function names → IsReportOf steps names old → IsReportOf (steps ++ step_by op (seen_reply reply) ∷ []) others new
reported_more steps op function reply names others old new of functions counted events closed swept trimmed named h =
    let step = step_by op (seen_reply reply) in
    let seen = counts_seen reply in
    record {
      names_are = named ∙ ap (λ (o : Option ℕ). with_name o names) of ∙ ap (with_name (function_of op)) h.names_are ∙ sym (named_more steps step);
      counts_are = counted_more steps step old new
          (λ f. functions f ∙ ap (sum_of (counts_of old.functions f)) (sym (seen.counts f function) ∙ ap (λ (o : Option ℕ). counts_for f o (seen_reply reply)) of))
          counted (events ∙ ap (λ n. old.events + n) (sym seen.events)) (closed ∙ ap (λ n. old.closed + n) (sym seen.closed))
          (swept ∙ ap (λ n. old.swept + n) (sym seen.swept)) (trimmed ∙ ap (λ n. old.trimmed + n) (sym seen.trimmed)) h.counts_are;
    }

functions_same : (a b : ℕ → FunctionCounts) (names : List ℕ) → ((f : ℕ) → a f ≡ b f) → functions_text a names ≡ functions_text b names
functions_same a b [] e = refl
functions_same a b (f ∷ names) e = ap (λ (c : FunctionCounts). (function_line f c ++ 10 ∷ []) ++ functions_text a names) (e f) ∙ ap (λ (xs : List ℕ). (function_line f (b f) ++ 10 ∷ []) ++ xs) (functions_same a b names e)

pub report_is : (steps : List Record) (names : List ℕ) (t : Totals) → IsReportOf steps names t
    → functions_text (counts_of t.functions) names ++ total_line t.events t.closed t.swept ≡ steps_report steps
report_is steps names t h =
    let c = h.counts_are in
    let of : (f : ℕ) → counts_of t.functions f ≡ counts_in steps f = counted_in steps t c in
    ap (λ (xs : List ℕ). xs ++ total_line t.events t.closed t.swept)
    (ap (functions_text (counts_of t.functions)) h.names_are ∙ functions_same (counts_of t.functions) (counts_in steps) (functions_named steps) of)
    ∙ ap (λ (xs : List ℕ). functions_text (counts_in steps) (functions_named steps) ++ xs)
    (ap (λ n. total_line n t.closed t.swept) c.events ∙ ap (λ n. total_line (sum_by (λ s. events_by s.reply) steps) n t.swept) c.closed
    ∙ ap (total_line (sum_by (λ s. events_by s.reply) steps) (sum_by (λ s. closed_by s.reply) steps)) c.swept)

-- ---- what lines give

pub steps_more : (given : List (Given Op (Reply HitValue))) (g : Given Op (Reply HitValue)) → steps_of (given ++ g ∷ []) ≡ steps_of given ++ steps_in g
steps_more given g = flat_map-append steps_in given (g ∷ []) ∙ ap (λ (xs : List Record). steps_of given ++ xs) (append-nil (steps_in g))

pub on_ok : {T E : Type 0} (r : Result T E) (P Q : Type 0) → (P → Q) → OnOk r P → OnOk r Q
on_ok (Ok x) P Q f h = f h
on_ok (Err e) P Q f h = tt

-- the line of one function more
pub line_more : (counts : ℕ → FunctionCounts) (text line new all : List ℕ) (f : ℕ) (left rest : List ℕ) → left ≡ f ∷ rest → text ++ functions_text counts left ≡ all
    → new ≡ text ++ line → line ≡ function_line f (counts f) ++ 10 ∷ [] → new ++ functions_text counts rest ≡ all
line_more counts text line new all f left rest at so_far pushed is =
    ap (λ (xs : List ℕ). xs ++ functions_text counts rest) (pushed ∙ ap (λ (xs : List ℕ). text ++ xs) is) ∙ append_assoc text (function_line f (counts f) ++ 10 ∷ []) (functions_text counts rest)
    ∙ ap (λ (xs : List ℕ). text ++ functions_text counts xs) (sym at) ∙ so_far
