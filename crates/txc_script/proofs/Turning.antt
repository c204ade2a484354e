-- Reads of a run, one after another.
use Rattle.std.proofs.Common.{◌≡◌, ℕ, ◌+◌, List, [], ◌∷◌, ◌++◌, Option, Result, Ok, Err, arith, length, take, refl, sym, ap, subst, ◌∙◌, inl, inr}
use Rattle.std.specs.Prelude.{IsErr, IsErrAnd}
use Rattle.std.specs.Io.KnownBytes.{Appends, Consumes, IsAtEnd}
use Rattle.std.specs.declared.alloc.AllocError.{AllocError}
use Rattle.std.proofs.KnownBytes.{Appends-nil, Appends-trans, Appends-kept, Consumes-nil, Consumes-trans}
use Rattle.std.proofs.lemmas.List.{append-nil, take_all}
use Rattle.std.proofs.lemmas.List.Elements.{All-nil}
use Rattle.txc_script.specs.Kinds.{ScriptKind, Given, AreFirstLines, Closing, lines_text}
use Rattle.txc_script.specs.Progress.{Progress, progress_of, AnswersAs, EndsFlushed, EndsWith, HasAnsweredLines, IsAtLast, IsKeptBeside, TurnsTo}
use Rattle.txc_script.specs.Runs.{Breaks, After, Within, AtEnd, BreaksOff, Ends, ScriptHasRun, ScriptHasWritten}
use Rattle.txc_script.specs.Script.{HasNoEnd}
use Rattle.txc_script.specs.WriterPrefix.{AppendsPrefix}
use Rattle.txc_script.specs.declared.fault.RunFault.{RunFault}
use Rattle.txc_script.specs.declared.fault.RunFault.TheVariants.{Read, Write, Memory}
use Rattle.txc_script.specs.declared.fault.Status.{Status}
use Rattle.txc_script.specs.declared.fault.Status.TheVariants.{Malformed}
use Rattle.txc_script.specs.declared.line_fault.MalformedLine.{MalformedLine}
use Rattle.txc_script.specs.declared.running.Flow.{Flow}
use Rattle.txc_script.specs.declared.running.Flow.TheVariants.{GoesOn, Stopped}
use Rattle.txc_script.specs.declared.running.Running.{Running}
use Rattle.txc_script.proofs.EachLine.{prefix_of, whole_at}

-- ---- the writer failed

-- at the end of a run
pub cut_off : {S A R F : Type 0} (kind : ScriptKind S A R F) (start : S) (read : List ℕ) (at_end : Type 0) (written : List ℕ) (p : Progress S) (r : Result (Flow F) AllocError) (old new : Option (List ℕ)) → AppendsPrefix old new p.text
    → IsAtLast kind start read at_end written p r → EndsWith kind start read at_end written old new (Err Write) p.state
cut_off kind start read at_end written p (Ok flow) old new prefix (lines, given, closing, ends, text, status) =
    (take prefix.0 p.text, prefix.2, (lines, given, length written + prefix.0, inr (closing, ends, prefix_of written p.text (lines_text kind given ++ closing.text) prefix.0 text)))
cut_off kind start read at_end written p (Err e) old new prefix (lines, given, broke, text, well_formed) =
    (take prefix.0 p.text, prefix.2, (lines, given, length written + prefix.0, inl (broke, prefix_of written p.text (lines_text kind given) prefix.0 text)))

-- ---- one read

pub turn_faults : {S A R F : Type 0} (kind : ScriptKind S A R F) (start : S) (read written : List ℕ) (p : Progress S) (r : Result (Flow F) AllocError) (old new : Option (List ℕ)) → AppendsPrefix old new p.text
    → AnswersAs kind start read written p r → EndsWith kind start read ⊥ written old new (Err Write) p.state
turn_faults kind start read written p (Ok GoesOn) old new prefix k =
    let broke = inl (record { end = p.state; answers = k.answers; breaks = After k.rest k.begins refl }, prefix_of written p.text (lines_text kind k.given) prefix.0 k.text) in
    (take prefix.0 p.text, prefix.2, (k.lines, k.given, length written + prefix.0, broke))
turn_faults kind start read written p (Ok (Stopped bad)) old new prefix k = cut_off kind start read ⊥ written p (Ok (Stopped bad)) old new prefix k
turn_faults kind start read written p (Err e) old new prefix k = cut_off kind start read ⊥ written p (Err e) old new prefix k

-- the run goes on
turn_goes_on : {S A R F : Type 0} (kind : ScriptKind S A R F) (start : S) (read written : List ℕ) (s : S) (r q : Running F) → IsKeptBeside r q → q.replies.text.items ≡ []
    → HasAnsweredLines kind start read written (progress_of s r) → HasAnsweredLines kind start read (written ++ r.replies.text.items) (progress_of s q)
turn_goes_on kind start read written s r q same none h = record {
  lines = h.lines;
  given = h.given;
  rest = h.rest;
  answers = h.answers;
  begins = h.begins;
  not_ended = h.not_ended;
  kept = same.line ∙ h.kept;
  text = ap (λ (xs : List ℕ). (written ++ r.replies.text.items) ++ xs) none ∙ append-nil (written ++ r.replies.text.items) ∙ h.text;
  count = same.lines ∙ h.count;
  refused = same.refused ∙ h.refused;
  well_formed = h.well_formed;
}

pub turn_answered : {S A R F : Type 0} (kind : ScriptKind S A R F) (start : S) (read written : List ℕ) (s : S) (r q : Running F) (flow : Flow F) (old new : Option (List ℕ)) → Appends old new r.replies.text.items
    → IsKeptBeside r q → q.replies.text.items ≡ [] → AnswersAs kind start read written (progress_of s r) (Ok flow) → TurnsTo kind start read written (progress_of s q) old new (Ok flow)
turn_answered kind start read written s r q GoesOn old new all same none h = (r.replies.text.items, all, turn_goes_on kind start read written s r q same none h, none)
turn_answered kind start read written s r q (Stopped bad) old new all same none h = (r.replies.text.items, all, h)

-- a fault that was passed on
pub err_is : {T E : Type 0} (r : Result T E) (e : E) → IsErr r × IsErrAnd r (λ x. x ≡ e) → r ≡ Err e
err_is (Ok x) e h = let none = h.0 in cc
err_is (Err x) e h = ap Err h.1

-- ---- whole runs

first_at : (P Q : Type 0) (read : List ℕ) (lines : List (List ℕ)) → (P → Q) → AreFirstLines read P lines → AreFirstLines read Q lines
first_at P Q read lines f (inl h) = inl h
first_at P Q read lines f (inr h) = inr (h.0, f h.1)

breaks_at : {S A R F : Type 0} (kind : ScriptKind S A R F) (P Q : Type 0) (read : List ℕ) (lines : List (List ℕ)) (end left : S) → (P → Q) → Breaks kind read P lines end left → Breaks kind read Q lines end left
breaks_at kind P Q read lines end left f (After others begins same) = After others begins same
breaks_at kind P Q read lines end left f (Within others line begins first plain broke) = Within others line begins (first_at P Q read (lines ++ line ∷ []) f first) plain broke
breaks_at kind P Q read lines end left f (AtEnd all ended broke) = AtEnd all (f ended) broke

broke_at : {S A R F : Type 0} (kind : ScriptKind S A R F) (P Q : Type 0) (start : S) (read : List ℕ) (lines : List (List ℕ)) (given : List (Given A R)) (left : S) → (P → Q)
    → BreaksOff kind start read P lines given left → BreaksOff kind start read Q lines given left
broke_at kind P Q start read lines given left f h = record { end = h.end; answers = h.answers; breaks = breaks_at kind P Q read lines h.end left f h.breaks }

ends_at : {S A R F : Type 0} (kind : ScriptKind S A R F) (P Q : Type 0) (start : S) (read : List ℕ) (lines : List (List ℕ)) (given : List (Given A R)) (closing : Closing) (left : S) → (P → Q)
    → Ends kind start read P lines given closing left → Ends kind start read Q lines given closing left
ends_at kind P Q start read lines given closing left f h = record { end = h.end; answers = h.answers; whole = whole_at P Q read lines given f h.whole; closes = h.closes }

written_at : {S A R F : Type 0} (kind : ScriptKind S A R F) (P Q : Type 0) (start : S) (read written : List ℕ) (r : Result (Status F) RunFault) (left : S) → (P → Q)
    → ScriptHasWritten kind start read P written r left → ScriptHasWritten kind start read Q written r left
written_at kind P Q start read written (Ok status) left f h = (h.0, h.1, h.2, ends_at kind P Q start read h.0 h.1 h.2 left f h.3, h.4, h.5)
written_at kind P Q start read written (Err Read) left f h = h
written_at kind P Q start read written (Err Write) left f (lines, given, n, inl h) = (lines, given, n, inl (broke_at kind P Q start read lines given left f h.0, h.1))
written_at kind P Q start read written (Err Write) left f (lines, given, n, inr h) = (lines, given, n, inr (h.0, ends_at kind P Q start read lines given h.0 left f h.1, h.2))
written_at kind P Q start read written (Err Memory) left f h = (h.0, h.1, broke_at kind P Q start read h.0 h.1 left f h.2, h.3, h.4)

-- what was read and written before, and how the run ended after it
pub run_ends : {S A R F : Type 0} (kind : ScriptKind S A R F) (P : Type 0) (start : S) (a b : Option (List ℕ)) (w x y : Option (List ℕ)) (read written : List ℕ) (r : Result (Status F) RunFault) (left : S) → Consumes a b read
    → Appends w x written → (P → IsAtEnd b) → EndsWith kind start read P written x y r left → ScriptHasRun kind start a b w y r left
run_ends kind P start a b w x y read written r left consumes appends f e =
    (read, written ++ e.0, consumes, Appends-trans w x y written e.0 appends e.1, written_at kind P (IsAtEnd b) start read (written ++ e.0) r left f e.2)

-- out of memory before anything was read
pub run_out_of_memory : {S A R F : Type 0} (kind : ScriptKind S A R F) (start : S) (a w : Option (List ℕ)) → ScriptHasRun kind start a a w w (Err Memory) start
run_out_of_memory kind start a w =
    ([], [], Consumes-nil a, Appends-nil w, ([], [], record { end = start; answers = refl; breaks = After [] (record { joined = refl; each_is_one = All-nil HasNoEnd }) refl }, refl, refl))

pub stopped_ends : {S A R F : Type 0} (kind : ScriptKind S A R F) (start : S) (read written : List ℕ) (p : Progress S) (flow : Flow F) (bad : MalformedLine F) (old new : Option (List ℕ)) → flow ≡ Stopped bad
    → TurnsTo kind start read written p old new (Ok flow) → EndsWith kind start read ⊥ written old new (Ok (Malformed bad)) p.state
stopped_ends {F = F} kind start read written p flow bad old new e h = subst (λ (f : Flow F). TurnsTo kind start read written p old new (Ok f)) e h

pub goes_on_at : {S A R F : Type 0} (kind : ScriptKind S A R F) (start : S) (read written : List ℕ) (p : Progress S) (flow : Flow F) (old new : Option (List ℕ)) → flow ≡ GoesOn
    → TurnsTo kind start read written p old new (Ok flow) → TurnsTo kind start read written p old new (Ok GoesOn)
goes_on_at {F = F} kind start read written p flow old new e h = subst (λ (f : Flow F). TurnsTo kind start read written p old new (Ok f)) e h

-- the end of the reader's bytes
pub nothing_more : (a b c : Option (List ℕ)) (read buf : List ℕ) (n : ℕ) → n ≡ 0 → Consumes a b read → Consumes b c (take n buf) → Consumes a c read
nothing_more a b c read buf n e h k =
    subst (λ (xs : List ℕ). Consumes a c xs) (ap (λ (m : ℕ). read ++ take m buf) e ∙ append-nil read) (Consumes-trans a b c read (take n buf) h k)

abbrev fault_or : Result ℕ RunFault → RunFault → RunFault
fault_or (Ok n) fault = fault
fault_or (Err fault) other = fault

pub read_fault : {F : Type 0} (r : Result (Status F) RunFault) (n : Result ℕ RunFault) (fault : RunFault) → n ≡ Err fault → n ≡ Err Read → r ≡ Err fault → r ≡ Err Read
read_fault r n fault is reads e = e ∙ ap Err (ap (λ (x : Result ℕ RunFault). fault_or x Read) (sym is ∙ reads))

-- the reader failed
pub reader_failed : {S A R F : Type 0} (kind : ScriptKind S A R F) (start : S) (a b w x : Option (List ℕ)) (read written : List ℕ) (p : Progress S) (r : Result (Status F) RunFault) → Consumes a b read → Appends w x written
    → HasAnsweredLines kind start read written p → p.text ≡ [] → r ≡ Err Read → ScriptHasRun kind start a b w x r p.state
reader_failed {F = F} kind start a b w x read written p r consumes appends h none is =
    let text : written ≡ lines_text kind h.given = sym (append-nil written) ∙ ap (λ (xs : List ℕ). written ++ xs) (sym none) ∙ h.text in
    subst (λ (e : Result (Status F) RunFault). ScriptHasRun kind start a b w x e p.state) (sym is) (read, written, consumes, appends, (h.lines, h.given, h.rest, h.answers, h.begins, h.not_ended, text, h.well_formed))

-- ---- the writer is flushed

pub flushed : {S A R F : Type 0} (kind : ScriptKind S A R F) (start : S) (a b w x y : Option (List ℕ)) (ended result : Result (Status F) RunFault) (left : S) → ScriptHasRun kind start a b w x ended left → EndsFlushed x y ended result
    → ScriptHasRun kind start a b w y result left
flushed {F = F} kind start a b w x y (Ok status) result left h (keeps, inl is) =
    subst (λ (e : Result (Status F) RunFault). ScriptHasRun kind start a b w y e left) (sym is) (h.0, h.1, h.2, Appends-kept w x y h.1 h.3 keeps, h.4)
flushed {F = F} kind start a b w x y (Ok status) result left h (keeps, inr is) =
    let written = h.4 in
    let all = lines_text kind written.1 ++ written.2.text in
    let text : h.1 ≡ all = written.4 in
    let whole : h.1 ≡ take (length h.1) all = text ∙ sym (take_all (length h.1) all (omega (arith, ap length text))) in
    subst (λ (e : Result (Status F) RunFault). ScriptHasRun kind start a b w y e left) (sym is)
    (h.0, h.1, h.2, Appends-kept w x y h.1 h.3 keeps, (written.0, written.1, length h.1, inr (written.2, written.3, whole)))
flushed {F = F} kind start a b w x y (Err fault) result left h (keeps, is) =
    subst (λ (e : Result (Status F) RunFault). ScriptHasRun kind start a b w y e left) (sym is) (h.0, h.1, h.2, Appends-kept w x y h.1 h.3 keeps, h.4)
