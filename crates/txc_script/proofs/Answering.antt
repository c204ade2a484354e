-- A run answers its lines.
use Rattle.std.proofs.Common.{◌≡◌, ◌≢◌, ℕ, ◌+◌, Bool, true, false, ◌||◌, List, [], ◌∷◌, ◌++◌, length, take, Ok, Err, Result, IfOk, OnErr, OnOk, refl, sym, ap, subst, ◌∙◌, arith, append_assoc, eqb, inl, inr}
use Rattle.std.specs.Prelude.{MatchBool}
use Rattle.std.specs.List.{list_any}
use Rattle.std.specs.declared.alloc.AllocError.{AllocError}
use Rattle.std.proofs.lemmas.Bool.Decides.{nat_tests}
use Rattle.std.proofs.lemmas.List.{append-nil, length-append}
use Rattle.std.proofs.lemmas.List.Elements.{All-append, All-nil}
use Rattle.txc_script.specs.Answers.{IsClosed, IsUnanswered, LineIsAnswered}
use Rattle.txc_script.specs.Flows.{IsStoppedAt}
use Rattle.txc_script.specs.Kinds.{ScriptKind, Given, Replied, Malformed, AreFirstLines, Closing, ClosesScript, Gives, IsMalformed, IsWholeScript, no_closing, is_malformed, is_refused, lines_text, malformed_text}
use Rattle.txc_script.specs.Lines.{IsBlankOrComment, IsPlain}
use Rattle.txc_script.specs.Progress.{Progress, progress_of, kept_of, AnswersAs, AnswersLast, AnswersLine, HasAnsweredLines, HasLast, IsAtLast, MayBreakOff}
use Rattle.txc_script.specs.Runs.{Answers, Breaks, After, Within, AtEnd}
use Rattle.txc_script.specs.Script.{AreLinesOf, BeginsWithLines, HasNoEnd}
use Rattle.txc_script.specs.declared.line_fault.CommandFault.{CommandFault}
use Rattle.txc_script.specs.declared.line_fault.MalformedLine.{MalformedLine}
use Rattle.txc_script.specs.declared.piece.TheConstants.{MAX_KEPT}
use Rattle.txc_script.specs.declared.running.Flow.{Flow}
use Rattle.txc_script.specs.declared.running.Flow.TheVariants.{GoesOn, Stopped}
use Rattle.txc_script.specs.declared.running.Replies.{Replies}
use Rattle.txc_script.specs.declared.running.Running.{Running}
use Rattle.txc_script.specs.declared.unread.LineError.{LineError}
use Rattle.txc_script.specs.declared.unread.LineError.TheVariants.{Wrong, Memory}
use Rattle.txc_script.proofs.EachLine.{all_read, any_more, begins_longer, begins_more, given_more, kept_append, kept_reads, no_end, none_read, nothing_kept, status_is, text_more, whole_reads, ReadsAs}

-- ---- one line

pub not_plain : {S A R F : Type 0} (kind : ScriptKind S A R F) (s : S) (line : List ℕ) → (IsPlain line → ⊥) → IsMalformed kind s line
not_plain kind s line none = record { not_quiet = λ quiet. none quiet.0; asks_nothing = λ asked is. none is.0 }

pub asks_nothing : {S A R F : Type 0} (kind : ScriptKind S A R F) (s : S) (line : List ℕ) → (IsBlankOrComment line → ⊥) → ((asked : A) → kind.asks s line asked → ⊥) → IsMalformed kind s line
asks_nothing kind s line bare none = record { not_quiet = λ quiet. bare quiet.1; asks_nothing = λ asked is. none asked is.1 }

either_true : (b : Bool) → true ≡ (b || true)
either_true true = refl
either_true false = refl

-- a malformed line was answered after a look that changed nothing
pub malformed_answered : {S A R F : Type 0} (kind : ScriptKind S A R F) (s next : S) (old new : Replies F) (seen : List ℕ) (number : ℕ) (line : List ℕ) (r : Result (Flow F) AllocError) → IsMalformed kind s line → next ≡ s
    → seen ≡ old.text.items → IfOk r (IsStoppedAt kind next number line) → OnOk r (new.text.items ≡ seen ++ malformed_text number) → OnOk r (new.is_refused ≡ true)
    → IfOk r (AnswersLine kind s next old new number line)
malformed_answered kind s next old new seen number line (Ok GoesOn) bad same kept stops text refused = absurd stops
malformed_answered kind s next old new seen number line (Ok (Stopped fault)) bad same kept stops text refused = record {
  given = Malformed number;
  gives = (bad, refl, same);
  text = text ∙ ap (λ (xs : List ℕ). xs ++ malformed_text number) kept;
  refused = refused ∙ either_true old.is_refused;
  flow_is = (refl, stops);
}
malformed_answered kind s next old new seen number line (Err e) bad same kept stops text refused = tt

-- what a line asks for was done
pub line_answered : {S A R F : Type 0} (kind : ScriptKind S A R F) (s next : S) (old new : Replies F) (refused : Bool) (number : ℕ) (line : List ℕ) → IsPlain line
    → LineIsAnswered kind s line next old.text.items new.text.items refused → new.is_refused ≡ (old.is_refused || refused) → AnswersLine kind s next old new number line GoesOn
line_answered kind s next old new refused number line plain h same = record {
  given = Replied h.asked h.reply;
  gives = ((plain, h.asks), h.does);
  text = h.text;
  refused = same ∙ ap (λ (b : Bool). old.is_refused || b) h.is_refused;
  flow_is = refl;
}

-- a line was not answered; what is wrong with it was, which changed nothing
pub unanswered_answered : {S A R F : Type 0} (kind : ScriptKind S A R F) (s next : S) (old new : Replies F) (seen : List ℕ) (number : ℕ) (line : List ℕ) (why : LineError F) (r : Result (Flow F) AllocError) → (IsBlankOrComment line → ⊥)
    → IsUnanswered kind s line next why → OnOk r ((fault : CommandFault F) × (why ≡ Wrong fault)) → seen ≡ old.text.items → IfOk r (IsStoppedAt kind next number line) → OnOk r (new.text.items ≡ seen ++ malformed_text number)
    → OnOk r (new.is_refused ≡ true) → IfOk r (AnswersLine kind s next old new number line)
unanswered_answered kind s next old new seen number line (Wrong fault) r bare none wrong kept stops text refused =
    malformed_answered kind s next old new seen number line r (asks_nothing kind s line bare none.0) none.1 kept stops text refused
unanswered_answered kind s next old new seen number line Memory (Ok flow) bare none wrong kept stops text refused = let no = wrong.1 in cc
unanswered_answered kind s next old new seen number line Memory (Err e) bare none wrong kept stops text refused = tt

-- ---- a line that was answered

-- the line that was read as these bytes was answered
record Answered {S A R F : Type 0} (kind : ScriptKind S A R F) (s next : S) (r q : Running F) (read : List ℕ) (flow : Flow F) : Type 0 where
  answers : AnswersLine kind s next r.replies q.replies (r.lines + 1) read flow
  count : q.lines ≡ r.lines + 1
  emptied : q.line ≡ []

-- what holds where it was answered
record LineAdded {S A R F : Type 0} (kind : ScriptKind S A R F) (start : S) (written : List ℕ) (next : S) (q : Running F) (lines : List (List ℕ)) (given : List (Given A R)) : Type 0 where
  answers : Answers kind start lines given next
  text : written ++ q.replies.text.items ≡ lines_text kind given
  refused : q.replies.is_refused ≡ list_any (is_refused kind) given
  count : q.lines ≡ length lines

added_line : {S A R F : Type 0} (kind : ScriptKind S A R F) (start : S) (read written line x : List ℕ) (s next : S) (r q : Running F) (flow : Flow F) (h : HasAnsweredLines kind start read written (progress_of s r))
    → ReadsAs kind x line → (a : Answered kind s next r q x flow) → LineAdded kind start written next q (h.lines ++ line ∷ []) (h.given ++ a.answers.given ∷ [])
added_line {S} {A} {R} {F} kind start read written line x s next r q flow h reads a =
    let given = a.answers.given in
    let number : r.lines + 1 ≡ 1 + length h.lines = omega (arith, h.count) in
    let gives : Gives kind s (1 + length h.lines) line given next = reads.gives s (1 + length h.lines) given next (subst (λ (m : ℕ). Gives kind s m x given next) number a.answers.gives) in
    record {
      answers = given_more kind start 1 h.lines h.given s line given next h.answers h.well_formed gives;
      text = text_more kind written r.replies.text.items q.replies.text.items h.given given h.text a.answers.text;
      refused = a.answers.refused ∙ ap (λ (b : Bool). b || is_refused kind given) h.refused ∙ sym (any_more (is_refused kind) h.given given);
      count = omega (arith, a.count, h.count, length-append h.lines (line ∷ []));
    }

malformed_more : {A R : Type 0} (given : List (Given A R)) (g : Given A R) (b : Bool) → list_any is_malformed given ≡ false → is_malformed g ≡ b → list_any is_malformed (given ++ g ∷ []) ≡ b
malformed_more given g b none is = any_more is_malformed given g ∙ ap (λ (c : Bool). c || is_malformed g) none ∙ is

-- and was malformed, so that no other is read
stopped_line : {S A R F : Type 0} (kind : ScriptKind S A R F) (start : S) (read all : List ℕ) (at_end : Type 0) (written line x : List ℕ) (s next : S) (r q : Running F) (bad : MalformedLine F)
    (h : HasAnsweredLines kind start read written (progress_of s r)) → ReadsAs kind x line → (a : Answered kind s next r q x (Stopped bad))
    → (list_any is_malformed (h.given ++ a.answers.given ∷ []) ≡ true → IsWholeScript all at_end (h.lines ++ line ∷ []) (h.given ++ a.answers.given ∷ []))
    → IsAtLast kind start all at_end written (progress_of next q) (Ok (Stopped bad))
stopped_line {S} {A} {R} {F} kind start read all at_end written line x s next r q bad h reads a whole =
    let added = added_line kind start read written line x s next r q (Stopped bad) h reads a in
    let given = h.given ++ a.answers.given ∷ [] in
    let malformed = malformed_more h.given a.answers.given true h.well_formed a.answers.flow_is.0 in
    let none : MatchBool (list_any is_malformed given) ((no_closing ≡ no_closing) × (next ≡ next)) (kind.closes next given no_closing next) =
    subst (λ (b : Bool). MatchBool b ((no_closing ≡ no_closing) × (next ≡ next)) (kind.closes next given no_closing next)) (sym malformed) (refl, refl) in (
      h.lines ++ line ∷ [],
      given,
      no_closing,
      record { end = next; answers = added.answers; whole = whole malformed; closes = none },
      added.text ∙ sym (append-nil (lines_text kind given)),
      (malformed, (a.answers.flow_is.1.0 ∙ sym a.count ∙ added.count, (h.lines, line, refl, reads.fault next bad.fault a.answers.flow_is.1.1))),
    )

-- the line that ends after `before` was answered
answered_line : {S A R F : Type 0} (kind : ScriptKind S A R F) (start : S) (read written before x : List ℕ) (s next : S) (r q : Running F) (flow : Flow F) (h : HasAnsweredLines kind start read written (progress_of s r))
    → HasNoEnd before → ReadsAs kind x (h.rest ++ before) → Answered kind s next r q x flow → AnswersAs kind start (read ++ (before ++ 10 ∷ [])) written (progress_of next q) (Ok flow)
answered_line kind start read written before x s next r q GoesOn h bare reads a =
    let line = h.rest ++ before in
    let added = added_line kind start read written line x s next r q GoesOn h reads a in
    record {
      lines = h.lines ++ line ∷ [];
      given = h.given ++ a.answers.given ∷ [];
      rest = [];
      answers = added.answers;
      begins = begins_more read h.lines h.rest before h.begins h.not_ended bare;
      not_ended = no_end;
      kept = a.emptied;
      text = added.text;
      count = added.count;
      refused = added.refused;
      well_formed = malformed_more h.given a.answers.given false h.well_formed a.answers.flow_is;
    }
answered_line kind start read written before x s next r q (Stopped bad) h bare reads a =
    stopped_line kind start read (read ++ (before ++ 10 ∷ [])) ⊥ written (h.rest ++ before) x s next r q bad h reads a (λ malformed. inr ([], begins_more read h.lines h.rest before h.begins h.not_ended bare, malformed))

-- ---- memory ran out

-- nothing was done of the line after those that were answered, or it broke off
broke_line : {S A R F : Type 0} (kind : ScriptKind S A R F) (read : List ℕ) (at_end : Type 0) (lines : List (List ℕ)) (others line : List ℕ) (s next : S) → BeginsWithLines read lines others
    → AreFirstLines read at_end (lines ++ line ∷ []) → MayBreakOff kind s line next → Breaks kind read at_end lines s next
broke_line kind read at_end lines others line s next begins more (inl same) = After others begins same
broke_line kind read at_end lines others line s next begins more (inr (plain, broke)) = Within others line begins more plain broke

halted_at : {S A R F : Type 0} (kind : ScriptKind S A R F) (start : S) (read before : List ℕ) (at_end : Type 0) (written : List ℕ) (s next : S) (r q : Running F) (e : AllocError) (h : HasAnsweredLines kind start before written (progress_of s r))
    → q.replies.text.items ≡ r.replies.text.items → Breaks kind read at_end h.lines s next → IsAtLast kind start read at_end written (progress_of next q) (Err e)
halted_at kind start read before at_end written s next r q e h same breaks =
    (h.lines, h.given, record { end = s; answers = h.answers; breaks = breaks }, ap (λ (xs : List ℕ). written ++ xs) same ∙ h.text, h.well_formed)

-- nothing was done of the line that goes on or ends with these bytes
pub halted_before : {S A R F : Type 0} (kind : ScriptKind S A R F) (start : S) (read written more : List ℕ) (s : S) (r q : Running F) (e : AllocError) → HasAnsweredLines kind start read written (progress_of s r)
    → q.replies.text.items ≡ r.replies.text.items → IsAtLast kind start (read ++ more) ⊥ written (progress_of s q) (Err e)
halted_before kind start read written more s r q e h same =
    halted_at kind start (read ++ more) read ⊥ written s s r q e h same (After (h.rest ++ more) (begins_longer read h.lines h.rest more h.begins) refl)

halted_line : {S A R F : Type 0} (kind : ScriptKind S A R F) (start : S) (read written before x : List ℕ) (s next : S) (r q : Running F) (e : AllocError) (h : HasAnsweredLines kind start read written (progress_of s r)) → HasNoEnd before
    → ReadsAs kind x (h.rest ++ before) → MayBreakOff kind s x next → q.replies.text.items ≡ r.replies.text.items → IsAtLast kind start (read ++ (before ++ 10 ∷ [])) ⊥ written (progress_of next q) (Err e)
halted_line kind start read written before x s next r q e h bare reads broke same =
    let line = h.rest ++ before in
    let more = before ++ 10 ∷ [] in
    halted_at kind start (read ++ more) read ⊥ written s next r q e h same
    (broke_line kind (read ++ more) ⊥ h.lines (h.rest ++ more) line s next (begins_longer read h.lines h.rest more h.begins)
    (inl ([], begins_more read h.lines h.rest before h.begins h.not_ended bare)) (reads.breaks s next broke))

-- ---- lines that end

-- of which the beginning was kept
pub answered_end : {S A R F : Type 0} (kind : ScriptKind S A R F) (start : S) (read written before x : List ℕ) (s next : S) (r q : Running F) (res : Result (Flow F) AllocError) → HasNoEnd before
    → x ≡ take MAX_KEPT (r.line ++ before) → IfOk res (AnswersLine kind s next r.replies q.replies (r.lines + 1) x) → OnErr res (MayBreakOff kind s x next) → q.lines ≡ r.lines + 1 → q.line ≡ []
    → OnErr res (q.replies.text.items ≡ r.replies.text.items) → HasAnsweredLines kind start read written (progress_of s r) → AnswersAs kind start (read ++ (before ++ 10 ∷ [])) written (progress_of next q) res
answered_end kind start read written before x s next r q (Ok flow) bare is a broke count emptied e h =
    let kept : x ≡ kept_of (h.rest ++ before) = is ∙ ap (λ (l : List ℕ). take MAX_KEPT (l ++ before)) h.kept ∙ kept_append MAX_KEPT h.rest before in
    answered_line kind start read written before x s next r q flow h bare (kept_reads kind x (h.rest ++ before) kept) (record { answers = a; count = count; emptied = emptied })
answered_end kind start read written before x s next r q (Err error) bare is a broke count emptied e h =
    let kept : x ≡ kept_of (h.rest ++ before) = is ∙ ap (λ (l : List ℕ). take MAX_KEPT (l ++ before)) h.kept ∙ kept_append MAX_KEPT h.rest before in
    halted_line kind start read written before x s next r q error h bare (kept_reads kind x (h.rest ++ before) kept) broke e

-- that lies whole in the bytes
pub answered_whole : {S A R F : Type 0} (kind : ScriptKind S A R F) (start : S) (read written before : List ℕ) (s next : S) (r q : Running F) (res : Result (Flow F) AllocError) → HasNoEnd before → r.line ≡ []
    → IfOk res (AnswersLine kind s next r.replies q.replies (r.lines + 1) before) → OnErr res (MayBreakOff kind s before next) → q.lines ≡ r.lines + 1 → q.line ≡ r.line
    → OnErr res (q.replies.text.items ≡ r.replies.text.items) → HasAnsweredLines kind start read written (progress_of s r) → AnswersAs kind start (read ++ (before ++ 10 ∷ [])) written (progress_of next q) res
answered_whole kind start read written before s next r q (Ok flow) bare none a broke count same e h =
    let begun : h.rest ≡ [] = nothing_kept h.rest (sym h.kept ∙ none) in
    answered_line kind start read written before before s next r q flow h bare (whole_reads kind before (h.rest ++ before) (ap (λ (l : List ℕ). l ++ before) (sym begun)))
    (record { answers = a; count = count; emptied = same ∙ none })
answered_whole kind start read written before s next r q (Err error) bare none a broke count same e h =
    let begun : h.rest ≡ [] = nothing_kept h.rest (sym h.kept ∙ none) in
    halted_line kind start read written before before s next r q error h bare (whole_reads kind before (h.rest ++ before) (ap (λ (l : List ℕ). l ++ before) (sym begun))) broke e

-- a line goes on
pub extended_line : {S A R F : Type 0} (kind : ScriptKind S A R F) (start : S) (read written more : List ℕ) (s : S) (r q : Running F) (res : Result (Flow F) AllocError) → HasNoEnd more → IfOk res (λ flow. flow ≡ GoesOn)
    → OnOk res (q.line ≡ take MAX_KEPT (r.line ++ more)) → q.lines ≡ r.lines → q.replies ≡ r.replies → HasAnsweredLines kind start read written (progress_of s r)
    → AnswersAs kind start (read ++ more) written (progress_of s q) res
extended_line {F = F} kind start read written more s r q (Ok (Stopped bad)) bare goes is count same h = absurd (let apart : Stopped bad ≡ GoesOn = goes in cc)
extended_line {F = F} kind start read written more s r q (Ok GoesOn) bare goes is count same h = record {
  lines = h.lines;
  given = h.given;
  rest = h.rest ++ more;
  answers = h.answers;
  begins = begins_longer read h.lines h.rest more h.begins;
  not_ended = All-append (λ b. b ≢ 10) h.rest more h.not_ended bare;
  kept = is ∙ ap (λ (l : List ℕ). take MAX_KEPT (l ++ more)) h.kept ∙ kept_append MAX_KEPT h.rest more;
  text = ap (λ (x : Replies F). written ++ x.text.items) same ∙ h.text;
  count = count ∙ h.count;
  refused = ap (λ (x : Replies F). x.is_refused) same ∙ h.refused;
  well_formed = h.well_formed;
}
extended_line {F = F} kind start read written more s r q (Err error) bare goes is count same h = halted_before kind start read written more s r q error h (ap (λ (x : Replies F). x.text.items) same)

-- ---- what is read after a malformed line, and once memory ran out, is not looked at

begins_all : (read : List ℕ) (lines : List (List ℕ)) (others more all : List ℕ) → read ++ more ≡ all → BeginsWithLines read lines others → BeginsWithLines all lines (others ++ more)
begins_all read lines others more all e h = subst (λ (xs : List ℕ). BeginsWithLines xs lines (others ++ more)) e (begins_longer read lines others more h)

whole_longer : {A R : Type 0} (read more all : List ℕ) (lines : List (List ℕ)) (given : List (Given A R)) → read ++ more ≡ all → IsWholeScript read ⊥ lines given → IsWholeScript all ⊥ lines given
whole_longer read more all lines given e (inl h) = absurd h.1
whole_longer read more all lines given e (inr h) = inr (h.0 ++ more, begins_all read lines h.0 more all e h.1, h.2)

first_longer : (read more all : List ℕ) (lines : List (List ℕ)) → read ++ more ≡ all → AreFirstLines read ⊥ lines → AreFirstLines all ⊥ lines
first_longer read more all lines e (inl h) = inl (h.0 ++ more, begins_all read lines h.0 more all e h.1)
first_longer read more all lines e (inr h) = absurd h.1

breaks_longer : {S A R F : Type 0} (kind : ScriptKind S A R F) (read more all : List ℕ) (lines : List (List ℕ)) (end left : S) → read ++ more ≡ all → Breaks kind read ⊥ lines end left → Breaks kind all ⊥ lines end left
breaks_longer kind read more all lines end left e (After others begins same) = After (others ++ more) (begins_all read lines others more all e begins) same
breaks_longer kind read more all lines end left e (Within others line begins first plain broke) =
    Within (others ++ more) line (begins_all read lines others more all e begins) (first_longer read more all (lines ++ line ∷ []) e first) plain broke
breaks_longer kind read more all lines end left e (AtEnd lines_of ended broke) = absurd ended

pub at_last_longer : {S A R F : Type 0} (kind : ScriptKind S A R F) (start : S) (read written more all : List ℕ) (p : Progress S) (r : Result (Flow F) AllocError) → read ++ more ≡ all
    → IsAtLast kind start read ⊥ written p r → IsAtLast kind start all ⊥ written p r
at_last_longer kind start read written more all p (Ok flow) e (lines, given, closing, ends, text, status) =
    (lines, given, closing, record { end = ends.end; answers = ends.answers; whole = whole_longer read more all lines given e ends.whole; closes = ends.closes }, text, status)
at_last_longer kind start read written more all p (Err error) e (lines, given, broke, text, well_formed) =
    (lines, given, record { end = broke.end; answers = broke.answers; breaks = breaks_longer kind read more all lines broke.end p.state e broke.breaks }, text, well_formed)

-- ---- the last line, and what comes after it

whole_last : {S A R F : Type 0} (kind : ScriptKind S A R F) (start : S) (read written : List ℕ) (s : S) (r : Running F) (h : HasAnsweredLines kind start read written (progress_of s r)) → (r.line ≡ [] → ⊥)
    → AreLinesOf read (h.lines ++ (h.rest ++ []) ∷ [])
whole_last kind start read written s r h some = all_read read h.lines h.rest h.begins h.not_ended (λ e. some (h.kept ∙ ap kept_of e))

reads_last : {S A R F : Type 0} (kind : ScriptKind S A R F) (start : S) (read written : List ℕ) (s : S) (r : Running F) (h : HasAnsweredLines kind start read written (progress_of s r)) → ReadsAs kind r.line (h.rest ++ [])
reads_last kind start read written s r h = kept_reads kind r.line (h.rest ++ []) (h.kept ∙ ap kept_of (sym (append-nil h.rest)))

-- the last line was answered
ended_line : {S A R F : Type 0} (kind : ScriptKind S A R F) (start : S) (read written : List ℕ) (s next : S) (r q : Running F) (flow : Flow F) → HasAnsweredLines kind start read written (progress_of s r) → (r.line ≡ [] → ⊥)
    → Answered kind s next r q r.line flow → AnswersLast kind start read written (progress_of next q) (Ok flow)
ended_line kind start read written s next r q GoesOn h some a =
    let line = h.rest ++ [] in
    let added = added_line kind start read written line r.line s next r q GoesOn h (reads_last kind start read written s r h) a in
    record {
      lines = h.lines ++ line ∷ [];
      given = h.given ++ a.answers.given ∷ [];
      answers = added.answers;
      all = whole_last kind start read written s r h some;
      text = added.text;
      refused = added.refused;
      well_formed = malformed_more h.given a.answers.given false h.well_formed a.answers.flow_is;
    }
ended_line kind start read written s next r q (Stopped bad) h some a =
    stopped_line kind start read read (Unit {0}) written (h.rest ++ []) r.line s next r q bad h (reads_last kind start read written s r h) a (λ malformed. inl (whole_last kind start read written s r h some, tt))

pub answered_last : {S A R F : Type 0} (kind : ScriptKind S A R F) (start : S) (read written : List ℕ) (s next : S) (r q : Running F) (res : Result (Flow F) AllocError) → HasAnsweredLines kind start read written (progress_of s r)
    → (r.line ≡ [] → ⊥) → IfOk res (AnswersLine kind s next r.replies q.replies (r.lines + 1) r.line) → OnErr res (MayBreakOff kind s r.line next) → q.lines ≡ r.lines + 1 → q.line ≡ []
    → OnErr res (q.replies.text.items ≡ r.replies.text.items) → AnswersLast kind start read written (progress_of next q) res
answered_last kind start read written s next r q (Ok flow) h some a broke count emptied e = ended_line kind start read written s next r q flow h some (record { answers = a; count = count; emptied = emptied })
answered_last kind start read written s next r q (Err error) h some a broke count emptied e =
    let line = h.rest ++ [] in
    halted_at kind start read read (Unit {0}) written s next r q error h e
    (broke_line kind read (Unit {0}) h.lines h.rest line s next h.begins (inr (whole_last kind start read written s r h some, tt)) ((reads_last kind start read written s r h).breaks s next broke))

-- no line was left
pub none_left : {S A R F : Type 0} (kind : ScriptKind S A R F) (start : S) (read written : List ℕ) (s : S) (r : Running F) → HasAnsweredLines kind start read written (progress_of s r) → r.line ≡ []
    → HasLast kind start read written (progress_of s r)
none_left kind start read written s r h none = record {
  lines = h.lines;
  given = h.given;
  answers = h.answers;
  all = none_read read h.lines h.rest h.begins h.not_ended (nothing_kept h.rest (sym h.kept ∙ none));
  text = h.text;
  refused = h.refused;
  well_formed = h.well_formed;
}

closes_well : {S A R F : Type 0} (kind : ScriptKind S A R F) (s : S) (given : List (Given A R)) (closing : Closing) (next : S) → list_any is_malformed given ≡ false → kind.closes s given closing next
    → ClosesScript kind s given closing next
closes_well {S} kind s given closing next none h = subst (λ (b : Bool). MatchBool b ((closing ≡ no_closing) × (next ≡ s)) (kind.closes s given closing next)) (sym none) h

pub closed : {S A R F : Type 0} (kind : ScriptKind S A R F) (start : S) (read written : List ℕ) (s next : S) (r q : Running F) (refused : Bool) → HasLast kind start read written (progress_of s r)
    → IsClosed kind s next r.replies.text.items q.replies.text.items refused → q.replies.is_refused ≡ (r.replies.is_refused || refused)
    → IsAtLast kind start read (Unit {0}) written (progress_of next q) (Ok GoesOn)
closed {S} {A} {R} {F} kind start read written s next r q refused h a same =
    let closing : Closing = record { text = a.more; is_refused = refused } in (
      h.lines,
      h.given,
      closing,
      record { end = s; answers = h.answers; whole = inl (h.all, tt); closes = closes_well kind s h.given closing next h.well_formed (a.closes h.given h.well_formed) },
      ap (λ (xs : List ℕ). written ++ xs) a.text ∙ sym (append_assoc written r.replies.text.items a.more) ∙ ap (λ (xs : List ℕ). xs ++ a.more) h.text,
      status_is kind next h.lines h.given closing q.replies.is_refused (same ∙ ap (λ (b : Bool). b || refused) h.refused) h.well_formed,
    )

pub unclosed : {S A R F : Type 0} (kind : ScriptKind S A R F) (start : S) (read written : List ℕ) (s next : S) (r q : Running F) (e : AllocError) → HasLast kind start read written (progress_of s r)
    → q.replies.text.items ≡ r.replies.text.items → kind.breaks_at_end s next → IsAtLast kind start read (Unit {0}) written (progress_of next q) (Err e)
unclosed kind start read written s next r q e h same broke =
    (h.lines, h.given, record { end = s; answers = h.answers; breaks = AtEnd h.all tt broke }, ap (λ (xs : List ℕ). written ++ xs) same ∙ h.text, h.well_formed)

-- ---- the same, in other words

pub last_of : {S A R F : Type 0} (kind : ScriptKind S A R F) (start : S) (read written : List ℕ) (p : Progress S) (a b : Flow F) → a ≡ b → AnswersLast kind start read written p (Ok a) → AnswersLast kind start read written p (Ok b)
last_of {F = F} kind start read written p a b e h = subst (λ (f : Flow F). AnswersLast kind start read written p (Ok f)) e h

pub answers_of : {S A R F : Type 0} (kind : ScriptKind S A R F) (start : S) (read written : List ℕ) (p : Progress S) (a b : Flow F) → a ≡ b → AnswersAs kind start read written p (Ok a) → AnswersAs kind start read written p (Ok b)
answers_of {F = F} kind start read written p a b e h = subst (λ (f : Flow F). AnswersAs kind start read written p (Ok f)) e h

pub answers_same : {S A R F : Type 0} (kind : ScriptKind S A R F) (start : S) (a b written : List ℕ) (p : Progress S) (r : Result (Flow F) AllocError) → a ≡ b → AnswersAs kind start a written p r → AnswersAs kind start b written p r
answers_same kind start a b written p r e h = subst (λ (xs : List ℕ). AnswersAs kind start xs written p r) e h

-- ---- a run that begins

pub nothing_answered : {S A R F : Type 0} (kind : ScriptKind S A R F) (start : S) (r : Running F) → r.lines ≡ 0 → r.line ≡ [] → r.replies.text.items ≡ [] → r.replies.is_refused ≡ false
    → HasAnsweredLines kind start [] [] (progress_of start r)
nothing_answered kind start r lines line output refused = record {
  lines = [];
  given = [];
  rest = [];
  answers = refl;
  begins = record { joined = refl; each_is_one = All-nil HasNoEnd };
  not_ended = no_end;
  kept = line;
  text = output;
  count = lines;
  refused = refused;
  well_formed = refl;
}

-- ---- whether a line is kept

pub is_nothing : {X : Type 0} (xs : List X) → eqb (length xs) 0 ≡ true → xs ≡ []
is_nothing [] h = refl
is_nothing (x ∷ xs) h = let none : length (x ∷ xs) ≡ 0 = grind (arith, nat_tests, h) in absurd (omega (arith, none))

pub not_nothing : {X : Type 0} (xs : List X) → eqb (length xs) 0 ≡ false → xs ≡ [] → ⊥
not_nothing [] h e = cc
not_nothing (x ∷ xs) h e = cc
