-- Lines of a script that are answered one after another, whatever kind of script it is.
use Rattle.std.proofs.Common.{◌≡◌, ◌≢◌, ℕ, ◌+◌, ◌≤◌, Bool, true, false, ◌||◌, zero, suc, List, [], ◌∷◌, ◌++◌, length, take, refl, sym, ap, subst, ◌∙◌, arith, append_assoc, inl, inr}
use Rattle.std.specs.List.{list_any, flat_map}
use Rattle.std.proofs.Math.Seq.{take-append-add}
use Rattle.std.proofs.lemmas.List.{append-nil, take_all, length-take}
use Rattle.std.proofs.lemmas.List.Elements.{All-append, All-cons, All-nil}
use Rattle.std.proofs.lemmas.List.Folds.{list_any-append}
use Rattle.std.proofs.lemmas.Grind.{flat_map-append}
use Rattle.txc_script.specs.Script.{BeginsWithLines, HasNoEnd, AreLinesOf, ended, last_line}
use Rattle.txc_script.specs.Kinds.{ScriptKind, Given, Nothing, Replied, Malformed, Closing, AreGiven, Asks, Gives, EndsAtMalformed, IsFaultOf, IsStatusOf, IsWholeScript, is_malformed, is_refused, line_text, lines_text}
use Rattle.txc_script.specs.Flows.{status_after}
use Rattle.txc_script.specs.Lines.{IsPlain, IsQuiet}
use Rattle.txc_script.specs.Progress.{MayBreakOff, kept_of}
use Rattle.txc_script.specs.declared.line.TheConstants.{MAX_LINE_LEN}
use Rattle.txc_script.specs.declared.line_fault.LineFault.{LineFault}
use Rattle.txc_script.specs.declared.line_fault.LineFault.TheVariants.{TooLong, Byte, Blanks, Command}
use Rattle.txc_script.specs.declared.piece.TheConstants.{MAX_KEPT}
use Rattle.txc_script.specs.declared.running.Flow.TheVariants as flows

-- ---- what the lines give

goes_on : (malformed : Bool) (lines : List (List ℕ)) → malformed ≡ false → EndsAtMalformed malformed lines
goes_on true lines h = cc
goes_on false lines h = tt

goes_nowhere : (malformed : Bool) → EndsAtMalformed malformed []
goes_nowhere true = refl
goes_nowhere false = tt

either_false : (a b : Bool) → (a || b) ≡ false → (a ≡ false) × (b ≡ false)
either_false true b h = cc
either_false false b h = (refl, h)

or_nothing : (b : Bool) → (b || false) ≡ b
or_nothing true = refl
or_nothing false = refl

pub any_more : {G : Type 0} (p : G → Bool) (given : List G) (g : G) → list_any p (given ++ g ∷ []) ≡ (list_any p given || p g)
any_more p given g = list_any-append p given (g ∷ []) ∙ ap (λ b. list_any p given || b) (or_nothing (p g))

flat_more : {G : Type 0} (f : G → List ℕ) (given : List G) (g : G) → flat_map f (given ++ g ∷ []) ≡ flat_map f given ++ f g
flat_more f given g = flat_map-append f given (g ∷ []) ∙ ap (λ (xs : List ℕ). flat_map f given ++ xs) (append-nil (f g))

-- one line more
pub given_more : {S A R F : Type 0} (kind : ScriptKind S A R F) (c : S) (n : ℕ) (lines : List (List ℕ)) (given : List (Given A R)) (end : S) (line : List ℕ) (g : Given A R) (next : S)
    → AreGiven kind c n lines given end → list_any is_malformed given ≡ false → Gives kind end (n + length lines) line g next
    → AreGiven kind c n (lines ++ line ∷ []) (given ++ g ∷ []) next
given_more {S} {A} {R} {F} kind c n [] [] end line g next h none gives =
    let same : n + 0 ≡ n = omega arith in
    (next, subst (λ (s : S). Gives kind s n line g next) h (subst (λ (k : ℕ). Gives kind end k line g next) same gives), goes_nowhere (is_malformed g), refl)
given_more kind c n [] (g0 ∷ given) end line g next h none gives = absurd h
given_more kind c n (l ∷ lines) [] end line g next h none gives = absurd h
given_more kind c n (l ∷ lines) (g0 ∷ given) end line g next h none gives =
    let none_of = either_false (is_malformed g0) (list_any is_malformed given) none in
    let same : n + suc (length lines) ≡ n + 1 + length lines = omega arith in (
      h.0,
      h.1,
      goes_on (is_malformed g0) (lines ++ line ∷ []) none_of.0,
      given_more kind h.0 (n + 1) lines given end line g next h.3 none_of.1 (subst (λ (k : ℕ). Gives kind end k line g next) same gives),
    )

-- what is written of it comes after the text of those before
pub text_more : {S A R F : Type 0} (kind : ScriptKind S A R F) (written old new : List ℕ) (given : List (Given A R)) (g : Given A R) → written ++ old ≡ lines_text kind given
    → new ≡ old ++ line_text kind g → written ++ new ≡ lines_text kind (given ++ g ∷ [])
text_more kind written old new given g h e =
    ap (λ (xs : List ℕ). written ++ xs) e ∙ sym (append_assoc written old (line_text kind g)) ∙ ap (λ (xs : List ℕ). xs ++ line_text kind g) h ∙ sym (flat_more (line_text kind) given g)

-- ---- lines of bytes

regroup : (a b c d : List ℕ) → (a ++ b) ++ (c ++ d) ≡ a ++ ((b ++ c) ++ d)
regroup a b c d = append_assoc a b (c ++ d) ∙ ap (λ (xs : List ℕ). a ++ xs) (sym (append_assoc b c d))

pub begins_more : (read : List ℕ) (lines : List (List ℕ)) (tail before : List ℕ) → BeginsWithLines read lines tail → HasNoEnd tail → HasNoEnd before
    → BeginsWithLines (read ++ (before ++ 10 ∷ [])) (lines ++ (tail ++ before) ∷ []) []
begins_more read lines tail before h unended bare =
    let line = tail ++ before in
    record {
      joined = ap (λ (xs : List ℕ). xs ++ (before ++ 10 ∷ [])) h.joined ∙ regroup (flat_map ended lines) tail before (10 ∷ [])
          ∙ ap (λ (xs : List ℕ). flat_map ended lines ++ xs) (sym (append-nil (ended line))) ∙ sym (flat_map-append ended lines (line ∷ []))
          ∙ sym (append-nil (flat_map ended (lines ++ line ∷ [])));
      each_is_one = All-append HasNoEnd lines (line ∷ []) h.each_is_one (All-cons HasNoEnd line [] (All-append (λ b. b ≢ 10) tail before unended bare) (All-nil HasNoEnd));
    }

pub begins_longer : (read : List ℕ) (lines : List (List ℕ)) (tail more : List ℕ) → BeginsWithLines read lines tail → BeginsWithLines (read ++ more) lines (tail ++ more)
begins_longer read lines tail more h = record {
  joined = ap (λ (xs : List ℕ). xs ++ more) h.joined ∙ append_assoc (flat_map ended lines) tail more;
  each_is_one = h.each_is_one;
}

pub no_end : HasNoEnd []
no_end = λ k d l. absurd (omega arith)

last_of_one : (rest : List ℕ) → (rest ≡ [] → ⊥) → last_line rest ≡ rest ∷ []
last_of_one [] h = absurd (h refl)
last_of_one (b ∷ rest) h = refl

-- the last line, whose line feed is missing
pub all_read : (read : List ℕ) (lines : List (List ℕ)) (rest : List ℕ) → BeginsWithLines read lines rest → HasNoEnd rest → (rest ≡ [] → ⊥)
    → AreLinesOf read (lines ++ (rest ++ []) ∷ [])
all_read read lines rest begins not_ended some =
    (lines, rest, begins, not_ended, ap (λ (l : List ℕ). lines ++ l ∷ []) (append-nil rest) ∙ ap (λ (ls : List (List ℕ)). lines ++ ls) (sym (last_of_one rest some)))

-- no line was left
pub none_read : (read : List ℕ) (lines : List (List ℕ)) (rest : List ℕ) → BeginsWithLines read lines rest → HasNoEnd rest → rest ≡ [] → AreLinesOf read lines
none_read read lines rest begins not_ended none =
    (lines, rest, begins, not_ended, sym (append-nil lines) ∙ ap (λ (left : List ℕ). lines ++ last_line left) (sym none))

-- lists of bytes
pub rejoined : (read done before after rest all : List ℕ) → all ≡ done ++ rest → rest ≡ before ++ 10 ∷ after → ((read ++ done) ++ (before ++ 10 ∷ [])) ++ after ≡ read ++ all
rejoined read done before after rest all e f = simp append_assoc (ap (λ (xs : List ℕ). read ++ xs) (ap (λ (xs : List ℕ). done ++ xs) (sym f) ∙ sym e))

pub split_more : (done before after rest all : List ℕ) → all ≡ done ++ rest → rest ≡ before ++ 10 ∷ after → all ≡ (done ++ (before ++ 10 ∷ [])) ++ after
split_more done before after rest all e f = simp append_assoc (e ∙ ap (λ (xs : List ℕ). done ++ xs) f)

-- ---- what is kept of a line is enough

pub kept_append : (n : ℕ) (a b : List ℕ) → take n (take n a ++ b) ≡ take n (a ++ b)
kept_append zero a b = refl
kept_append (suc n) [] b = refl
kept_append (suc n) (x ∷ a) b = ap (λ (xs : List ℕ). x ∷ xs) (kept_append n a b)

none_taken : (n : ℕ) (xs : List ℕ) → take (suc n) xs ≡ [] → xs ≡ []
none_taken n [] h = refl
none_taken n (x ∷ xs) h = cc

pub nothing_kept : (rest : List ℕ) → kept_of rest ≡ [] → rest ≡ []
nothing_kept rest h = none_taken 4096 rest h

plain_kept : (line : List ℕ) → IsPlain (kept_of line) → kept_of line ≡ line
plain_kept line h = take_all MAX_KEPT line (omega (arith, length-take MAX_KEPT line, h.few))

plain_whole : (line : List ℕ) → IsPlain line → kept_of line ≡ line
plain_whole line h = take_all MAX_KEPT line (omega (arith, h.few))

short_kept : (line : List ℕ) → length (kept_of line) ≤ MAX_LINE_LEN → kept_of line ≡ line
short_kept line h = take_all MAX_KEPT line (omega (arith, length-take MAX_KEPT line, h))

gives_whole : {S A R F : Type 0} (kind : ScriptKind S A R F) (c : S) (n : ℕ) (line : List ℕ) (g : Given A R) (next : S) → Gives kind c n (kept_of line) g next → Gives kind c n line g next
gives_whole kind c n line Nothing next h = (subst IsQuiet (plain_kept line h.0.0) h.0, h.1)
gives_whole kind c n line (Replied asked reply) next h = (subst (λ (l : List ℕ). Asks kind c l asked) (plain_kept line h.0.0) h.0, h.1)
gives_whole kind c n line (Malformed k) next h = (
  record {
    not_quiet = λ quiet. h.0.not_quiet (subst IsQuiet (sym (plain_whole line quiet.0)) quiet);
    asks_nothing = λ asked is. h.0.asks_nothing asked (subst (λ (l : List ℕ). Asks kind c l asked) (sym (plain_whole line is.0)) is);
  },
  h.1,
  h.2,
)

fault_whole : {S A R F : Type 0} (kind : ScriptKind S A R F) (c : S) (line : List ℕ) (fault : LineFault F) → IsFaultOf kind c (kept_of line) fault → IsFaultOf kind c line fault
fault_whole kind c line TooLong h = omega (arith, length-take MAX_KEPT line, h)
fault_whole kind c line (Byte at byte) h = subst (λ (l : List ℕ). IsFaultOf kind c l (Byte at byte)) (short_kept line h.0) h
fault_whole kind c line Blanks h = subst (λ (l : List ℕ). IsFaultOf kind c l Blanks) (plain_kept line h.0) h
fault_whole kind c line (Command fault) h = subst (λ (l : List ℕ). IsFaultOf kind c l (Command fault)) (plain_kept line h.0.plain) h

breaks_whole : {S A R F : Type 0} (kind : ScriptKind S A R F) (c : S) (line : List ℕ) (next : S) → MayBreakOff kind c (kept_of line) next → MayBreakOff kind c line next
breaks_whole kind c line next (inl same) = inl same
breaks_whole kind c line next (inr (plain, broke)) =
    let whole = plain_kept line plain in
    inr (subst IsPlain whole plain, subst (λ (l : List ℕ). kind.breaks_off c l next) whole broke)

-- what is read of a line as these bytes is read of the whole line too
pub record ReadsAs {S A R F : Type 0} (kind : ScriptKind S A R F) (read line : List ℕ) : Type 0 where
  pub gives : (c : S) (n : ℕ) (g : Given A R) (next : S) → Gives kind c n read g next → Gives kind c n line g next
  pub fault : (c : S) (fault : LineFault F) → IsFaultOf kind c read fault → IsFaultOf kind c line fault
  pub breaks : (c next : S) → MayBreakOff kind c read next → MayBreakOff kind c line next

pub whole_reads : {S A R F : Type 0} (kind : ScriptKind S A R F) (read line : List ℕ) → read ≡ line → ReadsAs kind read line
whole_reads kind read line is = record {
  gives = λ c n g next h. subst (λ (l : List ℕ). Gives kind c n l g next) is h;
  fault = λ c fault h. subst (λ (l : List ℕ). IsFaultOf kind c l fault) is h;
  breaks = λ c next h. subst (λ (l : List ℕ). MayBreakOff kind c l next) is h;
}

pub kept_reads : {S A R F : Type 0} (kind : ScriptKind S A R F) (read line : List ℕ) → read ≡ kept_of line → ReadsAs kind read line
kept_reads kind read line is = record {
  gives = λ c n g next h. gives_whole kind c n line g next (subst (λ (l : List ℕ). Gives kind c n l g next) is h);
  fault = λ c fault h. fault_whole kind c line fault (subst (λ (l : List ℕ). IsFaultOf kind c l fault) is h);
  breaks = λ c next h. breaks_whole kind c line next (subst (λ (l : List ℕ). MayBreakOff kind c l next) is h);
}

-- ---- the end of a run

-- what was written, and so much of what is left to write, begins all that is written
pub prefix_of : (written out all : List ℕ) (n : ℕ) → written ++ out ≡ all → written ++ take n out ≡ take (length written + n) all
prefix_of written out all n e = sym (take-append-add written out n) ∙ ap (take (length written + n)) e

pub status_is : {S A R F : Type 0} (kind : ScriptKind S A R F) (left : S) (lines : List (List ℕ)) (given : List (Given A R)) (closing : Closing) (refused : Bool)
    → refused ≡ (list_any (is_refused kind) given || closing.is_refused) → list_any is_malformed given ≡ false → IsStatusOf kind left lines given closing (status_after refused flows.GoesOn)
status_is kind left lines given closing true same none = (sym same, none)
status_is kind left lines given closing false same none = sym same

pub whole_at : {A R : Type 0} (P Q : Type 0) (read : List ℕ) (lines : List (List ℕ)) (given : List (Given A R)) → (P → Q) → IsWholeScript read P lines given → IsWholeScript read Q lines given
whole_at P Q read lines given f (inl h) = inl (h.0, f h.1)
whole_at P Q read lines given f (inr h) = inr h
