-- What the function asks while its caller computes it.
use denote.Ref.{Bor}
use Rattle.std.proofs.Common.{◌≡◌, ◌≢◌, ◌∙◌, ℕ, ◌==◌, List, [], ◌∷◌, ◌++◌, Bool, true, false, ne_eqb, IsSome, MatchOption, Option, Some, None, refl, ap, sym, subst}
use Rattle.std.specs.Prelude.{if◌then◌else◌, unwrap_or}
use Rattle.std.specs.Option.{ForSome}
use Rattle.txc_tags.specs.Keys.{Call}
use Rattle.txc_rows.specs.declared.query.Query.{Query}
use Rattle.txc_rows.specs.declared.query.Query.TheVariants.{ById}
use Rattle.txc_app.specs.declared.ask.Answer.{Answer}
use Rattle.txc_app.specs.declared.ask.Ask.{Ask}
use Rattle.txc_app.specs.declared.ask.Ask.TheVariants as asks
use Rattle.txc_call_registry.specs.Activity.{Activation, Activity, activation_in, answered, begun, idle, running}
use Rattle.txc_call_registry.specs.Objects.{activation_of, activity_of, with_activity, Objects}
use Rattle.txc_call_registry.proofs.Offered.{here_after}
use Rattle.txc_call.specs.CallMachine.{Calling}
use Rattle.txc_call.specs.declared.frame.Frame.{Frame}
use Rattle.txc_call.specs.declared.need.Need.{Need}
use Rattle.txc_call.specs.declared.need.Need.TheVariants as needs
use Rattle.txc_call.specs.Frames.{answers_in}
use Rattle.txc_call.specs.CallSteps.{due_ask}
use Rattle.txc_call_ghosts.specs.Steps.{objects_after_ask, objects_after_need}
use Rattle.txc_caller.specs.ComputedFunctions.{calls_of, computed_calls, computed_in, told_answer, told_in, AsksNext}
use Rattle.txc_uses_callers.specs.Labels.{asks_label, first_body, first_group, label_call, labels, rows_told, BeginsLabel}

-- without an open call nothing is asked
pub asks_nothing : (objects : Objects) (call : Calling) (ask : Ask) → call.need ≡ None → AsksNext labels objects call ask
asks_nothing objects call ask none = λ need is. absurd (cc)

-- ---- its argument

-- the argument of the call that is computed is that of the call that was asked for
pub argument_is : (key : Option (Bor Call)) (calls : List Call) (asked id : ℕ) → MatchOption key (calls ≡ []) (λ k. (around : List Call) × (calls ≡ k.now ∷ around))
    → calls ≡ label_call asked ∷ [] → ForSome key (λ k. k.now.args ≡ id ∷ []) → id ≡ asked
argument_is None calls asked id found only args = absurd (cc (found, only))
argument_is (Some k) calls asked id found only args =
    let its : k.now ≡ label_call asked = cc (found.1, only) in
    let own : k.now.args ≡ id ∷ [] = args k refl in
    let given : k.now.args ≡ asked ∷ [] = ap (λ (c : Call). c.args) its in
    cc

-- ---- what it asks next, by what it was told until now

due_first : (objects : Objects) (frames : List Frame) (need : Need) (id : ℕ) (ask : Ask) → computed_in frames (Some need) ≡ label_call id ∷ []
    → told_in (Some need) ≡ None → asks_label (id ∷ []) [] ≡ Some ask → due_ask labels objects frames need ≡ Some ask
due_first objects frames (needs.Begin k) id ask only untold says =
    let both : k ∷ calls_of frames ≡ label_call id ∷ [] = only in
    let same : k ≡ label_call id = cc in
    subst (λ (k' : Call). asks_label k'.args [] ≡ Some ask) (sym same) says
due_first objects frames (needs.Resume x) id ask only untold says = absurd (cc untold)
due_first objects frames (needs.Lookup k) id ask only untold says = absurd (cc only)
due_first objects frames (needs.Query q) id ask only untold says = absurd (cc only)
due_first objects frames (needs.Insert e) id ask only untold says = absurd (cc only)
due_first objects frames (needs.Value o) id ask only untold says = absurd (cc only)

-- once it has begun
pub asks_first : (objects : Objects) (call : Calling) (id : ℕ) (ask : Ask) → BeginsLabel id call → asks_label (id ∷ []) [] ≡ Some ask
    → AsksNext labels objects call ask
asks_first objects call id ask b says = λ need is. due_first objects call.frames need id ask
    (subst (λ (n : Option Need). computed_in call.frames n ≡ label_call id ∷ []) is b.only) (subst (λ (n : Option Need). told_in n ≡ None) is b.untold) says

due_resumed : (objects : Objects) (frames : List Frame) (x' x : Answer) (need : Need) (id : ℕ) (given : List Answer) (ask : Ask) → calls_of frames ≡ label_call id ∷ []
    → ((frame : Frame) (outer : List Frame) → frames ≡ frame ∷ outer → due_ask labels objects frames need ≡ asks_label frame.key.args (answers_in objects frame.key.function ++ x' ∷ []))
    → x' ≡ x → answers_in objects 0 ≡ given → asks_label (id ∷ []) (given ++ x ∷ []) ≡ Some ask → due_ask labels objects frames need ≡ Some ask
due_resumed objects [] x' x need id given ask only due same before says = absurd (cc only)
due_resumed objects (frame ∷ outer) x' x need id given ask only due same before says =
    let both : frame.key ∷ calls_of outer ≡ label_call id ∷ [] = only in
    let key : frame.key ≡ label_call id = cc in
    due frame outer refl
    ∙ (ap (λ (k : Call). asks_label k.args (answers_in objects k.function ++ x' ∷ [])) key
    ∙ (ap (λ (g : List Answer). asks_label (id ∷ []) (g ++ x' ∷ [])) before
    ∙ (ap (λ (a : Answer). asks_label (id ∷ []) (given ++ a ∷ [])) same ∙ says)))

due_after : (objects : Objects) (frames : List Frame) (need : Need) (x : Answer) → told_in (Some need) ≡ Some x → (id : ℕ) (given : List Answer) (ask : Ask)
    → computed_in frames (Some need) ≡ label_call id ∷ [] → answers_in objects 0 ≡ given → asks_label (id ∷ []) (given ++ x ∷ []) ≡ Some ask
    → due_ask labels objects frames need ≡ Some ask
due_after objects frames (needs.Resume h) x told id given ask only before says =
    let same : Some h.answer ≡ Some x = told in
    due_resumed objects frames h.answer x (needs.Resume h) id given ask only
    (λ frame outer is. ap (λ (fs : List Frame). due_ask labels objects fs (needs.Resume h)) is) (cc) before says
due_after objects frames (needs.Begin k) x told id given ask only before says = absurd (cc told)
due_after objects frames (needs.Lookup k) x told id given ask only before says = absurd (cc told)
due_after objects frames (needs.Query q) x told id given ask only before says = absurd (cc told)
due_after objects frames (needs.Insert e) x told id given ask only before says = absurd (cc told)
due_after objects frames (needs.Value o) x told id given ask only before says = absurd (cc told)

-- once it was told this, and these before
pub asks_after : (objects : Objects) (call : Calling) (id : ℕ) (given : List Answer) (x : Answer) (ask : Ask) → computed_calls call ≡ label_call id ∷ []
    → told_answer call ≡ Some x → answers_in objects 0 ≡ given → asks_label (id ∷ []) (given ++ x ∷ []) ≡ Some ask → AsksNext labels objects call ask
asks_after objects call id given x ask only told before says = λ need is. due_after objects call.frames need x
    (subst (λ (n : Option Need). told_in n ≡ Some x) is told) id given ask (subst (λ (n : Option Need). computed_in call.frames n ≡ label_call id ∷ []) is only) before says

-- ---- what it was told until now

-- the function of the label runs, and was told these
pub record WasTold (id : ℕ) (given : List Answer) (objects : Objects) : Type 0 where
  pub runs : activity_of objects 0 ≡ Some (running (record { args = id ∷ []; answers = given }))

pub told_so : (id : ℕ) (given : List Answer) (objects : Objects) → WasTold id given objects → answers_in objects 0 ≡ given
told_so id given objects w = ap (λ (o : Option Activity). (activation_in (unwrap_or o idle)).answers) w.runs

-- it is there, whatever it does
pub record IsThere (objects : Objects) : Type 0 where
  pub does : Activity
  pub at : activity_of objects 0 ≡ Some does

is_there : (objects : Objects) (o : Option Activity) → o ≡ activity_of objects 0 → IsSome o → IsThere objects
is_there objects None is some = absurd (cc some)
is_there objects (Some does) is some = record { does = does; at = sym is }

pub there : (objects : Objects) → IsSome (activity_of objects 0) → IsThere objects
there objects some = is_there objects (activity_of objects 0) refl some

first_told : (objects : Objects) (frames : List Frame) (need : Option Need) (id : ℕ) (q : Query) → IsThere objects → computed_in frames need ≡ label_call id ∷ []
    → told_in need ≡ None → WasTold id [] (objects_after_need objects frames need (asks.Query q))
first_told objects frames None id q t only untold = absurd (cc only)
first_told objects frames (Some (needs.Begin k)) id q t only untold =
    let both : k ∷ calls_of frames ≡ label_call id ∷ [] = only in
    let same : k ≡ label_call id = cc in
    subst (λ (k' : Call). WasTold id [] (with_activity objects k'.function (running (begun k'.args)))) (sym same)
    (record { runs = here_after 0 objects t.does (running (begun (id ∷ []))) t.at })
first_told objects frames (Some (needs.Resume x)) id q t only untold = absurd (cc untold)
first_told objects frames (Some (needs.Lookup k)) id q t only untold = absurd (cc only)
first_told objects frames (Some (needs.Query q')) id q t only untold = absurd (cc only)
first_told objects frames (Some (needs.Insert e)) id q t only untold = absurd (cc only)
first_told objects frames (Some (needs.Value o)) id q t only untold = absurd (cc only)

-- after its first query it was told nothing yet
pub none_told : (objects after : Objects) (call : Calling) (id : ℕ) (q : Query) → IsThere objects → BeginsLabel id call
    → after ≡ objects_after_ask objects call (asks.Query q) → WasTold id [] after
none_told objects after call id q t b is = subst (λ (os : Objects). WasTold id [] os) (sym is) (first_told objects call.frames call.need id q t b.only b.untold)

one_more : (objects : Objects) (id : ℕ) (x : Answer) → WasTold id [] objects
    → WasTold id (x ∷ []) (with_activity objects 0 (running (answered (activation_of objects 0) x)))
one_more objects id x w =
    let was = running (record { args = id ∷ []; answers = [] }) in
    let runs : activation_of objects 0 ≡ record { args = id ∷ []; answers = [] } = ap (λ (o : Option Activity). activation_in (unwrap_or o idle)) w.runs in
    record { runs = here_after 0 objects was (running (answered (activation_of objects 0) x)) w.runs ∙ ap (λ (a : Activation). Some (running (answered a x))) runs }

next_told : (objects : Objects) (frames : List Frame) (h x : Answer) (id : ℕ) (q : Query) (need : Option Need) → calls_of frames ≡ label_call id ∷ [] → h ≡ x
    → ((frame : Frame) (outer : List Frame) → frames ≡ frame ∷ outer → objects_after_need objects frames need (asks.Query q)
    ≡ with_activity objects frame.key.function (running (answered (activation_of objects frame.key.function) h)))
    → WasTold id [] objects → WasTold id (x ∷ []) (objects_after_need objects frames need (asks.Query q))
next_told objects [] h x id q need only same after w = absurd (cc only)
next_told objects (frame ∷ outer) h x id q need only same after w =
    let both : frame.key ∷ calls_of outer ≡ label_call id ∷ [] = only in
    let key : frame.key ≡ label_call id = cc in
    subst (λ (os : Objects). WasTold id (x ∷ []) os) (sym (after frame outer refl))
    (subst (λ (k : Call). WasTold id (x ∷ []) (with_activity objects k.function (running (answered (activation_of objects k.function) h)))) (sym key)
    (subst (λ (a : Answer). WasTold id (x ∷ []) (with_activity objects 0 (running (answered (activation_of objects 0) a)))) (sym same) (one_more objects id x w)))

told_next : (objects : Objects) (frames : List Frame) (need : Option Need) (id : ℕ) (x : Answer) (q : Query) → computed_in frames need ≡ label_call id ∷ []
    → told_in need ≡ Some x → WasTold id [] objects → WasTold id (x ∷ []) (objects_after_need objects frames need (asks.Query q))
told_next objects frames None id x q only told w = absurd (cc told)
told_next objects frames (Some (needs.Resume h)) id x q only told w =
    let same : Some h.answer ≡ Some x = told in
    next_told objects frames h.answer x id q (Some (needs.Resume h)) only (cc)
    (λ frame outer is. ap (λ (fs : List Frame). objects_after_need objects fs (Some (needs.Resume h)) (asks.Query q)) is) w
told_next objects frames (Some (needs.Begin k)) id x q only told w = absurd (cc told)
told_next objects frames (Some (needs.Lookup k)) id x q only told w = absurd (cc told)
told_next objects frames (Some (needs.Query q')) id x q only told w = absurd (cc told)
told_next objects frames (Some (needs.Insert e)) id x q only told w = absurd (cc told)
told_next objects frames (Some (needs.Value o)) id x q only told w = absurd (cc told)

-- after its second query it was told what it continued with
pub one_told : (objects after : Objects) (call : Calling) (id : ℕ) (x : Answer) (q : Query) → computed_calls call ≡ label_call id ∷ [] → told_answer call ≡ Some x
    → WasTold id [] objects → after ≡ objects_after_ask objects call (asks.Query q) → WasTold id (x ∷ []) after
one_told objects after call id x q only told w is = subst (λ (os : Objects). WasTold id (x ∷ []) os) (sym is) (told_next objects call.frames call.need id x q only told w)

-- ---- how it branches

if_true : {A : Type 0} (b : Bool) (x y : A) → b ≡ true → (if b then x else y) ≡ x
if_true true x y is = refl
if_true false x y is = absurd (cc)

if_false : {A : Type 0} (b : Bool) (x y : A) → b ≡ false → (if b then x else y) ≡ y
if_false true x y is = absurd (cc)
if_false false x y is = refl

is_zero : (n : ℕ) → n ≡ 0 → (n == 0) ≡ true
is_zero n is = rw is refl

is_other : (n : ℕ) → n ≢ 0 → (n == 0) ≡ false
is_other n apart = ne_eqb n 0 apart

-- of the id 0 it is done at once
pub says_nothing : (id : ℕ) (bytes : List ℕ) → id ≡ 0 → bytes ≡ [] → asks_label (id ∷ []) [] ≡ Some (asks.Done bytes)
says_nothing id bytes is none = if_true (id == 0) _ _ (is_zero id is) ∙ ap (λ (bs : List ℕ). Some (asks.Done bs)) (sym none)

-- of any other it asks for the row
pub says_row : (id : ℕ) (query : Query) → (id == 0) ≡ false → query ≡ ById 1 id → asks_label (id ∷ []) [] ≡ Some (asks.Query query)
says_row id query other is = if_false (id == 0) _ _ other ∙ ap (λ (q : Query). Some (asks.Query q)) (sym is)

-- a row of group 0, or none, is the last
pub says_body : (id : ℕ) (x : Answer) (bytes : List ℕ) → first_group (rows_told x) ≡ 0 → bytes ≡ first_body (rows_told x)
    → asks_label (id ∷ []) ([] ++ x ∷ []) ≡ Some (asks.Done bytes)
says_body id x bytes none is = if_true (first_group (rows_told x) == 0) _ _ (is_zero _ none) ∙ ap (λ (bs : List ℕ). Some (asks.Done bs)) (sym is)

-- after any other it asks for the row whose id is the group
pub says_other : (id : ℕ) (x : Answer) (query : Query) → first_group (rows_told x) ≢ 0 → query ≡ ById 1 (first_group (rows_told x))
    → asks_label (id ∷ []) ([] ++ x ∷ []) ≡ Some (asks.Query query)
says_other id x query other is = if_false (first_group (rows_told x) == 0) _ _ (is_other _ other) ∙ ap (λ (q : Query). Some (asks.Query q)) (sym is)

-- and gives the body of that
pub says_last : (id : ℕ) (x y : Answer) (bytes : List ℕ) → bytes ≡ first_body (rows_told y) → asks_label (id ∷ []) ((x ∷ []) ++ y ∷ []) ≡ Some (asks.Done bytes)
says_last id x y bytes is = ap (λ (bs : List ℕ). Some (asks.Done bs)) (sym is)
