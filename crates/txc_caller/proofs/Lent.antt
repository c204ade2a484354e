-- A transaction whose functions its caller runs: what stays true from one request or ask to the next.
use Rattle.std.proofs.Common.{◌≡◌, ◌∙◌, ◌≤◌, ℕ, Bool, true, false, eqb, Option, Some, None, IsSome, List, [], ◌∷◌, Ok, Err, inl, inr, refl, ap, sym, subst}
use Rattle.std.specs.Option.{ForSome}
use Rattle.txc_call_ghosts.proofs.Numbers.{resumed_numbers}
use Rattle.txc_tags.specs.Keys.{Call}
use Rattle.txc_tags.specs.declared.key.TheConstants.{LAST_FUNCTION}
use Rattle.txc_app.specs.declared.ask.Ask.{Ask}
use Rattle.txc_app.specs.declared.ask.Ask.TheVariants as asks
use Rattle.txc_call_registry.specs.Activity.{Activity}
use Rattle.txc_app.specs.Eval.{Next}
use Rattle.txc_call_registry.specs.Objects.{AllIdle, Objects, activity_of, numbers_of}
use Rattle.txc_call.specs.declared.frame.Frame.{Frame}
use Rattle.txc_call.specs.declared.need.Need.{Need}
use Rattle.txc_call.specs.declared.need.Need.TheVariants as needs
use Rattle.txc_call.specs.Needs.{NeedFits}
use Rattle.txc_call.specs.CallSteps.{with_resumed, FunctionExists, NeedsFunction}
use Rattle.txc_txn_ports.specs.declared.turn.Turn.TheVariants.{Ask as Asks, Ended}
use Rattle.txc_txn_ports.specs.Turns.{PortTurn, IsAsk}
use Rattle.txc_txn_ports.proofs.Options.{for_none}
use Rattle.txc_txn.specs.declared.pinning.Pinning.{Pinning}
use Rattle.txc_txn.specs.ByHand.{FirstExists, HandTurn, IsHandTurn, IsUnended, ObjectsLeft}
use Rattle.txc_txn.specs.TxnCore.{CoreValue, either_call, first_call, open_call, running_call, IsCore, IsIdle, IsTurn}
use Rattle.txc_caller.specs.CallerTxn.{IsRestingCore}
use Rattle.txc_caller.specs.ComputedFunctions.{top_call, HaveAllFunctions}

-- ---- there is an object for each function

there_by_head : (f : ℕ) (o u : ℕ × Activity) (os us : Objects) (b : Bool) → eqb o.0 f ≡ b → u.0 ≡ o.0 → IsSome (activity_of (o ∷ os) f)
    → (IsSome (activity_of os f) → IsSome (activity_of us f)) → IsSome (activity_of (u ∷ us) f)
there_by_head f o u os us true is same there next = let is' : eqb u.0 f ≡ true = ap (λ n. eqb n f) same ∙ is in rw is' refl
there_by_head f o u os us false is same there next =
    let is' : eqb u.0 f ≡ false = ap (λ n. eqb n f) same ∙ is in
    let there' : IsSome (activity_of os f) = rw is at there in rw is' (next there')

-- objects of the same numbers are there for the same functions
pub there_by : (os us : Objects) (f : ℕ) → numbers_of us ≡ numbers_of os → IsSome (activity_of os f) → IsSome (activity_of us f)
there_by [] us f same there = absurd (cc)
there_by (o ∷ os) [] f same there = absurd (cc same)
there_by (o ∷ os) (u ∷ us) f same there =
    let head : u.0 ≡ o.0 = cc same in
    let rest : numbers_of us ≡ numbers_of os = cc same in
    there_by_head f o u os us (eqb o.0 f) refl head there (there_by os us f rest)

pub all_there : (os us : Objects) → numbers_of us ≡ numbers_of os → HaveAllFunctions os → HaveAllFunctions us
all_there os us same all = λ f low. there_by os us f same (all f low)

-- so an ask calls one that there is
pub ask_there : (objects : Objects) (frames : List Frame) (need : Need) (ask : Ask) → HaveAllFunctions objects
    → ((k : Call) → ask ≡ asks.Call k → k.function ≤ LAST_FUNCTION) → FunctionExists (with_resumed objects frames need) ask
ask_there objects frames need (asks.Query q) all low = tt
ask_there objects frames need (asks.Call k) all low =
    there_by objects (with_resumed objects frames need) k.function (resumed_numbers objects frames need) (all k.function (low k refl))
ask_there objects frames need (asks.Done bytes) all low = tt

-- ---- the open call

pub idle_open : (c : CoreValue) → IsIdle c → open_call c ≡ None
idle_open c idle = rw (idle.0, idle.1) refl

runs_top : (need : Option Need) (top : Call) → NeedsFunction need → running_call need top ≡ Some top
runs_top None top runs = absurd runs
runs_top (Some need) top runs = refl

-- a call that needs a function needs something
pub some_need : (need : Option Need) → NeedsFunction need → (n : Need) × (need ≡ Some n)
some_need None runs = absurd runs
some_need (Some need) runs = (need, refl)

-- .. and is open
pub open_runs : (c : CoreValue) → c.pinning ≡ None → NeedsFunction c.call.need → open_call c ≡ Some c.call.top
open_runs c none runs = ap (λ (p : Option Pinning). either_call (first_call p) (running_call c.call.need c.call.top)) none ∙ runs_top c.call.need c.call.top runs

module _ (P : Call → Type 0) where
  pub at_idle : (c : CoreValue) → IsIdle c → ForSome (open_call c) P
  at_idle c idle = subst (λ (o : Option Call). ForSome o P) (sym (idle_open c idle)) (for_none P)

  at_this : (c : CoreValue) (k : Call) → open_call c ≡ Some k → P k → ForSome (open_call c) P
  at_this c k is h = λ j there. let one : Some k ≡ Some j = sym is ∙ there in let same : k ≡ j = cc one in subst P same h

  -- of the call that begins
  pub top_begun : (c : CoreValue) (k : Call) (turn : PortTurn) → IsTurn c turn → (IsAsk turn → open_call c ≡ Some k) → P k → ForSome (open_call c) P
  top_begun c k (Asks request) fits begins h = at_this c k (begins tt) h
  top_begun c k (Ended outcome) fits begins h = at_idle c fits

  -- of the one that goes on
  pub top_stays : (old : Option Call) (c : CoreValue) (turn : HandTurn) → IsHandTurn c turn → (IsUnended turn → open_call c ≡ old) → ForSome old P → ForSome (open_call c) P
  top_stays old c None fits goes_on top = subst (λ (o : Option Call). ForSome o P) (sym (goes_on tt)) top
  top_stays old c (Some (Asks request)) fits goes_on top = subst (λ (o : Option Call). ForSome o P) (sym (goes_on tt)) top
  top_stays old c (Some (Ended outcome)) fits goes_on top = at_idle c fits

-- the call that begins after the pin is the open one, so there is its function
pub first_exists : (objects : Objects) (c : CoreValue) → HaveAllFunctions objects → ForSome (open_call c) (λ (k : Call). k.function ≤ LAST_FUNCTION)
    → FirstExists objects (first_call c.pinning)
first_exists objects c all top = λ k is.
    all k.function (top k (ap (λ (o : Option Call). either_call o (running_call c.call.need c.call.top)) is))

-- without an open call all objects are idle
pub idle_objects : (next : Next) (objects : Objects) (c : CoreValue) → IsIdle c → IsCore next objects c → AllIdle objects
idle_objects next objects c idle core = (subst (λ (n : Option Need). NeedFits next objects c.call.top n c.call.frames) idle.0 core.call).1

-- a call that begins leaves the objects; if it ended, all are idle
pub start_left : (next : Next) (objects : Objects) (c : CoreValue) (turn : PortTurn) → IsTurn c turn → IsCore next objects c → ObjectsLeft objects (Some turn) objects
start_left next objects c (Asks request) fits core = refl
start_left next objects c (Ended (Ok value)) fits core = refl
start_left next objects c (Ended (Err error)) fits core = idle_objects next objects c fits core

-- ---- at rest

-- a call of the machine is open just if it needs something
pub resting_runs : (c : CoreValue) (k : Call) → IsRestingCore c → top_call c.call ≡ Some k → (c.pinning ≡ None) × NeedsFunction c.call.need × (k ≡ c.call.top)
resting_runs c k (inl idle) is = let no : None ≡ Some k = sym (ap (λ (n : Option Need). running_call n c.call.top) idle.0) ∙ is in absurd (cc no)
resting_runs c k (inr runs) is =
    let one : Some c.call.top ≡ Some k = sym (runs_top c.call.need c.call.top runs.1) ∙ is in (runs.0, runs.1, (let same : c.call.top ≡ k = cc one in sym same))

top_some : (need : Option Need) (top : Call) → running_call need top ≡ None → need ≡ None
top_some None top is = refl
top_some (Some need) top is = absurd (cc is)

-- if none is open, it is idle
pub resting_idle : (c : CoreValue) → IsRestingCore c → top_call c.call ≡ None → IsIdle c
resting_idle c (inl idle) closed = idle
resting_idle c (inr runs) closed = absurd (subst NeedsFunction (top_some c.call.need c.call.top closed) runs.1)

-- .. and no pin is under way
pub resting_free : (c : CoreValue) → IsRestingCore c → c.pinning ≡ None
resting_free c (inl idle) = idle.1
resting_free c (inr runs) = runs.0
