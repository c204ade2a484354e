-- What crates above may use of the proofs: how what a registry holds changes.
use Rattle.std.proofs.Common.{◌≡◌, ◌≢◌, ℕ, suc, Bool, true, false, eqb, Option, Some, IsSome, List, [], ◌∷◌, sym, refl, ap, ◌∙◌, subst, cond, arith, ne_eqb}
use Rattle.std.specs.Prelude.{unwrap_or}
use Rattle.std.proofs.lemmas.Map.Steps.{set_value_same}
use Rattle.std.proofs.lemmas.Bool.{eqb-true}
use Rattle.txc_app.specs.Eval.{Next}
use Rattle.txc_call_registry.specs.Activity.{Activation, Activity, activation_in, idle, next_of, running, WantsAnswer}
use Rattle.txc_call_registry.specs.Objects.{Objects, activity_of, numbers_of, with_activity, AllIdle, IsAskingAt}

module _ (f : ℕ) where
  here_by_head : (o : ℕ × Activity) (os : Objects) (m n : Activity) (b : Bool)
      → eqb o.0 f ≡ b → activity_of (o ∷ os) f ≡ Some m
      → (activity_of os f ≡ Some m → activity_of (with_activity os f n) f ≡ Some n)
      → activity_of (with_activity (o ∷ os) f n) f ≡ Some n
  here_by_head o os m n true is e next = rw (is, is) refl
  here_by_head o os m n false is e next =
      let e' : activity_of os f ≡ Some m = rw is at e in rw (is, is) (next e')

  -- what the object does, once that was changed
  pub here_after : (os : Objects) (m n : Activity)
      → activity_of os f ≡ Some m → activity_of (with_activity os f n) f ≡ Some n
  here_after [] m n e = absurd (cc)
  here_after (o ∷ os) m n e = here_by_head o os m n (eqb o.0 f) refl e (here_after os m n)

  again_by_head : (o : ℕ × Activity) (os : Objects) (m n : Activity) (b : Bool)
      → eqb o.0 f ≡ b → with_activity (with_activity os f m) f n ≡ with_activity os f n
      → with_activity (with_activity (o ∷ os) f m) f n ≡ with_activity (o ∷ os) f n
  again_by_head o os m n true is next = rw (is, is) refl
  again_by_head o os m n false is next = rw (is, is) (ap (λ (x : Objects). o ∷ x) next)

  -- of two changes of one object the second counts
  pub again : (os : Objects) (m n : Activity)
      → with_activity (with_activity os f m) f n ≡ with_activity os f n
  again [] m n = refl
  again (o ∷ os) m n = again_by_head o os m n (eqb o.0 f) refl (again os m n)

  -- what was there, put back
  pub restored : (os : Objects) (m n : Activity)
      → activity_of os f ≡ Some m → with_activity (with_activity os f n) f m ≡ os
  restored os m n e = again os n m ∙ set_value_same (λ k. eqb k f) os m e

module _ (f g : ℕ) (n : Activity) (apart : g ≢ f) where
  else_by_head : (o : ℕ × Activity) (os : Objects) (b : Bool)
      → eqb o.0 f ≡ b → activity_of (with_activity os f n) g ≡ activity_of os g
      → activity_of (with_activity (o ∷ os) f n) g ≡ activity_of (o ∷ os) g
  else_by_head o os true is next =
      let other : eqb o.0 g ≡ false = ne_eqb _ _ (λ e. apart (sym e ∙ eqb-true _ _ is)) in
      rw (is, other) refl
  else_by_head o os false is next = rw is (ap (λ r. cond (eqb o.0 g) (Some o.1) r) next)

  -- the others do what they did
  pub elsewhere : (os : Objects) → activity_of (with_activity os f n) g ≡ activity_of os g
  elsewhere [] = refl
  elsewhere (o ∷ os) = else_by_head o os (eqb o.0 f) refl (elsewhere os)

idle_by_head : (f : ℕ) (o : ℕ × Activity) (os : Objects) (b : Bool)
    → eqb o.0 f ≡ b → o.1 ≡ idle → IsSome (activity_of (o ∷ os) f)
    → (IsSome (activity_of os f) → activity_of os f ≡ Some idle) → activity_of (o ∷ os) f ≡ Some idle
idle_by_head f o os true is none there next = rw (is, none) refl
idle_by_head f o os false is none there next =
    let there' : IsSome (activity_of os f) = rw is at there in rw is (next there')

-- an object of an idle registry is idle
pub idle_there : (objects : Objects) (f : ℕ)
    → AllIdle objects → IsSome (activity_of objects f) → activity_of objects f ≡ Some idle
idle_there [] f free there = absurd (cc)
idle_there (o ∷ os) f free there =
    idle_by_head f o os (eqb o.0 f) refl (free 0 o (omega arith)) there
    (idle_there os f (λ k d h. free (suc k) d (omega arith)))

-- an object that runs an activation which wants an answer may go on
pub asking_there : (next : Next) (objects : Objects) (f : ℕ) (a : Activation)
    → activity_of objects f ≡ Some (running a) → WantsAnswer (next_of (next.says f) a) → IsAskingAt next objects f
asking_there next objects f a here wants =
    let run : Option Activity → Activation = λ (o : Option Activity). activation_in (unwrap_or o idle) in
    subst (λ (o : Option Activity). (o ≡ Some (running (run o))) × WantsAnswer (next_of (next.says f) (run o)))
    (sym here) (refl, wants)

numbers_by_head : (f : ℕ) (n : Activity) (o : ℕ × Activity) (os : Objects) (b : Bool)
    → eqb o.0 f ≡ b → numbers_of (with_activity os f n) ≡ numbers_of os
    → numbers_of (with_activity (o ∷ os) f n) ≡ numbers_of (o ∷ os)
numbers_by_head f n o os true is next = rw is refl
numbers_by_head f n o os false is next = rw is (ap (λ (ns : List ℕ). o.0 ∷ ns) next)

-- what an object does changes no number
pub numbers_stay : (os : Objects) (f : ℕ) (n : Activity) → numbers_of (with_activity os f n) ≡ numbers_of os
numbers_stay [] f n = refl
numbers_stay (o ∷ os) f n = numbers_by_head f n o os (eqb o.0 f) refl (numbers_stay os f n)

-- idle objects of the same numbers are the same
pub idle_same : (os us : Objects) → AllIdle os → AllIdle us → numbers_of os ≡ numbers_of us → os ≡ us
idle_same [] [] free free' same = refl
idle_same [] (u ∷ us) free free' same = absurd (cc)
idle_same (o ∷ os) [] free free' same = absurd (cc)
idle_same ((f, m) ∷ os) ((g, n) ∷ us) free free' same =
    let one : m ≡ idle = free 0 (f, m) (omega arith) in
    let other : n ≡ idle = free' 0 (g, n) (omega arith) in
    let number : f ≡ g = cc in
    let rest : numbers_of os ≡ numbers_of us = cc in
    let more : os ≡ us = idle_same os us (λ k d h. free (suc k) d (omega arith)) (λ k d h. free' (suc k) d (omega arith)) rest in
    cc
