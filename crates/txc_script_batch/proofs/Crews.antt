-- Workers that have the same functions.
use Rattle.std.proofs.Common.{◌≡◌, ℕ, List, [], ◌∷◌, Result, Ok, Err, IfOk, length, sym, subst, arith, vec_len}
use Rattle.std.specs.List.{All}
use Rattle.std.specs.declared.alloc.Global.{Global}
use Rattle.std.specs.declared.vec.Vec.{Vec}
use Rattle.std.proofs.lemmas.List.Elements.{All-head, All-nil}
use Rattle.txc_call_registry.specs.Objects.{Objects, numbers_of, AllIdle}
use Rattle.txc_script_batch.specs.WorkerFunctions.{numbers_in, IsCrew}

same_functions : (crew : List Objects) (functions : List ℕ) → All (λ objects. numbers_of objects ≡ functions) crew → All (λ objects. numbers_of objects ≡ numbers_in crew) crew
same_functions [] functions all = All-nil (λ objects. numbers_of objects ≡ [])
same_functions (objects ∷ crew) functions all =
    let first : numbers_of objects ≡ functions = All-head (λ o. numbers_of o ≡ functions) objects crew all in
    subst (λ (fs : List ℕ). All (λ o. numbers_of o ≡ fs) (objects ∷ crew)) (sym first) all

-- workers who all have these functions
pub crew_of : (crew : List Objects) (functions : List ℕ) (count : ℕ) → length crew ≡ count → All (λ objects. numbers_of objects ≡ functions) crew → All AllIdle crew → IsCrew count crew
crew_of crew functions count each all idle = record { count = each; idle = idle; functions = same_functions crew functions all }

-- as many registries as there are to be workers
pub crew_made : {E : Type 0} (r : Result (Vec Objects Global) E) (functions : List ℕ) (count : ℕ) → IfOk r (λ v. All (λ objects. numbers_of objects ≡ functions) v.items) → IfOk r (λ v. All AllIdle v.items)
    → IfOk r (λ v. vec_len v ≡ count) → IfOk r (λ v. IsCrew count v.items)
crew_made (Ok v) functions count all idle each = crew_of v.items functions count (omega (arith, each, v.ok.0)) all idle
crew_made (Err e) functions count all idle each = tt
