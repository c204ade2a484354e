-- What is known of the results of a batch.
use Rattle.txc_stream.specs.Names.{Name}
use Rattle.std.proofs.Common.{◌≡◌, ℕ, ◌<◌, true, nat_lt, List, length, slice_index_or, All, Contains, IsPermutation, Result, Ok, Err, IsErrAnd, ◌∙◌, sym, ap, subst, arith}
use Rattle.std.proofs.lemmas.Bool.Decides.{nat_tests}
use Rattle.std.proofs.lemmas.List.{get_or-map, length-map}
use Rattle.std.proofs.lemmas.List.Elements.{All-weaker, All-contains, All-contains_itself}
use Rattle.std.proofs.lemmas.List.Sorted.{Contains-permutation}
use Rattle.txc_app.specs.Eval.{Next}
use Rattle.txc_work.specs.Batches.{job_numbers, IsResultOf, Meets, NamesOneOf}
use Rattle.txc_work.specs.Workers.{Implies}
use Rattle.txc_work.specs.declared.error.BatchError.{BatchError}
use Rattle.txc_work.specs.declared.error.BatchError.TheVariants.{Missing, Twice, Memory}
use Rattle.txc_work.specs.declared.job.Job.{Job}
use Rattle.txc_work.specs.declared.job.Outcome.{Outcome}
use Rattle.txc_work.specs.declared.job.Receipted.{Receipted}

-- results of a batch are results of one with the same jobs, where outcomes say as much
pub of_same_batch : (jobs others : List Job) (meets also : Job → Outcome → Type 0) → jobs ≡ others → Implies meets also
    → (results : List Receipted) → All (IsResultOf jobs meets) results → All (IsResultOf others also) results
of_same_batch jobs others meets also same shared results all =
    All-weaker (IsResultOf jobs meets) (IsResultOf others also)
    (λ r h. (h.0, subst (λ js. Contains js h.0) same h.1, h.2, shared h.0 r.outcome h.3))
    results
    all

-- an outcome that meets its job where clients have some functions does so where they have the same
pub with_functions : (next : Next) (row : Name) (node_histories : ℕ → Name) (given functions : List ℕ) (job : Job) (outcome : Outcome)
    → given ≡ functions → Meets next row node_histories given job outcome → Meets next row node_histories functions job outcome
with_functions next row node_histories given functions job outcome same met =
    subst (λ (fs : List ℕ). Meets next row node_histories fs job outcome) same met

-- what a `?` passes on is the error that was there
pub passed_err : {T E : Type 0} (r : Result T E) (e f : E) → IsErrAnd r (λ x. x ≡ e) → e ≡ f → r ≡ Err f
passed_err (Ok x) e f h k = absurd h
passed_err (Err x) e f h k = ap Err (h ∙ k)

pub err_same : {T E : Type 0} (r : Result T E) (e f : E) → r ≡ Err e → r ≡ Err f → e ≡ f
err_same r e f one other = cc

pub ok_not_err : {T E : Type 0} (r : Result T E) (x : T) (e : E) → r ≡ Ok x → r ≡ Err e → ⊥
ok_not_err r x e one other = absurd (cc)

-- a job's number is one of the numbers
number_stands : (jobs : List Job) (job : Job) → Contains jobs job → Contains (job_numbers jobs) job.number
number_stands jobs job there =
    All-contains (λ (j : Job). Contains (job_numbers jobs) j.number) jobs job
    (λ k d below. subst (Contains (job_numbers jobs)) (get_or-map (λ (j : Job). j.number) jobs k d d.number below)
    (All-contains_itself (job_numbers jobs) k d.number (rw (length-map jobs (λ (j : Job). j.number)) below)))
    there

-- the results of a batch have numbers of its jobs
pub numbers_are_known : (jobs : List Job) (meets : Job → Outcome → Type 0) (numbers given : List ℕ) (came : List Receipted)
    → IsPermutation (job_numbers jobs) numbers → given ≡ numbers → All (IsResultOf jobs meets) came
    → All (λ (r : Receipted). Contains given r.number) came
numbers_are_known jobs meets numbers given came once same =
    All-weaker (IsResultOf jobs meets) (λ (r : Receipted). Contains given r.number)
    (λ r h. subst (Contains given) (sym h.2)
    (subst (λ ns. Contains ns h.0.number) (sym same)
    (Contains-permutation (job_numbers jobs) numbers h.0.number once (number_stands jobs h.0 h.1))))
    came

-- an error that names one of the numbers names one of them in another order
pub names_too : (xs ys : List ℕ) → IsPermutation xs ys → (error : BatchError) → NamesOneOf xs error → NamesOneOf ys error
names_too xs ys moved (Missing n) h = Contains-permutation xs ys n moved h
names_too xs ys moved (Twice n) h = Contains-permutation xs ys n moved h
names_too xs ys moved Memory h = h

-- a result that was found has one of the numbers that all have
pub found_number : (numbers : List ℕ) (results : List Receipted) (place : ℕ) (found : Receipted)
    → All (λ (r : Receipted). Contains numbers r.number) results
    → (true ≡ nat_lt place (length results)) × (found ≡ slice_index_or results place found) → Contains numbers found.number
found_number numbers results place found all at =
    let below : place < length results = grind (arith, nat_tests, at.0) in
    subst (λ (r : Receipted). Contains numbers r.number) (sym at.1) (all place found below)
