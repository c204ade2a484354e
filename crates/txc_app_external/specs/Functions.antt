-- A service's functions: the uncached values of their calls, and their computation over versions.
use Rattle.std.specs.Prelude.{ℕ, zero, suc, max, ◌==◌, if◌then◌else◌, List, [], ◌∷◌, ◌++◌, length, take, drop, Option, Some, None}
use Rattle.std.specs.Option.{option_and_then}
use Rattle.std.specs.Str.Parse.{digits_value}
use Rattle.txc_tags.specs.Keys.{Call}
use Rattle.txc_rows.specs.declared.query.Query.TheVariants.{ById}
use Rattle.txc_rows.specs.States.{RowValue}
use Rattle.txc_app.specs.declared.app.Limits.{Limits}
use Rattle.txc_app.specs.declared.ask.Ask.{Ask}
use Rattle.txc_app.specs.declared.ask.Ask.TheVariants as asks
use Rattle.txc_app.specs.declared.ask.Answer.{Answer}
use Rattle.txc_app.specs.declared.ask.Answer.TheVariants as answers
use Rattle.txc_app.specs.Eval.{Next}
use Rattle.txc_app_external.specs.Snapshots.{Read, Tag, Snapshots}

-- the next act of a function: it reads, calls, or is done with these bytes
pub data OwnAct : Type 0 where
  read : Read → OwnAct
  call : Call → OwnAct
  done : List ℕ → OwnAct

-- a service's functions: the next act of a function, by its number, its arguments and the results of its reads
-- and calls so far, and none if it rejects them; and their limits
pub record Functions : Type 0 where
  pub acts : ℕ → List ℕ → List (List ℕ) → Option OwnAct
  pub limits : Limits

-- the result of each call, if it has one
abbrev pub Results : Type 0
Results = Call → Option (List ℕ)

-- one act, and the rest of the computation after its result; a call without a result leaves it without one
abbrev pub after_act : (Read → List ℕ) → Results → Option OwnAct → (List ℕ → Option (List ℕ)) → Option (List ℕ)
after_act find calls None rest = None
after_act find calls (Some (done bytes)) rest = Some bytes
after_act find calls (Some (read r)) rest = rest (find r)
after_act find calls (Some (call k)) rest = option_and_then rest (calls k)

-- a computation after these results that may make this many more acts, the last of which returns its value
unfoldable pub computed : (List (List ℕ) → Option OwnAct) → (Read → List ℕ) → Results → ℕ → List (List ℕ) → Option (List ℕ)
computed acts find calls zero results = None
computed acts find calls (suc left) results =
    after_act find calls (acts results) (λ bytes. computed acts find calls left (results ++ bytes ∷ []))

-- a call of a function below f; any other has no result
unfoldable pub uncached_below : Functions → (Read → List ℕ) → ℕ → Results
uncached_below own find zero k = None
uncached_below own find (suc f) k = if k.function == f
    then computed (own.acts k.function k.args) find (uncached_below own find f) own.limits.asks []
    else uncached_below own find f k

-- the result of a call if reads find this, with no cache and no versions; a function may call those of a lower
-- number
abbrev pub uncached : Functions → (Read → List ℕ) → Results
uncached own find k = uncached_below own find (suc k.function) k

-- the number in the row, and 0 if there is none
abbrev pub noted_in : List RowValue → ℕ
noted_in [] = 0
noted_in (row ∷ rows) = digits_value 10 row.body

-- the greatest number of these versions: if a snapshot has all of them, the first such one has this number
abbrev pub first_with : List Answer → ℕ
first_with [] = 0
first_with (answers.Rows rows ∷ given) = max (noted_in rows) (first_with given)
first_with (answers.Value bytes ∷ given) = first_with given

-- a query for the row of the first of these tags, if there is one
abbrev pub tag_or : List Tag → Option Ask → Option Ask
tag_or [] other = other
tag_or (t ∷ ts) other = Some (asks.Query (ById t.table t.id))

-- The next request of an act. A read requests the version of each tag on which it depends, one after the other.
-- Once it has as many answers, its result is that of the first snapshot with these versions, which any other
-- with them has too (`FoundInEachSuchSnapshot`), and the function continues with the other answers.
abbrev pub ask_for : Snapshots → Option OwnAct → List Answer → (List ℕ → List Answer → Option Ask) → Option Ask
ask_for D None given go_on = None
ask_for D (Some (done bytes)) given go_on = Some (asks.Done bytes)
ask_for D (Some (call k)) [] go_on = Some (asks.Call k)
ask_for D (Some (call k)) (answers.Value bytes ∷ given) go_on = go_on bytes given
ask_for D (Some (call k)) (answers.Rows rows ∷ given) go_on = None
ask_for D (Some (read r)) given go_on =
    let tags = D.tags_of r in let versions = take (length tags) given in
    tag_or (drop (length given) tags) (go_on (D.find (first_with versions) r) (drop (length tags) given))

-- the next request of a function with a limit on its further acts, after these results and then these answers
unfoldable pub ask_after : Snapshots → (List (List ℕ) → Option OwnAct) → ℕ → List (List ℕ) → List Answer → Option Ask
ask_after D acts zero results given = None
ask_after D acts (suc left) results given =
    ask_for D (acts results) given (λ bytes rest. ask_after D acts left (results ++ bytes ∷ []) rest)

-- the service's functions as an application of the cache, whose rows are versions
abbrev pub over_versions : Snapshots → Functions → Next
over_versions D own = record {
  says = λ function args given. ask_after D (own.acts function args) own.limits.asks [] given;
  limits = own.limits;
}
