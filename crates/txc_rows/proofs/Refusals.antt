-- What a refusal leaves.
use Rattle.std.proofs.Common.{◌⊎◌, inl, inr, ℕ, List, subst}
use Rattle.sqlite.specs.Order.{Row}
use Rattle.sqlite.specs.Clock.{timed}
use Rattle.sqlite.specs.Listing.{understood}
use Rattle.sqlite.specs.declared.error.Error.{Error}
use Rattle.sqlite.specs.State.{State, Shown, ShowsRows, IsUnchanged, IsRolledBack, IsNotRun, FailsToQuery, FailsToShow}
use Rattle.sqlite.proofs.Callers.{IsPlain}

-- a plain query changes nothing
pub shown_same : (sql : List ℕ) (params : Row) (old new : State) (rows : List Row) → IsPlain (understood old.now.schema sql) → Shown sql params old new rows → IsUnchanged old new
unfolding Shown
shown_same sql params old new rows plain h =
    let none = (subst IsPlain h.1.is plain).0 in
    (subst (ShowsRows old new sql h.0 (timed params h.0.formats h.1.now) rows) none h.2).3

-- a refusal leaves all as it was, or goes back to the last commit
abbrev pub Refused : State → State → Type 0
Refused old new = IsUnchanged old new ⊎ IsRolledBack old new

not_run : (old new : State) (sql : List ℕ) (params : Row) (e : Error) → IsNotRun old new sql params e → Refused old new
unfolding IsNotRun
not_run old new sql params e (inl h) = inl h.1
not_run old new sql params e (inr h) = inr h.3

pub query_refused : (sql : List ℕ) (params : Row) (old new : State) (e : Error) → IsPlain (understood old.now.schema sql) → FailsToQuery sql params old new e → Refused old new
unfolding FailsToQuery
query_refused sql params old new e plain (inl h) = not_run old new sql params e h
query_refused sql params old new e plain (inr h) =
    let none = (subst IsPlain h.1.is plain).0 in
    inl (subst (FailsToShow old new sql h.0 (timed params h.0.formats h.1.now) e) none h.2).3
