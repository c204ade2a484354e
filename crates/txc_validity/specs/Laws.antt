-- Laws of validities.
use Rattle.std.specs.Prelude.{◌≡◌, ◌≢◌, ℕ, ◌≤◌, ◌<◌, ◌+◌, ◌-◌, List}
use Rattle.txc_stamp.specs.Interval.{Interval}
use Rattle.txc_rows.specs.declared.query.Query.{Query}
use Rattle.txc_rows.specs.declared.version.Versioned.{Versioned}
use Rattle.txc_rows.specs.Values.{RowValue}
use Rattle.txc_rows.specs.States.{State, answer}
use Rattle.txc_rows.specs.Versions.{shown_at}
use Rattle.txc_rows.specs.FoundAnswers.{ShowsAround}
use Rattle.txc_validity.specs.Validity.{IsValidity}

-- every stamp of the reach has the answer of t
abbrev pub SameWithin : Type 0
SameWithin = (answers : ℕ → List RowValue) (t horizon newest : ℕ) (reach : Interval)
    → IsValidity answers t horizon newest reach
    → (s : ℕ) → reach.lo ≤ s → s ≤ reach.known → answers s ≡ answers t

-- the answer at the stamp below its first, if that is kept, differs
abbrev pub DiffersBelow : Type 0
DiffersBelow = (answers : ℕ → List RowValue) (t horizon newest : ℕ) (reach : Interval)
    → IsValidity answers t horizon newest reach
    → horizon < reach.lo → answers (reach.lo - 1) ≢ answers t

-- the answer at the stamp above its last, if that is kept, differs
abbrev pub DiffersAbove : Type 0
DiffersAbove = (answers : ℕ → List RowValue) (t horizon newest : ℕ) (reach : Interval)
    → IsValidity answers t horizon newest reach
    → reach.known < newest → answers (reach.known + 1) ≢ answers t

-- a stamp has one validity
abbrev pub OneValidity : Type 0
OneValidity = (answers : ℕ → List RowValue) (t horizon newest : ℕ) (reach other : Interval)
    → IsValidity answers t horizon newest reach → IsValidity answers t horizon newest other → reach ≡ other

-- only the answers of the kept stamps count
abbrev pub KeptAnswersDecide : Type 0
KeptAnswersDecide = (answers others : ℕ → List RowValue) (t horizon newest : ℕ) (reach : Interval)
    → ((s : ℕ) → horizon ≤ s → s ≤ newest → answers s ≡ others s)
    → IsValidity answers t horizon newest reach → IsValidity others t horizon newest reach

-- the answer that versions give around a stamp holds as long as the states' answers
abbrev pub AroundIsValid : Type 0
AroundIsValid = (q : Query) (states : ℕ → State) (t horizon newest : ℕ) (vs : List Versioned) (reach : Interval)
    → ShowsAround q states horizon newest t vs → IsValidity (λ s. shown_at q s vs) t horizon newest reach
    → IsValidity (λ s. answer q (states s)) t horizon newest reach
