-- The answer that is found for a query, in terms of the states.
use Rattle.std.specs.Prelude.{◌≡◌, ℕ}
use Rattle.txc_rows.specs.declared.query.Query.{Query}
use Rattle.txc_rows.specs.States.{State, answer}
use Rattle.txc_validity.specs.declared.answer.Found.{Found}
use Rattle.txc_validity.specs.Validity.{IsValidity}

-- the answer of the query in the state of the stamp, with its validity
pub record IsAnswer (states : ℕ → State) (q : Query) (t horizon newest : ℕ) (found : Found) : Type 0 where
  pub rows : found.rows.items ≡ answer q (states t)
  pub validity : IsValidity (λ s. answer q (states s)) t horizon newest found.reach
