-- The effect of a trim of a site's node, and the output of the node's totals.
use Rattle.std.specs.Prelude.{◌≡◌, ℕ, Result, Ok, Err}
use Rattle.txc_shared.specs.declared.error.NodeError.{NodeError}
use Rattle.txc_caller.specs.Budgets.{IsInBudget}
use Rattle.txc_caller.specs.Ports.{totals_of, CallerTrimTransition}
use Rattle.txc_caller.specs.CallerTxn.{CallerValue}
use Rattle.txc_caller.specs.declared.nodes.NodeTotals.{NodeTotals}
use Rattle.txc_c_types.specs.declared.numbers.TheConstants.{DONE}
use Rattle.txc_c.specs.Maintenance.{node_number}
use Rattle.txc_c.specs.Sites.{SiteValue}
use Rattle.txc_c.specs.Totals.{crossing_totals}
use Rattle.txc_c.specs.declared.totals.TxcTotals.{TxcTotals}

-- ---- a trim

abbrev pub trim_number : Result ℕ NodeError → ℕ
trim_number (Ok count) = DONE
trim_number (Err error) = node_number error

abbrev pub trim_told : Result ℕ NodeError → ℕ → ℕ
trim_told (Ok count) was = count
trim_told (Err error) was = was

-- the node keeps the longest prefix of its entries whose values have at most `most` bytes in all, and the
-- number of dropped entries is written; or the trim fails, and nothing is written
pub record HasTrimmedNode (most was is : ℕ) (old : CallerValue) (number : ℕ) (new : CallerValue) : Type 0 where
  pub trimmed : Result ℕ NodeError
  pub transition : CallerTrimTransition most old.ports.node new.ports.node trimmed
  pub same : new ≡ record old { ports = record old.ports { node = new.ports.node } }
  pub number_is : number ≡ trim_number trimmed
  pub told : is ≡ trim_told trimmed was

-- whatever is open stays so
abbrev pub SiteTrimTransition : ℕ → ℕ → ℕ → SiteValue → ℕ → SiteValue → Type 0
SiteTrimTransition most was is old number new =
    HasTrimmedNode most was is old.caller number new.caller × (new ≡ record old { caller = new.caller })

-- ---- the contents of the node

abbrev pub crossing_node_totals : NodeTotals → TxcTotals
crossing_node_totals totals = crossing_totals totals.entries totals.bytes totals.trimmed

-- the entries of the node, the bytes of their values in all, which are within its budget, and the entries that
-- its trims have dropped
pub record TotalsTold (totals : TxcTotals) (s : SiteValue) (number : ℕ) : Type 0 where
  pub number_is : number ≡ DONE
  pub told : totals ≡ crossing_node_totals (totals_of s.caller.ports.node)
  pub within : IsInBudget s.caller.ports.budget totals.bytes
