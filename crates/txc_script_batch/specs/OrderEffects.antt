-- Only private functions need this file: the request of a line of a batch's script is done.
use Rattle.std.specs.Prelude.{◌≡◌, ◌⊎◌, ℕ, Bool, List, ◌++◌, Option, Some, Result}
use Rattle.txc_script_batch.specs.BatchScripts.{order_text, is_refused_order, DoesOrder}
use Rattle.txc_script_batch.specs.BatchStates.{BatchState}
use Rattle.txc_script_batch.specs.declared.order.Order.{Order}
use Rattle.txc_script_batch.specs.declared.prepared.PrepareError.{PrepareError}

-- the line's request was done, and its text was appended
pub record IsObeyed (s : BatchState) (order : Order) (end : BatchState) (old new : List ℕ) (refused : Bool)
    : Type 0 where
  pub reply : Option (Result ℕ PrepareError)
  pub does : DoesOrder s order reply end
  pub text : new ≡ old ++ order_text reply
  pub is_refused : refused ≡ is_refused_order reply

-- nothing was done; or the order is a change or a pin, and was made or failed
abbrev pub IsBrokenOff : BatchState → Order → BatchState → Type 0
IsBrokenOff s order end = (end ≡ s) ⊎ ((told : Result ℕ PrepareError) × DoesOrder s order (Some told) end)
