-- What holds of what a lookup found.
use Rattle.std.proofs.Common.{Option, None, Result, Ok, Err}
use Rattle.std.specs.Prelude.{IfOk, IfSome}
use Rattle.std.specs.Result.{result_unwrap_or}
use Rattle.txc_db.specs.declared.answered.Answered.{Answered}
use Rattle.txc_node.specs.declared.hit.HitValue.{HitValue}
use Rattle.txc_shared.specs.declared.error.NodeError.{NodeError}

-- it holds of what the node has
pub found_so : (P : Answered HitValue → Type 0) (r : Result (Option (Answered HitValue)) NodeError) → IfOk r (λ o. IfSome o P) → IfSome (result_unwrap_or r None) P
found_so P (Ok o) h = h
found_so P (Err e) h = tt
