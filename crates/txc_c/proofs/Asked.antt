-- What was asked, where it can be asked.
use Rattle.std.proofs.Common.{◌≡◌, Bool, true, subst}
use Rattle.std.specs.Bool.{MatchBool}

pub asked_so : {A : Type 0} (P : A → Type 0) (X : Type 0) (b : Bool) (a a' : A) → true ≡ b → a ≡ a' → P a → MatchBool b (P a') X
asked_so P X b a a' there same p = subst (λ (v : Bool). MatchBool v (P a') X) there (subst P same p)
