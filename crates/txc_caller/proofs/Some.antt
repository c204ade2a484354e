-- What holds of a value that there is, or of none.
use Rattle.std.proofs.Common.{◌≡◌, Option, Some, None, refl}
use Rattle.std.specs.Prelude.{IsSome}

pub none_of : {X : Type 0} (o : Option X) → ¬ (IsSome o) → o ≡ None
none_of None never = refl
none_of (Some x) never = absurd (never refl)
