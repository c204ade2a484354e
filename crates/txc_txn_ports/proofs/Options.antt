-- What holds of a value that there is, or of none.
use Rattle.std.proofs.Common.{◌≡◌, Some, None, subst}
use Rattle.std.specs.Option.{ForSome}

-- what holds of a value holds of the one that there is
pub for_this : {X : Type 0} (P : X → Type 0) (x : X) → P x → ForSome (Some x) P
for_this P x h y is = let same : x ≡ y = cc in subst P same h

pub for_none : {X : Type 0} (P : X → Type 0) → ForSome None P
for_none P y is = absurd (cc is)
