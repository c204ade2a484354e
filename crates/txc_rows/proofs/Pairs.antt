-- What holds of each version of a list, and of each two, after some are changed, added or left out.
use Rattle.std.proofs.Common.{List, [], ◌∷◌, ◌++◌, map, filter, Bool, true, false, cond}
use Rattle.std.specs.List.{AllByRecursion}
use Rattle.sqlite_trees.proofs.ListLemmas.{all_weaker, all-append, all-filter, all-map}
use Rattle.txc_rows.specs.declared.version.Versioned.{Versioned}
use Rattle.txc_rows.specs.Versions.{Pairwise}

pub pairs_mapped : (R : Versioned → Versioned → Type 0) (f : Versioned → Versioned) → ((v w : Versioned) → R v w → R (f v) (f w)) → (vs : List Versioned) → Pairwise R vs → Pairwise R (map f vs)
pairs_mapped R f keeps [] pairs = tt
pairs_mapped R f keeps (v ∷ vs) pairs = (all-map (R (f v)) f vs (all_weaker (R v) _ (keeps v) vs pairs.0), pairs_mapped R f keeps vs pairs.1)

pub pairs_pushed : (R : Versioned → Versioned → Type 0) (w : Versioned) (vs : List Versioned) → AllByRecursion (λ v. R v w) vs → Pairwise R vs → Pairwise R (vs ++ w ∷ [])
pairs_pushed R w [] last pairs = (tt, tt)
pairs_pushed R w (v ∷ vs) last pairs = (all-append (R v) vs (w ∷ []) pairs.0 (last.0, tt), pairs_pushed R w vs last.1 pairs.1)

pub pairs_left : (R : Versioned → Versioned → Type 0) (p : Versioned → Bool) (vs : List Versioned) → Pairwise R vs → Pairwise R (filter p vs)
pairs_left R p [] pairs = tt
pairs_left R p (v ∷ vs) pairs =
    let rest = pairs_left R p vs pairs.1 in
    elim (p v) as (λ b. Pairwise R (cond b (v ∷ filter p vs) (filter p vs))) [ true ↦ (all-filter (R v) p vs pairs.0, rest) | false ↦ rest ]
