-- Texts that are joined.
use Rattle.std.proofs.Common.{◌≡◌, ℕ, List, [], ◌∷◌, ◌++◌, map, sym, ap, append-nil}
use Rattle.std.specs.List.{flat_map, join_with_byte}

-- the same of what is found in each
pub join_found : {X : Type 0} (write : ℕ → List ℕ) (find : X → ℕ) (first : X) (others : List X)
    → join_with_byte 44 (map write (map find (first ∷ others))) ≡ write (find first) ++ flat_map (λ y. 44 ∷ write (find y)) others
join_found write find first [] = sym (append-nil (write (find first)))
join_found write find first (other ∷ others) = ap (λ zs. write (find first) ++ 44 ∷ zs) (join_found write find other others)
