-- The objects of functions, listed one after the other.
use Rattle.std.proofs.Common.{◌≡◌, ◌∙◌, ℕ, List, [], ◌∷◌, ◌++◌, map, sym, ap}
use Rattle.std.proofs.lemmas.List.{append_assoc, map-append}

pub one_listed_more : {C D : Type 0} (f : C → ℕ) (h : D → ℕ) (objects more : List C) (o : C) (d : D) (left rest : List D)
    (numbers : List ℕ) → map f objects ++ map h left ≡ numbers → left ≡ d ∷ rest → f o ≡ h d → more ≡ objects ++ o ∷ []
    → map f more ++ map h rest ≡ numbers
one_listed_more {C} {D} f h objects more o d left rest numbers before step same added =
    ap (λ (xs : List C). map f xs ++ map h rest) added
    ∙ ap (λ (xs : List ℕ). xs ++ map h rest) (map-append f objects (o ∷ []))
    ∙ append_assoc (map f objects) (f o ∷ []) (map h rest)
    ∙ ap (λ (n : ℕ). map f objects ++ n ∷ map h rest) same
    ∙ sym (ap (λ (xs : List D). map f objects ++ map h xs) step)
    ∙ before
