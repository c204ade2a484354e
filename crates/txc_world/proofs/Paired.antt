-- Lists of one length.
use Rattle.std.proofs.Common.{◌≡◌, List, [], ◌∷◌, length}

-- what is true of two empty lists, and of two with one more each where it is true of these, is true of any two of one length
pub paired : {A B : Type 0} (P : List A → List B → Type 0) → P [] [] → ((x : A) (xs : List A) (y : B) (ys : List B) → P xs ys → P (x ∷ xs) (y ∷ ys))
    → (xs : List A) (ys : List B) → length ys ≡ length xs → P xs ys
paired P none more [] [] even = none
paired P none more [] (y ∷ ys) even = cc even
paired P none more (x ∷ xs) [] even = cc even
paired P none more (x ∷ xs) (y ∷ ys) even = let rest : length ys ≡ length xs = cc in more x xs y ys (paired P none more xs ys rest)
