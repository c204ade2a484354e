-- Clients of threads, by the numbers of these.
use Rattle.std.proofs.Common.{◌≡◌, ◌∙◌, ℕ, ◌+◌, ◌<◌, List, [], ◌∷◌, ◌++◌, map, length, get_or, sym, ap, arith}
use Rattle.std.proofs.lemmas.List.{map-append, get_or-map}
use Rattle.std.proofs.lemmas.List.FromFn.{map-range_with_len_more, get_or-map-range_with_len, length-map-range_with_len}
use Rattle.txc_site_workers.specs.Sites.{numbers_below}

-- with the client of the next number there is one more
pub one_number_more : {T : Type 0} (f : T → ℕ) (xs ys : List T) (x : T) (n : ℕ) → map f xs ≡ numbers_below n → f x ≡ n
    → ys ≡ xs ++ x ∷ [] → map f ys ≡ numbers_below (n + 1)
one_number_more f xs ys x n before its is =
    ap (map f) is
    ∙ map-append f xs (x ∷ [])
    ∙ ap (λ (l : List ℕ). l ++ f x ∷ []) before
    ∙ ap (λ (k : ℕ). numbers_below n ++ k ∷ []) its
    ∙ sym (map-range_with_len_more (λ (k : ℕ). k) 0 n n (omega arith))

-- the one at a place has its number
pub number_at : {T : Type 0} (f : T → ℕ) (xs : List T) (n k : ℕ) (d : T) → map f xs ≡ numbers_below n → k < n → k < length xs
    → f (get_or xs k d) ≡ k
number_at f xs n k d all within short =
    sym (get_or-map f xs k d 0 short)
    ∙ ap (λ (l : List ℕ). get_or l k 0) all
    ∙ get_or-map-range_with_len (λ (j : ℕ). j) 0 n k k 0 within (omega arith)

-- there are so many
pub so_many : {T : Type 0} (f : T → ℕ) (xs : List T) (n : ℕ) → map f xs ≡ numbers_below n → length (map f xs) ≡ n
so_many f xs n all = ap length all ∙ length-map-range_with_len (λ (j : ℕ). j) 0 n
