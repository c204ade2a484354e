-- What visitors did and saw in all.
use Rattle.std.proofs.Common.{◌≡◌, ◌∙◌, ℕ, ◌*◌, ◌^◌, ◌<◌, List, [], ◌∷◌, length, false, sym, ap, arith}
use Rattle.std.specs.Prelude.{All}
use Rattle.std.specs.List.{sum_by}
use Rattle.std.proofs.Math.Nat.{mul-zero, suc-mul, zero-mul}
use Rattle.std.proofs.lemmas.Nat.{mul-le}
use Rattle.std.proofs.lemmas.List.Elements.{All-head, All-tail, All-weaker}
use Rattle.std.proofs.lemmas.List.Sums.{sum_by-cons}
use Rattle.example_auction.specs.Tallies.{pages_of, HasTallied}
use Rattle.example_auction.specs.declared.arguments.Arguments.{Arguments}
use Rattle.example_auction.specs.declared.tally.Tally.{Tally}

pub sum_of_each : {X : Type 0} (f : X → ℕ) (n : ℕ) (xs : List X) → All (λ x. f x ≡ n) xs → sum_by f xs ≡ length xs * n
sum_of_each f n [] each = sym (zero-mul n)
sum_of_each f n (x ∷ xs) each =
    omega (arith, sum_by-cons f x xs, All-head (λ y. f y ≡ n) x xs each, sum_of_each f n xs (All-tail (λ y. f y ≡ n) x xs each), suc-mul (length xs) n)

-- so many visitors came, and each asked for so many pages
module _ (threads pages : ℕ) (a : Arguments) (all tallies : List Tally) (same : tallies ≡ all) (each : length all ≡ threads)
    (seen : All (HasTallied pages a) all) where
  pub asked_in_all : sum_by pages_of tallies ≡ threads * pages
  asked_in_all =
      ap (λ (ts : List Tally). sum_by pages_of ts) same
      ∙ sum_of_each pages_of pages all (All-weaker (HasTallied pages a) (λ t. pages_of t ≡ pages) (λ t h. h.asked) all seen)
      ∙ ap (λ (n : ℕ). n * pages) each

  pub torn_in_all : a.is_plain ≡ false → sum_by (λ t. t.torn) tallies ≡ 0
  torn_in_all one =
      ap (λ (ts : List Tally). sum_by (λ t. t.torn) ts) same
      ∙ sum_of_each (λ t. t.torn) 0 all (All-weaker (HasTallied pages a) (λ t. t.torn ≡ 0) (λ t h. h.whole one) all seen)
      ∙ mul-zero (length all)

  pub few_in_all : threads < 2 ^ 32 → pages < 2 ^ 32 → sum_by pages_of tallies < 2 ^ 64
  few_in_all some_threads some_pages =
      omega (arith, asked_in_all, mul-le threads pages 4294967295 4294967295 (omega arith) (omega arith))
