-- Stamps that are held.
use Rattle.std.proofs.Common.{◌≡◌, ◌≢◌, ℕ, ◌+◌, ◌≤◌, ◌<◌, ◌==◌, Bool, true, false, List, [], ◌∷◌, ◌++◌, ◌||◌, length, cond, refl, arith, eqb-true, eq-eqb, ne_eqb, add_comm, get_or, remove, ap, zero, suc, slice_get, Some}
use Rattle.std.specs.List.{AllByRecursion}
use Rattle.txc_db.specs.DatabaseValue.{DatabaseValue, newest, IsSound, IsReadable, StampsAscend, least, without, is_held, holds_of}
use Rattle.txc_db.specs.Laws.{OneHoldLess}
use Rattle.txc_tags.proofs.All.{all-append}

-- ---- one hold more

pub rises_push : (horizon newest : ℕ) (xs : List ℕ) → AllByRecursion (IsReadable horizon newest) xs → StampsAscend xs → StampsAscend (xs ++ newest ∷ [])
rises_push horizon newest [] held rises = (tt, tt)
rises_push horizon newest (x ∷ xs) held rises = (all-append (λ t. x ≤ t) xs (newest ∷ []) rises.0 (held.0.high, tt), rises_push horizon newest xs held.1 rises.1)

pub hold_sound : (d : DatabaseValue) → IsSound d → IsSound (record d { holds = d.holds ++ newest d ∷ [] })
hold_sound d s = record {
  tagged = s.tagged;
  kept = s.kept;
  limit = s.limit;
  held = all-append (IsReadable d.horizon (newest d)) d.holds (newest d ∷ []) s.held (record { low = s.kept.kept; high = omega arith }, tt);
  rising = rises_push d.horizon (newest d) d.holds s.held s.rising;
}

-- ---- one hold less

all_without : (P : ℕ → Type 0) (stamp : ℕ) (xs : List ℕ) → AllByRecursion P xs → AllByRecursion P (without stamp xs)
all_without P stamp [] h = tt
all_without P stamp (x ∷ xs) h = go (x == stamp) (all_without P stamp xs h.1)
  where
    go : (b : Bool) → AllByRecursion P (without stamp xs) → AllByRecursion P (cond b xs (x ∷ without stamp xs))
    go true rest = h.1
    go false rest = (h.0, rest)

rises_without : (stamp : ℕ) (xs : List ℕ) → StampsAscend xs → StampsAscend (without stamp xs)
rises_without stamp [] h = tt
rises_without stamp (x ∷ xs) h = go (x == stamp) (rises_without stamp xs h.1)
  where
    go : (b : Bool) → StampsAscend (without stamp xs) → StampsAscend (cond b xs (x ∷ without stamp xs))
    go true rest = h.1
    go false rest = (all_without (λ t. x ≤ t) stamp xs h.0, rest)

pub unpin_sound : (d : DatabaseValue) (stamp : ℕ) → IsSound d → IsSound (record d { holds = without stamp d.holds })
unpin_sound d stamp s = record {
  tagged = s.tagged;
  kept = s.kept;
  limit = s.limit;
  held = all_without (IsReadable d.horizon (newest d)) stamp d.holds s.held;
  rising = rises_without stamp d.holds s.rising;
}

-- ---- the least hold

least_of_all : (newest s : ℕ) (ss : List ℕ) → s ≤ newest → AllByRecursion (λ t. s ≤ t) ss → s ≤ least newest ss
least_of_all newest s [] low h = low
least_of_all newest s (t ∷ ss) low h = let rest = least_of_all newest s ss low h.1 in omega (arith, h.0, rest)

-- of holds that rise it is the first
pub least_first : (newest : ℕ) (xs : List ℕ) (x : ℕ) → StampsAscend xs → AllByRecursion (λ s. s ≤ newest) xs → slice_get xs 0 ≡ Some x → x ≡ least newest xs
least_first newest [] x rises high at = absurd (let f = at in cc)
least_first newest (y ∷ ys) x rises high at =
    let same : y ≡ x = cc at in
    let rest = least_of_all newest y ys high.0 rises.0 in
    omega (arith, rest, same)

pub within_newest : (horizon newest : ℕ) (xs : List ℕ) → AllByRecursion (IsReadable horizon newest) xs → AllByRecursion (λ s. s ≤ newest) xs
within_newest horizon newest [] h = tt
within_newest horizon newest (x ∷ xs) h = (h.0.high, within_newest horizon newest xs h.1)

-- ---- how many holds

pub one_less : OneHoldLess
one_less [] stamp other is = absurd (let f = is in cc)
one_less (s ∷ ss) stamp other is = go (s == stamp) refl is (λ h. one_less ss stamp other h)
  where
    go : (b : Bool) → (s == stamp) ≡ b → b || is_held stamp ss ≡ true
        → (is_held stamp ss ≡ true → holds_of other (without stamp ss) + cond (stamp == other) 1 0 ≡ holds_of other ss)
        → holds_of other (cond b ss (s ∷ without stamp ss)) + cond (stamp == other) 1 0 ≡ cond (s == other) 1 0 + holds_of other ss
    go true e h less = let same : s ≡ stamp = eqb-true s stamp e in rw same (add_comm (holds_of other ss) (cond (stamp == other) 1 0))
    go false e h less = let rest = less h in omega (arith, rest)

-- ---- where the first one stands

pub place_is : (stamp : ℕ) (xs : List ℕ) (i : ℕ) → i < length xs → ((k : ℕ) → k < i → get_or xs k 0 ≢ stamp) → get_or xs i 0 ≡ stamp → remove xs i ≡ without stamp xs
place_is stamp [] i below before at = absurd (omega (arith, below))
place_is stamp (x ∷ xs) zero below before at = let here : (x == stamp) ≡ true = eq-eqb x stamp at in rw here refl
place_is stamp (x ∷ xs) (suc i) below before at =
    let off : (x == stamp) ≡ false = let ne = before zero (omega arith) in ne_eqb x stamp ne in
    rw off (ap (λ (ys : List ℕ). x ∷ ys) (place_is stamp xs i (omega (arith, below)) (λ k h. before (suc k) (omega (arith, h))) at))

pub not_held : (stamp : ℕ) (xs : List ℕ) → ((k : ℕ) → k < length xs → get_or xs k 0 ≢ stamp) → is_held stamp xs ≡ false
not_held stamp [] h = refl
not_held stamp (x ∷ xs) h =
    let off : (x == stamp) ≡ false = let ne = h zero (omega arith) in ne_eqb x stamp ne in
    rw off (not_held stamp xs (λ k b. h (suc k) (omega (arith, b))))

-- ---- other horizons and newest stamps

pub readable_later : (horizon newest : ℕ) (xs : List ℕ) → AllByRecursion (IsReadable horizon newest) xs → AllByRecursion (IsReadable horizon (newest + 1)) xs
readable_later horizon newest [] h = tt
readable_later horizon newest (x ∷ xs) h = (record { low = h.0.low; high = let below = h.0.high in omega (arith, below) }, readable_later horizon newest xs h.1)

pub least_low : (horizon newest : ℕ) (xs : List ℕ) → horizon ≤ newest → AllByRecursion (IsReadable horizon newest) xs → horizon ≤ least newest xs
least_low horizon newest [] low h = low
least_low horizon newest (x ∷ xs) low h = let rest = least_low horizon newest xs low h.1 in let here = h.0.low in omega (arith, rest, here)

pub least_high : (newest : ℕ) (xs : List ℕ) → least newest xs ≤ newest
least_high newest [] = omega arith
least_high newest (x ∷ xs) = let rest = least_high newest xs in omega (arith, rest)

weaker : (a b newest : ℕ) (xs : List ℕ) → b ≤ a → AllByRecursion (IsReadable a newest) xs → AllByRecursion (IsReadable b newest) xs
weaker a b newest [] le h = tt
weaker a b newest (x ∷ xs) le h = (record { low = let low = h.0.low in omega (arith, low, le); high = h.0.high }, weaker a b newest xs le h.1)

-- each hold is at or above the least
pub readable_from : (horizon newest : ℕ) (xs : List ℕ) → AllByRecursion (IsReadable horizon newest) xs → AllByRecursion (IsReadable (least newest xs) newest) xs
readable_from horizon newest [] h = tt
readable_from horizon newest (x ∷ xs) h =
    (record { low = omega arith; high = h.0.high }, weaker (least newest xs) (least newest (x ∷ xs)) newest xs (omega arith) (readable_from horizon newest xs h.1))
