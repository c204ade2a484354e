-- What a sweep leaves of the index of the keys.
use Rattle.std.proofs.Common.{◌≡◌, ℕ, ◌-◌, ◌<◌, Bool, true, false, not, cond, List, [], ◌∷◌, map, length, get_or, set, take, drop, Some, None, refl, sym, ap, subst, ◌∙◌, arith, suc, zero}
use Rattle.std.specs.Prelude.{slice_get, swap_remove, unwrap_or}
use Rattle.std.specs.List.{AllByRecursion, IsDistinct}
use Rattle.std.specs.Map.{lookup}
use Rattle.std.proofs.lemmas.Bool.{false≢true}
use Rattle.indexmap.specs.IndexMap.{set_value_at}
use Rattle.txc_stamp.specs.Interval.{Interval}
use Rattle.txc_tags.specs.Keys.{Call, same_call}
use Rattle.txc_tags.proofs.Offered.{same_call_is, same_call_itself}
use Rattle.txc_tags.proofs.All.{all-take}
use Rattle.txc_node.specs.IndexedEntries.{listed}
use Rattle.txc_node.specs.Sweep.{ends_by, lasting, AreAllLasting}

-- ---- lists

module _ {X : Type 0} (P : X → Type 0) where
  all_of_index : (xs : List X) (n : ℕ) (d : X) → n < length xs → AllByRecursion P xs → P (get_or xs n d)
  all_of_index [] n d l h = absurd (omega arith)
  all_of_index (x ∷ xs) zero d l h = h.0
  all_of_index (x ∷ xs) (suc n) d l h = all_of_index xs n d (omega arith) h.1

  -- from the place of one that the last takes, all that hold behind it hold
  pub all_from_swapped : (xs : List X) (i : ℕ) (d : X) → AllByRecursion P (drop (suc i) xs) → AllByRecursion P (drop i (swap_remove xs i d))
  all_from_swapped [] zero d h = tt
  all_from_swapped [] (suc i) d h = tt
  all_from_swapped (x ∷ []) zero d h = tt
  all_from_swapped (x ∷ []) (suc i) d h = tt
  all_from_swapped (x ∷ y ∷ ys) zero d h =
      let n : suc (suc (length ys)) - 1 ≡ suc (length ys) = omega arith in
      subst (λ k. AllByRecursion P (take k (get_or (x ∷ y ∷ ys) k d ∷ y ∷ ys))) (sym n) (all_of_index (y ∷ ys) (length ys) d (omega arith) h, all-take P (length ys) (y ∷ ys) h)
  all_from_swapped (x ∷ y ∷ ys) (suc i) d h =
      let n : suc (suc (length ys)) - 1 ≡ suc (suc (length ys) - 1) = omega arith in
      subst (λ k. AllByRecursion P (drop (suc i) (take k (x ∷ set (y ∷ ys) i (get_or (x ∷ y ∷ ys) k d))))) (sym n) (all_from_swapped (y ∷ ys) i d h)

all_from_set : {K V : Type 0} (P : K × V → Type 0) (xs : List (K × V)) (i : ℕ) (w : V) → ((k : K) → P (k, w)) → AllByRecursion P (drop (suc i) xs) → AllByRecursion P (drop i (set_value_at xs i w))
all_from_set P [] zero w own h = tt
all_from_set P [] (suc i) w own h = tt
all_from_set P (x ∷ xs) zero w own h = (own x.0, h)
all_from_set P (x ∷ xs) (suc i) w own h = all_from_set P xs i w own h

pub set_behind : {K V : Type 0} (xs : List (K × V)) (i : ℕ) (w : V) → drop (suc i) (set_value_at xs i w) ≡ drop (suc i) xs
set_behind [] i w = refl
set_behind (x ∷ xs) zero w = refl
set_behind (x ∷ xs) (suc i) w = set_behind xs i w

-- where a value stands, so does its key, and another value that is put there
pub set_there : {K V : Type 0} (xs : List (K × V)) (i : ℕ) (v w : V) → slice_get (map (λ e. e.1) xs) i ≡ Some v → (k : K) × (slice_get xs i ≡ Some (k, v)) × (slice_get (set_value_at xs i w) i ≡ Some (k, w))
set_there [] i v w h = let none : None ≡ Some v = h in cc
set_there (x ∷ xs) zero v w h = let is : Some x.1 ≡ Some v = h in let same : x.1 ≡ v = cc in (x.0, ap (λ u. Some (x.0, u)) same, refl)
set_there (x ∷ xs) (suc i) v w h = set_there xs i v w h

pub none_past : {K V : Type 0} (P : K × V → Type 0) (xs : List (K × V)) (i : ℕ) → slice_get (map (λ e. e.1) xs) i ≡ None → AllByRecursion P (drop i xs)
none_past P [] zero h = tt
none_past P [] (suc i) h = tt
none_past P (x ∷ xs) zero h = let none : Some x.1 ≡ None = h in cc
none_past P (x ∷ xs) (suc i) h = none_past P xs i h

-- ---- keys

other_way : (a b : Call) → same_call a b ≡ false → same_call b a ≡ false
other_way a b h = (elim (same_call b a) as (λ v. same_call b a ≡ v → v ≡ false) [
  | true ↦ λ t. absurd (false≢true (sym h ∙ ap (same_call a) (same_call_is b a t) ∙ same_call_itself a))
  | false ↦ λ t. refl
]) refl

key_apart : (P : Call → Type 0) (xs : List (Call × List Interval)) (i : ℕ) (k : Call) (v : List Interval) → AllByRecursion P (map (λ e. e.0) xs) → slice_get xs i ≡ Some (k, v) → P k
key_apart P [] i k v h at = let none : None ≡ Some (k, v) = at in cc
key_apart P (x ∷ xs) zero k v h at = let is : Some x ≡ Some (k, v) = at in let same : x ≡ (k, v) = cc in subst (λ (y : Call × List Interval). P y.0) same h.0
key_apart P (x ∷ xs) (suc i) k v h at = key_apart P xs i k v h.1 at

-- the key at an index is listed with what stands there
own_listed : (xs : List (Call × List Interval)) (i : ℕ) (k : Call) (v : List Interval) → IsDistinct same_call (map (λ e. e.0) xs) → slice_get xs i ≡ Some (k, v) → lookup (same_call k) xs ≡ Some v
unfolding IsDistinct
own_listed [] i k v d h = let none : None ≡ Some (k, v) = h in cc
own_listed (x ∷ xs) zero k v d h =
    let is : Some x ≡ Some (k, v) = h in
    let same : x ≡ (k, v) = cc in
    subst (λ (y : Call × List Interval). lookup (same_call k) (y ∷ xs) ≡ Some v) (sym same) (ap (λ b. cond b (Some v) (lookup (same_call k) xs)) (same_call_itself k))
own_listed (x ∷ xs) (suc i) k v d h =
    let other : same_call x.0 k ≡ false = key_apart (λ y. same_call x.0 y ≡ false) xs i k v d.0 h in
    ap (λ b. cond b (Some x.1) (lookup (same_call k) xs)) (other_way x.0 k other) ∙ own_listed xs i k v d.1 h

module _ (p horizon : ℕ) where
  abbrev lasts : Interval → Bool
  lasts r = not (ends_by p horizon r)

  lasting_twice : (rs : List Interval) → lasting p horizon (lasting p horizon rs) ≡ lasting p horizon rs
  lasting_twice [] = refl
  lasting_twice (r ∷ rs) =
      let rest = lasting_twice rs in
      (elim (lasts r) as (λ b. lasts r ≡ b → lasting p horizon (cond b (r ∷ lasting p horizon rs) (lasting p horizon rs)) ≡ cond b (r ∷ lasting p horizon rs) (lasting p horizon rs)) [
        | true ↦ λ t. ap (λ b. cond b (r ∷ lasting p horizon (lasting p horizon rs)) (lasting p horizon (lasting p horizon rs))) t ∙ ap (λ ys. r ∷ ys) rest
        | false ↦ λ t. rest
      ]) refl

  all_last : (rs : List Interval) → AllByRecursion (λ r. ends_by p horizon r ≡ false) (lasting p horizon rs)
  all_last [] = tt
  all_last (r ∷ rs) =
      let P : Interval → Type 0 = λ x. ends_by p horizon x ≡ false in
      let rest = all_last rs in
      (elim (ends_by p horizon r) as (λ b. ends_by p horizon r ≡ b → AllByRecursion P (cond (not b) (r ∷ lasting p horizon rs) (lasting p horizon rs))) [ true ↦ (λ t. rest) | false ↦ (λ t. (t, rest)) ]) refl

  pub same_lasting : (rs : List Interval) → AllByRecursion (λ r. ends_by p horizon r ≡ false) rs → lasting p horizon rs ≡ rs
  same_lasting [] h = refl
  same_lasting (r ∷ rs) h = ap (λ b. cond (not b) (r ∷ lasting p horizon rs) (lasting p horizon rs)) h.0 ∙ ap (λ ys. r ∷ ys) (same_lasting rs h.1)

  -- ---- what is kept at an index

  set_listed : (xs : List (Call × List Interval)) (i : ℕ) (v w : List Interval) → slice_get (map (λ e. e.1) xs) i ≡ Some v → lasting p horizon w ≡ lasting p horizon v
      → (k : Call) → lasting p horizon (listed (set_value_at xs i w) k) ≡ lasting p horizon (listed xs k)
  set_listed [] i v w at same k = refl
  set_listed (x ∷ xs) zero v w at same k =
      let is : Some x.1 ≡ Some v = at in
      let there : x.1 ≡ v = cc in
      elim (same_call k x.0) as (λ b. lasting p horizon (unwrap_or (cond b (Some w) (lookup (same_call k) xs)) []) ≡ lasting p horizon (unwrap_or (cond b (Some x.1) (lookup (same_call k) xs)) [])) [
        | true ↦ same ∙ ap (lasting p horizon) (sym there)
        | false ↦ refl
      ]
  set_listed (x ∷ xs) (suc i) v w at same k =
      let rest = set_listed xs i v w at same k in
      elim (same_call k x.0) as (λ b. lasting p horizon (unwrap_or (cond b (Some x.1) (lookup (same_call k) (set_value_at xs i w))) []) ≡ lasting p horizon (unwrap_or (cond b (Some x.1) (lookup (same_call k) xs)) [])) [
        | true ↦ refl
        | false ↦ rest
      ]

  set_elsewhere : (xs : List (Call × List Interval)) (i : ℕ) (w u : List Interval) (at k : Call) → slice_get (set_value_at xs i w) i ≡ Some (at, u) → same_call k at ≡ false → lookup (same_call k) (set_value_at xs i w) ≡ lookup (same_call k) xs
  set_elsewhere [] i w u at k h other = refl
  set_elsewhere (x ∷ xs) zero w u at k h other =
      let is : Some (x.0, w) ≡ Some (at, u) = h in
      let same : (x.0, w) ≡ (at, u) = cc in
      let away : same_call k x.0 ≡ false = ap (λ (y : Call × List Interval). same_call k y.0) same ∙ other in
      ap (λ b. cond b (Some w) (lookup (same_call k) xs)) away ∙ sym (ap (λ b. cond b (Some x.1) (lookup (same_call k) xs)) away)
  set_elsewhere (x ∷ xs) (suc i) w u at k h other = ap (λ o. cond (same_call k x.0) (Some x.1) o) (set_elsewhere xs i w u at k h other)

  -- the reaches that last are put at an index
  pub kept_listed : (xs : List (Call × List Interval)) (i : ℕ) (v w : List Interval) → slice_get (map (λ e. e.1) xs) i ≡ Some v → w ≡ lasting p horizon v
      → (k : Call) → lasting p horizon (listed (set_value_at xs i w) k) ≡ lasting p horizon (listed xs k)
  kept_listed xs i v w at is = set_listed xs i v w at (ap (lasting p horizon) is ∙ lasting_twice v)

  pub kept_from : (xs : List (Call × List Interval)) (i : ℕ) (v w : List Interval) → w ≡ lasting p horizon v → AreAllLasting p horizon (drop (suc i) xs) → AreAllLasting p horizon (drop i (set_value_at xs i w))
  kept_from xs i v w is h = all_from_set (λ x. AllByRecursion (λ r. ends_by p horizon r ≡ false) x.1) xs i w (λ k. subst (λ (rs : List Interval). AllByRecursion (λ r. ends_by p horizon r ≡ false) rs) (sym is) (all_last v)) h

  -- a key of whose reaches none lasts is dropped
  pub dropped_listed : (xs new : List (Call × List Interval)) (i : ℕ) (v w : List Interval) (at : Call) → IsDistinct same_call (map (λ e. e.0) xs) → slice_get xs i ≡ Some (at, v) → slice_get (set_value_at xs i w) i ≡ Some (at, w)
      → lasting p horizon v ≡ [] → ((k : Call) → lookup (same_call k) new ≡ cond (same_call at k) None (lookup (same_call k) (set_value_at xs i w)))
      → (k : Call) → lasting p horizon (listed new k) ≡ lasting p horizon (listed xs k)
  dropped_listed xs new i v w at distinct there here none updated k = ap (λ o. lasting p horizon (unwrap_or o [])) (updated k) ∙ (elim (same_call at k) as (λ b. same_call at k ≡ b → lasting p horizon (unwrap_or (cond b None (lookup (same_call k) (set_value_at xs i w))) []) ≡ lasting p horizon (listed xs k)) [
    | true ↦ λ t. sym (ap (λ (c : Call). lasting p horizon (listed xs c)) (sym (same_call_is at k t)) ∙ ap (λ o. lasting p horizon (unwrap_or o [])) (own_listed xs i at v distinct there) ∙ none)
    | false ↦ λ t. ap (λ o. lasting p horizon (unwrap_or o [])) (set_elsewhere xs i w w at k here (other_way at k t))
  ]) refl

  pub dropped_from : (xs : List (Call × List Interval)) (i : ℕ) (w : List Interval) (d : Call × List Interval) → AreAllLasting p horizon (drop (suc i) xs) → AreAllLasting p horizon (drop i (swap_remove (set_value_at xs i w) i d))
  dropped_from xs i w d h =
      let P : Call × List Interval → Type 0 = λ x. AllByRecursion (λ r. ends_by p horizon r ≡ false) x.1 in
      all_from_swapped P (set_value_at xs i w) i d (subst (AllByRecursion P) (sym (set_behind xs i w)) h)

  -- ---- all keys

  pub listed_last : (xs : List (Call × List Interval)) (k : Call) → AreAllLasting p horizon xs → lasting p horizon (listed xs k) ≡ listed xs k
  listed_last [] k h = refl
  listed_last (x ∷ xs) k h =
      let rest = listed_last xs k h.1 in
      elim (same_call k x.0) as (λ b. lasting p horizon (unwrap_or (cond b (Some x.1) (lookup (same_call k) xs)) []) ≡ unwrap_or (cond b (Some x.1) (lookup (same_call k) xs)) []) [
        | true ↦ same_lasting x.1 h.0
        | false ↦ rest
      ]
