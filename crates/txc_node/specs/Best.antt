-- Contracts of private functions: only proofs need it.
use Rattle.std.specs.Prelude.{Option, Some, None, ◌≡◌, ℕ, ◌<◌, true, false, List, length, slice_index_or as get_or}
use Rattle.std.specs.List.{HoldsAt}
use Rattle.txc_tags.specs.Keys.{Call}
use Rattle.txc_node.specs.declared.entry.Entry.{Entry}
use Rattle.txc_node.specs.Entries.{meets_range, outlasts}

-- ---- the invariant of a lookup's walk, about the entries that it has passed

-- of the first n entries that meet the range, the one at b is the first that no other outlasts
pub record IsBestAt (p : ℕ) (key : Call) (lo hi : ℕ) (es : List Entry) (n b : ℕ) : Type 0 where
  pub below : b < n
  pub meets : (d : Entry) → meets_range p key lo hi (get_or es b d) ≡ true
  pub longest : (k : ℕ) → k < n → (d : Entry) → meets_range p key lo hi (get_or es k d) ≡ true
      → outlasts p (get_or es k d) (get_or es b d) ≡ false
  pub first : (k : ℕ) → k < b → (d : Entry) → meets_range p key lo hi (get_or es k d) ≡ true
      → outlasts p (get_or es b d) (get_or es k d) ≡ true

-- none of the first n entries meets the range, or the best of them is known
abbrev pub BestSoFar : ℕ → Call → ℕ → ℕ → List Entry → ℕ → Option ℕ → Type 0
BestSoFar p key lo hi es n None =
    (k : ℕ) → k < n → (d : Entry) → meets_range p key lo hi (get_or es k d) ≡ false
BestSoFar p key lo hi es n (Some b) = IsBestAt p key lo hi es n b

-- ---- the place of an entry

-- the list has the entry at that place; no place if there is no entry
abbrev pub StandsAt : Option Entry → List Entry → Option ℕ → Type 0
StandsAt o es None = o ≡ None
StandsAt o es (Some i) = (i < length es) × HoldsAt (λ e. o ≡ Some e) es i
