-- Changes of a query's answer: only the contracts of this crate's private functions use them.
use Rattle.std.specs.Prelude.{◌≡◌, ◌⊎◌, ◌≤◌, ℕ, Some}
use Rattle.txc_rows.specs.declared.version.Versioned.{Versioned}
use Rattle.txc_rows.specs.Versions.{is_visible}

-- the version begins or ends at the stamp
abbrev pub Turns : Versioned → ℕ → Type 0
Turns v s = (v.born ≡ s) ⊎ (v.died ≡ Some s)

-- at each stamp from first to last the version is visible as it is at t
abbrev pub IsSteady : ℕ → ℕ → ℕ → Versioned → Type 0
IsSteady t first last v = (s : ℕ) → first ≤ s → s ≤ last → is_visible s v ≡ is_visible t v
