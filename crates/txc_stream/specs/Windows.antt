-- Histories with notes of their last records.
use Rattle.std.specs.Prelude.{◌≡◌, ℕ, ◌≤◌, List, [], ◌∷◌, length, drop, refl}
use Rattle.std.specs.Coded.{Coded, code_by, coded×, coded_list, coded_ℕ}
use Rattle.txc_stream.specs.Names.{Name, unstored, coded_name}
use Rattle.txc_stream.specs.FrontValue.{Shown}

-- the history's identity, its records, how many of them have no note any more, and for how many more notes
-- there is room
pub record WindowValue (T : Type 0) : Type 0 where
  pub name : Name
  pub list : List T
  pub first : ℕ
  pub room : ℕ

-- the code of a window, made of that of its records
abbrev pub window_code : {T : Type 0} → Coded T → Coded (WindowValue T)
window_code {T} c =
    code_by ((Name × List T) × (ℕ × ℕ)) (coded× (coded× coded_name (coded_list c)) (coded× coded_ℕ coded_ℕ))
    (λ w. ((w.name, w.list), (w.first, w.room)))
    (λ p. record { name = p.0.0; list = p.0.1; first = p.1.0; room = p.1.1 }) (λ _. refl)

-- the value of a front of the whole history
abbrev pub front_of_window : {T : Type 0} → WindowValue T → Shown T
front_of_window w = record { name = w.name; list = w.list }

-- one note for each record, in their order
abbrev pub AreNotes : {T N : Type 0} → (T → N → Type 0) → List T → List N → Type 0
AreNotes notes [] [] = Unit {0}
AreNotes notes [] (n ∷ ns) = ⊥
AreNotes notes (x ∷ xs) [] = ⊥
AreNotes notes (x ∷ xs) (n ∷ ns) = notes x n × AreNotes notes xs ns

-- the front shows all that the append token of this number has written, and there is a note for each record
-- from the first that has one on
pub record IsWindow {T N : Type 0} (notes : T → N → Type 0) (number : ℕ) (written : List T) (front : Shown T)
    (first : ℕ) (kept : List N) : Type 0 where
  pub name : front.name ≡ unstored number
  pub whole : front.list ≡ written
  pub begins : first ≤ length front.list
  pub noted : AreNotes notes (drop first front.list) kept
