-- Posted notes of a history, and the records that a cursor has found.
use Rattle.std.specs.Prelude.{◌≡◌, ℕ, ◌+◌, ◌<◌, ◌⊎◌, Bool, true, false, List, [], ◌∷◌, ◌++◌, length, Option, Some, refl}
use Rattle.std.specs.Coded.{Coded, code_by, coded×, coded_list, coded_ℕ, coded_bool, coded_option}
use Rattle.txc_stream.specs.Names.{Name, stored}
use Rattle.txc_stream.specs.FrontValue.{Shown}
use Rattle.txc_stream.specs.declared.segment.TheConstants.{SEGMENT_LEN}

-- ---- live segments

-- some at the beginning were dropped; the others are as they were
pub record AreLeft {A : Type 0} (all left : List A) : Type 0 where
  pub dropped : List A
  pub is : all ≡ dropped ++ left

-- ---- publishers

-- of a publisher: the number of records before its last segment, and the lists posted in the cells of that
pub record PosterValue (T : Type 0) : Type 0 where
  pub from : ℕ
  pub posted : List (Option (List T))

-- the code of a publisher, made of that of its records
abbrev pub poster_code : {T : Type 0} → Coded T → Coded (PosterValue T)
poster_code {T} c =
    code_by (ℕ × List (Option (List T))) (coded× coded_ℕ (coded_list (coded_option (coded_list c))))
    (λ p. (p.from, p.posted)) (λ p. record { from = p.0; posted = p.1 }) (λ _. refl)

-- a publisher observes the cells of its segment, `SEGMENT_LEN` of them
pub record IsPoster {T : Type 0} (cells : List ℕ) (shown : Shown (Option (List T))) : Type 0 where
  pub sees : shown.name ≡ stored cells
  pub many : length cells ≡ SEGMENT_LEN

-- there is room for one record more: in the same segment, or in the one after it, in which nothing was posted
pub record HasRoomMade {T : Type 0} (old new : PosterValue T) : Type 0 where
  pub room : length new.posted < SEGMENT_LEN
  pub counted : new.from + length new.posted ≡ old.from + length old.posted
  pub either : (new ≡ old) ⊎ (new ≡ record { from = old.from + SEGMENT_LEN; posted = [] })

-- ---- cursors

-- the records that a cursor has seen: those that it has taken and, if it has found one more, that one
pub record WalkerValue (T : Type 0) : Type 0 where
  pub list : List T
  pub found : Bool

-- the code of a cursor, made of that of its records
abbrev pub walker_code : {T : Type 0} → Coded T → Coded (WalkerValue T)
walker_code {T} c =
    code_by (List T × Bool) (coded× (coded_list c) coded_bool)
    (λ w. (w.list, w.found)) (λ p. record { list = p.0; found = p.1 }) (λ _. refl)

-- the list is the last of those that were read
pub record IsLastRead {T : Type 0} (read : List (Option (List T))) (list : List T) : Type 0 where
  pub earlier : List (Option (List T))
  pub is : read ≡ earlier ++ Some list ∷ []

-- a cursor has seen records of the named history, and reads the cells of its segment; if it has found a record,
-- it has read its posted note
pub record IsWalker {T : Type 0} (history : Name) (cells : List ℕ) (read : Shown (Option (List T))) (front : Shown T)
    (found : Bool) : Type 0 where
  pub named : front.name ≡ history
  pub reads : read.name ≡ stored cells
  pub has : found ≡ true → IsLastRead read.list front.list

-- it found the record after those that it had seen
pub record HasFoundNext {T : Type 0} (old new : WalkerValue T) : Type 0 where
  pub taken : old.found ≡ false
  pub found : new.found ≡ true
  pub next : T
  pub is : new.list ≡ old.list ++ next ∷ []
