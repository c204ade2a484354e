-- The text of a tag, piece by piece.
use Rattle.std.proofs.Common.{◌≡◌, ℕ, inl, inr, List, [], ◌∷◌, ◌++◌, refl, sym, ap, subst, ◌∙◌, arith, append_assoc, append-nil}
use Rattle.std.specs.Fmt.{decimal}
use Rattle.std.proofs.lemmas.Fmt.{decimal_injective}
use Rattle.std.proofs.lemmas.List.{append_cancel_left}
use Rattle.txc_tags.specs.declared.tag.Rows.{Rows}
use Rattle.txc_tags.specs.declared.tag.Rows.TheVariants as rows
use Rattle.txc_tags.specs.declared.tag.Tag.{Tag}
use Rattle.txc_tags.specs.declared.text.tag.Spelling.{Spelling}
use Rattle.txc_tags.specs.declared.text.tag.Spelling.TheVariants.{Usual, Slashed}
use Rattle.txc_tags.specs.TextNumber.{IsDigit, BeginsWithNoDigit}
use Rattle.txc_tags.specs.TextReader.{IsWord, IsNumbered, Then, Either, Reads, GoesWrong}
use Rattle.txc_tags.specs.TextTag.{opening, all_word, id_word, group_word, rows_text, spelled, SpeltTag, spelt_text, AreRowsInRange, IsTagInRange, IsSpeltInRange}
use Rattle.txc_tags.specs.TextGrammar.{IsText}
use Rattle.txc_tags.specs.TextTagReader.{IsRows, IsSpelled}
use Rattle.txc_tags.proofs.TextReading.{IsFurther, Apart, Distinct, Differ, Solid, distinct, word_begins, then_begins, solid_apart, word_solid, then_solid, either_solid, alike_reads, alike_wrong, first_reads, second_reads, further_wrong, then_reads, then_wrong, first_wrong}
use Rattle.txc_tags.proofs.TextDigits.{numbered_solid, numbered_known, digit_first}

-- ---- the rows

-- the words after a table's number differ
all_from_id : (s : Spelling) → Differ (all_word s) (id_word s)
all_from_id Usual r t e = let w : ◌≡◌ {A = ℕ} 63 105 = cc in omega (arith, w)
all_from_id Slashed r t e = let w : ◌≡◌ {A = ℕ} 63 105 = cc in omega (arith, w)

all_from_group : (s : Spelling) → Differ (all_word s) (group_word s)
all_from_group Usual r t e = let w : ◌≡◌ {A = ℕ} 63 103 = cc in omega (arith, w)
all_from_group Slashed r t e = let w : ◌≡◌ {A = ℕ} 63 103 = cc in omega (arith, w)

id_from_group : (s : Spelling) → Differ (id_word s) (group_word s)
id_from_group Usual r t e = let w : ◌≡◌ {A = ℕ} 105 103 = cc in omega (arith, w)
id_from_group Slashed r t e = let w : ◌≡◌ {A = ℕ} 105 103 = cc in omega (arith, w)

-- and begin with no digit
rows_begin : (s : Spelling) (r : Rows) (more : List ℕ) → BeginsWithNoDigit (rows_text s r ++ more)
rows_begin Usual rows.All more = λ d. omega (arith, d.0, d.1)
rows_begin Usual (rows.Id id) more = λ d. omega (arith, d.0, d.1)
rows_begin Usual (rows.Group group) more = λ d. omega (arith, d.0, d.1)
rows_begin Slashed rows.All more = λ d. omega (arith, d.0, d.1)
rows_begin Slashed (rows.Id id) more = λ d. omega (arith, d.0, d.1)
rows_begin Slashed (rows.Group group) more = λ d. omega (arith, d.0, d.1)

other_way : (u v : List ℕ) → Differ u v → Differ v u
other_way u v differ r s e = differ s r (sym e)

module _ (s : Spelling) where
  abbrev AllRows : List ℕ → Type 0
  AllRows = IsWord (all_word s)

  abbrev Numbered : List ℕ → Type 0
  Numbered = Either (IsNumbered (id_word s) 4294967295) (IsNumbered (group_word s) 4294967295)

  -- rows are one of three pieces
  abbrev pub Pieces : List ℕ → Type 0
  Pieces = Either AllRows Numbered

  pub to_pieces : (text : List ℕ) → IsRows s text → Pieces text
  to_pieces text (rows.All, h) = inl h.1
  to_pieces text (rows.Id id, h) = inr (inl (id_word s, decimal id, refl, (id, (h.0, refl)), h.1))
  to_pieces text (rows.Group group, h) = inr (inr (group_word s, decimal group, refl, (group, (h.0, refl)), h.1))

  pub from_pieces : (text : List ℕ) → Pieces text → IsRows s text
  from_pieces text (inl e) = (rows.All, (tt, e))
  from_pieces text (inr (inl (x, y, w, n, e))) = (rows.Id n.0, (n.1.0, e ∙ ap (λ t. t ++ y) w ∙ ap (λ t. id_word s ++ t) n.1.1))
  from_pieces text (inr (inr (x, y, w, n, e))) = (rows.Group n.0, (n.1.0, e ∙ ap (λ t. t ++ y) w ∙ ap (λ t. group_word s ++ t) n.1.1))

  ids_apart : Distinct (IsNumbered (id_word s) 4294967295) (IsNumbered (group_word s) 4294967295)
  ids_apart = distinct (id_word s) (group_word s) _ _ (id_from_group s) (then_begins (id_word s) _) (then_begins (group_word s) _)

  groups_apart : Distinct (IsNumbered (group_word s) 4294967295) (IsNumbered (id_word s) 4294967295)
  groups_apart = distinct (group_word s) (id_word s) _ _ (other_way _ _ (id_from_group s)) (then_begins (group_word s) _) (then_begins (id_word s) _)

  all_apart : Distinct AllRows Numbered
  all_apart x y h (inl k) = distinct (all_word s) (id_word s) _ _ (all_from_id s) (word_begins (all_word s)) (then_begins (id_word s) _) x y h k
  all_apart x y h (inr k) = distinct (all_word s) (group_word s) _ _ (all_from_group s) (word_begins (all_word s)) (then_begins (group_word s) _) x y h k

  numbers_apart : Distinct Numbered AllRows
  numbers_apart x y (inl h) k = distinct (id_word s) (all_word s) _ _ (other_way _ _ (all_from_id s)) (then_begins (id_word s) _) (word_begins (all_word s)) x y h k
  numbers_apart x y (inr h) k = distinct (group_word s) (all_word s) _ _ (other_way _ _ (all_from_group s)) (then_begins (group_word s) _) (word_begins (all_word s)) x y h k

  pieces_solid : Solid Pieces
  pieces_solid = either_solid AllRows Numbered all_apart numbers_apart (word_solid (all_word s))
      (either_solid (IsNumbered (id_word s) 4294967295) (IsNumbered (group_word s) 4294967295) ids_apart groups_apart (numbered_solid (id_word s) 4294967295 (omega arith)) (numbered_solid (group_word s) 4294967295 (omega arith)))

  rows_solid : Solid (IsRows s)
  rows_solid x y b h k = pieces_solid x y b (to_pieces x h) (to_pieces (x ++ b ∷ y) k)

  -- ---- what `read_rows` answers

  pub reads_id : (text piece rest : List ℕ) → Reads (IsNumbered (id_word s) 4294967295) text piece rest → Reads (IsRows s) text piece rest
  reads_id text piece rest r = alike_reads Pieces (IsRows s) from_pieces to_pieces text piece rest
      (second_reads AllRows Numbered numbers_apart text piece rest (first_reads (IsNumbered (id_word s) 4294967295) (IsNumbered (group_word s) 4294967295) ids_apart text piece rest r))

  pub reads_group : (text piece rest : List ℕ) → Reads (IsNumbered (group_word s) 4294967295) text piece rest → Reads (IsRows s) text piece rest
  reads_group text piece rest r = alike_reads Pieces (IsRows s) from_pieces to_pieces text piece rest
      (second_reads AllRows Numbered numbers_apart text piece rest (second_reads (IsNumbered (id_word s) 4294967295) (IsNumbered (group_word s) 4294967295) groups_apart text piece rest r))

  pub rows_wrong : (text all id group numbered rest : List ℕ) → GoesWrong AllRows text all → GoesWrong (IsNumbered (id_word s) 4294967295) text id → GoesWrong (IsNumbered (group_word s) 4294967295) text group
      → IsFurther id group numbered → IsFurther all numbered rest → GoesWrong (IsRows s) text rest
  rows_wrong text all id group numbered rest g h k later latest = alike_wrong Pieces (IsRows s) from_pieces to_pieces text rest
      (further_wrong AllRows Numbered text all numbered rest g (further_wrong (IsNumbered (id_word s) 4294967295) (IsNumbered (group_word s) 4294967295) text id group numbered h k later) latest)

  -- ---- the tag

  no_digit_first : (b : ℕ) (z : List ℕ) → IsRows s (b ∷ z) → IsDigit b → ⊥
  no_digit_first b z (r, h) = subst BeginsWithNoDigit (append-nil (rows_text s r) ∙ sym h.1) (rows_begin s r [])

  abbrev Opened : List ℕ → Type 0
  Opened = IsNumbered (opening s) 15

  abbrev TagPieces : List ℕ → Type 0
  TagPieces = Then Opened (IsRows s)

  to_tag_pieces : (text : List ℕ) → IsSpelled s text → TagPieces text
  to_tag_pieces text (tag, ((t, r), e)) = (opening s ++ decimal tag.table, rows_text s tag.rows, (opening s, decimal tag.table, refl, (tag.table, (t, refl)), refl), (tag.rows, (r, refl)), e ∙ sym (append_assoc (opening s) (decimal tag.table) (rows_text s tag.rows)))

  from_tag_pieces : (text : List ℕ) → TagPieces text → IsSpelled s text
  from_tag_pieces text (x, y, (u, v, w, n, d), r, e) = (
    record { table = n.0; rows = r.0 },
    ((n.1.0, r.1.0), e ∙ ap (λ t. t ++ y) (d ∙ ap (λ t. t ++ v) w ∙ ap (λ t. opening s ++ t) n.1.1) ∙ ap (λ t. (opening s ++ decimal n.0) ++ t) r.1.1 ∙ append_assoc (opening s) (decimal n.0) (rows_text s r.0)),
  )

  opened_solid : Solid Opened
  opened_solid = numbered_solid (opening s) 15 (omega arith)

  opened_apart : Apart Opened (IsRows s)
  opened_apart = solid_apart Opened (IsRows s) opened_solid no_digit_first

  pub spelled_solid : Solid (IsSpelled s)
  spelled_solid x y b h k = then_solid Opened (IsRows s) opened_apart opened_solid rows_solid x y b (to_tag_pieces x h) (to_tag_pieces (x ++ b ∷ y) k)

  -- ---- what `read_spelled` answers

  pub opening_wrong : (text rest : List ℕ) → GoesWrong Opened text rest → GoesWrong (IsSpelled s) text rest
  opening_wrong text rest g = alike_wrong TagPieces (IsSpelled s) from_tag_pieces to_tag_pieces text rest
      (first_wrong Opened (IsRows s) opened_apart text rest (all_word s) (rows.All, (tt, refl)) g)

  module _ (text after : List ℕ) (table : ℕ) (read : Reads Opened text (opening s ++ decimal table) after) where
    pub last_wrong : (rest : List ℕ) → GoesWrong (IsRows s) after rest → GoesWrong (IsSpelled s) text rest
    last_wrong rest g = alike_wrong TagPieces (IsSpelled s) from_tag_pieces to_tag_pieces text rest (then_wrong Opened (IsRows s) opened_apart text (opening s ++ decimal table) after read rest g)

    pub reads_tag : (r : Rows) (rest : List ℕ) → Reads (IsRows s) after (rows_text s r) rest → Reads (IsSpelled s) text (spelled s (record { table = table; rows = r })) rest
    reads_tag r rest k = alike_reads TagPieces (IsSpelled s) from_tag_pieces to_tag_pieces text (spelled s (record { table = table; rows = r })) rest
        (subst (λ (piece : List ℕ). Reads TagPieces text piece rest) (append_assoc (opening s) (decimal table) (rows_text s r))
        (then_reads Opened (IsRows s) opened_apart text (opening s ++ decimal table) after read (rows_text s r) rest k))

  -- ---- a tag is known by its text

  rows_known : (r q : Rows) → AreRowsInRange r → AreRowsInRange q → rows_text s r ≡ rows_text s q → r ≡ q
  rows_known rows.All rows.All h k e = refl
  rows_known rows.All (rows.Id n) h k e = absurd (all_from_id s [] (decimal n) (append-nil (all_word s) ∙ e))
  rows_known rows.All (rows.Group n) h k e = absurd (all_from_group s [] (decimal n) (append-nil (all_word s) ∙ e))
  rows_known (rows.Id n) rows.All h k e = absurd (all_from_id s [] (decimal n) (append-nil (all_word s) ∙ sym e))
  rows_known (rows.Id n) (rows.Id m) h k e = ap rows.Id (decimal_injective n m (omega (arith, h)) (omega (arith, k)) (append_cancel_left (id_word s) (decimal n) (decimal m) e))
  rows_known (rows.Id n) (rows.Group m) h k e = absurd (id_from_group s (decimal n) (decimal m) e)
  rows_known (rows.Group n) rows.All h k e = absurd (all_from_group s [] (decimal n) (append-nil (all_word s) ∙ sym e))
  rows_known (rows.Group n) (rows.Id m) h k e = absurd (id_from_group s (decimal m) (decimal n) (sym e))
  rows_known (rows.Group n) (rows.Group m) h k e = ap rows.Group (decimal_injective n m (omega (arith, h)) (omega (arith, k)) (append_cancel_left (group_word s) (decimal n) (decimal m) e))

  pub same_spelled : (a b : Tag) → IsTagInRange a → IsTagInRange b → spelled s a ≡ spelled s b → a ≡ b
  same_spelled a b h k e =
      let p = numbered_known (opening s) 15 (omega arith) (IsRows s) no_digit_first a.table b.table (rows_text s a.rows) (rows_text s b.rows) h.0 k.0 (a.rows, (h.1, refl)) (b.rows, (k.1, refl)) e in
      ap (λ (n : ℕ). tag n a.rows) p.0 ∙ ap (λ (r : Rows). tag b.table r) (rows_known a.rows b.rows h.1 k.1 p.1)
    where
      tag : ℕ → Rows → Tag
      tag n r = record { table = n; rows = r }

-- ---- a tag in either spelling

-- one spelling begins with a digit, the other with a letter
slashed_digit : (tag : Tag) → IsTagInRange tag → (b : ℕ) (r s : List ℕ) → spelled Slashed tag ++ r ≡ b ∷ s → IsDigit b
slashed_digit tag h b r s e = digit_first tag.table (omega (arith, h.0)) b (rows_text Slashed tag.rows ++ r) s (sym (append_assoc (decimal tag.table) (rows_text Slashed tag.rows) r) ∙ e)

usual_apart : Distinct (IsSpelled Usual) (IsSpelled Slashed)
usual_apart x y (t, (h, e)) (u, (k, f)) =
    let d = slashed_digit u k 116 [] ((decimal t.table ++ rows_text Usual t.rows) ++ y) (append-nil (spelled Slashed u) ∙ sym f ∙ ap (λ z. z ++ y) e) in
    omega (arith, d.1)

slashed_apart : Distinct (IsSpelled Slashed) (IsSpelled Usual)
slashed_apart x y (t, (h, e)) (u, (k, f)) =
    let d = slashed_digit t h 116 y (decimal u.table ++ rows_text Usual u.rows) (ap (λ z. z ++ y) (sym e) ∙ f) in
    omega (arith, d.1)

abbrev pub IsSpelt : List ℕ → Type 0
IsSpelt = IsText IsSpeltInRange spelt_text

abbrev Spellings : List ℕ → Type 0
Spellings = Either (IsSpelled Usual) (IsSpelled Slashed)

to_spellings : (text : List ℕ) → IsSpelt text → Spellings text
to_spellings text (t, h) = by t.spelling h.0 h.1
  where
    by : (s : Spelling) → IsTagInRange t.tag → text ≡ spelled s t.tag → Spellings text
    by Usual r e = inl (t.tag, (r, e))
    by Slashed r e = inr (t.tag, (r, e))

from_spellings : (text : List ℕ) → Spellings text → IsSpelt text
from_spellings text (inl (tag, h)) = (record { spelling = Usual; tag = tag }, h)
from_spellings text (inr (tag, h)) = (record { spelling = Slashed; tag = tag }, h)

pub spelt_solid : Solid IsSpelt
spelt_solid x y b h k = either_solid (IsSpelled Usual) (IsSpelled Slashed) usual_apart slashed_apart (spelled_solid Usual) (spelled_solid Slashed) x y b (to_spellings x h) (to_spellings (x ++ b ∷ y) k)

-- ---- what `read_tag` answers

pub reads_usual : (text piece rest : List ℕ) → Reads (IsSpelled Usual) text piece rest → Reads IsSpelt text piece rest
reads_usual text piece rest r = alike_reads Spellings IsSpelt from_spellings to_spellings text piece rest (first_reads (IsSpelled Usual) (IsSpelled Slashed) usual_apart text piece rest r)

pub reads_slashed : (text piece rest : List ℕ) → Reads (IsSpelled Slashed) text piece rest → Reads IsSpelt text piece rest
reads_slashed text piece rest r = alike_reads Spellings IsSpelt from_spellings to_spellings text piece rest (second_reads (IsSpelled Usual) (IsSpelled Slashed) slashed_apart text piece rest r)

pub spelt_wrong : (text usual slashed rest : List ℕ) → GoesWrong (IsSpelled Usual) text usual → GoesWrong (IsSpelled Slashed) text slashed → IsFurther usual slashed rest → GoesWrong IsSpelt text rest
spelt_wrong text usual slashed rest g h later = alike_wrong Spellings IsSpelt from_spellings to_spellings text rest (further_wrong (IsSpelled Usual) (IsSpelled Slashed) text usual slashed rest g h later)

-- ---- it is known by its text

pub same_spelt : (a b : SpeltTag) → IsSpeltInRange a → IsSpeltInRange b → spelt_text a ≡ spelt_text b → a ≡ b
same_spelt a b h k e = by a.spelling b.spelling a.tag b.tag h k e
  where
    by : (s u : Spelling) (x y : Tag) → IsTagInRange x → IsTagInRange y → spelled s x ≡ spelled u y → ◌≡◌ {A = SpeltTag} (record { spelling = s; tag = x }) (record { spelling = u; tag = y })
    by Usual Usual x y h k e = ap (λ (t : Tag). spelt Usual t) (same_spelled Usual x y h k e)
      where
        spelt : Spelling → Tag → SpeltTag
        spelt s t = record { spelling = s; tag = t }
    by Slashed Slashed x y h k e = ap (λ (t : Tag). spelt Slashed t) (same_spelled Slashed x y h k e)
      where
        spelt : Spelling → Tag → SpeltTag
        spelt s t = record { spelling = s; tag = t }
    by Usual Slashed x y h k e = absurd (usual_apart (spelled Usual x) [] (x, (h, refl)) (y, (k, append-nil (spelled Usual x) ∙ e)))
    by Slashed Usual x y h k e = absurd (slashed_apart (spelled Slashed x) [] (x, (h, refl)) (y, (k, append-nil (spelled Slashed x) ∙ e)))

-- neither spelling begins with a dash
pub spelt_begins : (t : SpeltTag) → IsSpeltInRange t → (r s : List ℕ) → spelt_text t ++ r ≡ 45 ∷ s → ⊥
spelt_begins t h r s e = by t.spelling e
  where
    by : (u : Spelling) → spelled u t.tag ++ r ≡ 45 ∷ s → ⊥
    by Usual e = let w : ◌≡◌ {A = ℕ} 116 45 = cc in omega (arith, w)
    by Slashed e = let d = slashed_digit t.tag h 45 r s e in omega (arith, d.0)
