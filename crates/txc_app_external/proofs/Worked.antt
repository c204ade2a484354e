-- The worked snapshots.
use Rattle.std.proofs.Common.{◌≡◌, inl, inr, ℕ, zero, suc, ◌+◌, ◌^◌, ◌<◌, ◌≤◌, List, [], ◌∷◌, ◌++◌, length, get_or, Option, Some, Bool, true, false, true≢false, ◌==◌, refl, sym, ap, ◌∙◌, arith}
use borrow.Author.Tests.{eqb-true}
use Rattle.std.specs.Str.{bytes_eq}
use Rattle.std.specs.List.{list_any, Contains}
use Rattle.std.proofs.lemmas.Fmt.{decimal_digit}
use Rattle.std.proofs.lemmas.Option.{same_Some}
use Rattle.txc_tags.proofs.Lists.{both_true, one_true}
use Rattle.txc_rows.specs.declared.query.Change.{Change}
use Rattle.txc_rows.specs.declared.query.Change.TheVariants.{Put}
use Rattle.txc_rows.specs.States.{RowValue, State}
use Rattle.txc_db.specs.History.{pin_event, state_at}
use Rattle.txc_app.specs.Eval.{activation, call_below, eval}
use Rattle.txc_app_external.specs.Snapshots.{Tag, Snapshots, ReadsAreCovered, equal_tags, is_noted, version_row, IsVersionTable}
use Rattle.txc_app_external.specs.Functions.{computed, uncached_below, uncached, ask_after, over_versions}
use Rattle.txc_app_external.specs.VersionHistory.{AreStepCommits, PutAll, HasFollowed, start, pinned, stepped}
use Rattle.txc_app_external.specs.Laws.{ValuesAreUncached}
use Rattle.txc_app_external.specs.WorkedSnapshots.{item, bids, price, worked_find, worked_tags, noted, worked_database, worked_functions, page, WorkedSnapshots, WorkedValues, puts, worked_history, WorkedFollowing, missing, missing_table, missing_history, MissingNote, torn_history, PinWithinStep}
use Rattle.txc_app_external.proofs.Computing.{cached_is_uncached}
use Rattle.txc_app_external.proofs.Following.{followed_table, pins_show}

-- ---- the premise

abbrev Quiet : Bool → ℕ → ℕ → Type 0
Quiet b i j = (k : ℕ) → i < k → k ≤ j → list_any (is_noted worked_database k) (worked_tags b) ≡ false

same_find : (b : Bool) (i j : ℕ) → i ≤ j → j ≤ 2 → Quiet b i j → worked_find i b ≡ worked_find j b
same_find true zero zero low high quiet = refl
same_find true zero (suc j) low high quiet = absurd (true≢false (quiet 1 (omega arith) (omega arith)))
same_find true (suc zero) zero low high quiet = absurd (omega arith)
same_find true (suc zero) (suc zero) low high quiet = refl
same_find true (suc zero) (suc (suc j)) low high quiet = absurd (true≢false (quiet 2 (omega arith) (omega arith)))
same_find true (suc (suc i)) zero low high quiet = absurd (omega arith)
same_find true (suc (suc i)) (suc zero) low high quiet = absurd (omega arith)
same_find true (suc (suc i)) (suc (suc j)) low high quiet = refl
same_find false zero zero low high quiet = refl
same_find false zero (suc zero) low high quiet = refl
same_find false zero (suc (suc j)) low high quiet = absurd (true≢false (quiet 2 (omega arith) (omega arith)))
same_find false (suc zero) zero low high quiet = absurd (omega arith)
same_find false (suc zero) (suc zero) low high quiet = refl
same_find false (suc zero) (suc (suc j)) low high quiet = absurd (true≢false (quiet 2 (omega arith) (omega arith)))
same_find false (suc (suc i)) zero low high quiet = absurd (omega arith)
same_find false (suc (suc i)) (suc zero) low high quiet = absurd (omega arith)
same_find false (suc (suc i)) (suc (suc j)) low high quiet = refl

premise : ReadsAreCovered worked_database
premise r i j low high quiet = same_find (bytes_eq r price) i j low high quiet

-- ---- the history

equal_tags_are : (t u : Tag) → equal_tags t u ≡ true → t ≡ u
equal_tags_are t u same =
    let two = both_true (t.table == u.table) (t.id == u.id) same in
    let table = eqb-true t.table u.table two.0 in
    let id = eqb-true t.id u.id two.1 in
    λ i. record { table = table i; id = id i }

no_other : (t : Tag) → false ≡ true → ⊥
no_other t e = true≢false (sym e)

one_commit : (D : Snapshots) (k : ℕ) (t : Tag) → is_noted D k t ≡ true → AreStepCommits D k (puts t k ∷ [])
one_commit D k t e = (((t, e, refl), tt), tt)

abbrev put : Tag → ℕ → Change
put t k = Put (version_row t k)

-- the only change, and the second of two
only : (c d : Change) → c ≡ d → Contains (c ∷ []) d
only c d e = (0, omega arith, e)

other : (b c d : Change) → c ≡ d → Contains (b ∷ c ∷ []) d
other b c d e = (1, omega arith, e)

first_of_two : (b c d : Change) → b ≡ d → Contains (b ∷ c ∷ []) d
first_of_two b c d e = (0, omega arith, e)

first_step : PutAll worked_database 1 (puts item 1 ∷ [])
first_step t noted = elim (one_true (equal_tags t item) false noted) [
  | inl here ↦ only (put item 1) (put t 1) (ap (λ (u : Tag). put u 1) (sym (equal_tags_are t item here)))
  | inr none ↦ absurd (no_other t none)
]

is_item : (t : Tag) → equal_tags t item ≡ true → Contains (put item 2 ∷ put bids 2 ∷ []) (put t 2)
is_item t here = first_of_two (put item 2) (put bids 2) (put t 2) (ap (λ (u : Tag). put u 2) (sym (equal_tags_are t item here)))

is_bids : (t : Tag) → equal_tags t bids ≡ true → Contains (put item 2 ∷ put bids 2 ∷ []) (put t 2)
is_bids t here = other (put item 2) (put bids 2) (put t 2) (ap (λ (u : Tag). put u 2) (sym (equal_tags_are t bids here)))

second_step : PutAll worked_database 2 (puts item 2 ∷ puts bids 2 ∷ [])
second_step t noted = elim (one_true (equal_tags t item) (list_any (equal_tags t) (bids ∷ item ∷ [])) noted) [
  | inl here ↦ is_item t here
  | inr later ↦ elim (one_true (equal_tags t bids) (list_any (equal_tags t) (item ∷ [])) later) [
    | inl here ↦ is_bids t here
    | inr last ↦ elim (one_true (equal_tags t item) false last) [ inl here ↦ is_item t here | inr none ↦ absurd (no_other t none) ]
  ]
]

at_first : HasFollowed worked_database (pin_event 0 ∷ []) 0
at_first = pinned [] 0 0 start (omega arith)

after_first : HasFollowed worked_database (pin_event 0 ∷ puts item 1 ∷ []) 1
after_first = stepped (pin_event 0 ∷ []) 0 (puts item 1 ∷ []) at_first (omega arith) (one_commit worked_database 1 item refl) first_step

at_second : HasFollowed worked_database (pin_event 0 ∷ puts item 1 ∷ pin_event 900 ∷ []) 1
at_second = pinned (pin_event 0 ∷ puts item 1 ∷ []) 1 900 after_first (omega arith)

after_second : HasFollowed worked_database (pin_event 0 ∷ puts item 1 ∷ pin_event 900 ∷ puts item 2 ∷ puts bids 2 ∷ []) 2
after_second = stepped (pin_event 0 ∷ puts item 1 ∷ pin_event 900 ∷ []) 1 (puts item 2 ∷ puts bids 2 ∷ []) at_second (omega arith)
    (((item, refl, refl), tt), (((bids, refl, refl), tt), tt)) second_step

at_third : HasFollowed worked_database worked_history 2
at_third = pinned (pin_event 0 ∷ puts item 1 ∷ pin_event 900 ∷ puts item 2 ∷ puts bids 2 ∷ []) 2 2000 after_second (omega arith)

pub worked_snapshots : WorkedSnapshots
worked_snapshots = record {
  premise = premise;
  numbered = omega arith;
  first = followed_table worked_database at_first;
  second = followed_table worked_database at_second;
  third = followed_table worked_database at_third;
}

pub worked_followed : WorkedFollowing
worked_followed = record {
  follows = record { complete = worked_history; number = 2; commits = []; is = refl; followed = at_third; of_next = tt };
  begun = record { complete = pin_event 0 ∷ puts item 1 ∷ pin_event 900 ∷ []; number = 1; commits = puts item 2 ∷ []; is = refl; followed = at_second; of_next = one_commit worked_database 2 item refl };
  first = refl;
  second = refl;
  third = refl;
}

-- ---- calls

-- the row of a version below ten, written out
abbrev row_of : Tag → ℕ → RowValue
row_of t n = record { table = t.table; id = t.id; group = 0; body = (48 + n) ∷ [] }

row_is : (t : Tag) (n : ℕ) → n < 10 → version_row t n ≡ row_of t n
row_is t n low = ap (λ (b : List ℕ). record { table = t.table; id = t.id; group = 0; body = b }) (decimal_digit n low)

uncached_is : (steps : List (List Tag)) (k : ℕ) → uncached worked_functions ((noted steps).find k) page ≡ Some (worked_find k true ++ worked_find k false)
unfolding uncached_below computed
uncached_is steps k = refl

abbrev cached : Snapshots → State → Option (List ℕ)
cached D s = eval (over_versions D worked_functions) page s

with_two : (D : Snapshots) (a b : Tag) (m n : ℕ) (v : List ℕ) → m < 10 → n < 10 → cached D (row_of a m ∷ row_of b n ∷ []) ≡ Some v → cached D (version_row a m ∷ version_row b n ∷ []) ≡ Some v
with_two D a b m n v low also e = ap (λ r. cached D (r ∷ version_row b n ∷ [])) (row_is a m low) ∙ (ap (λ r. cached D (row_of a m ∷ r ∷ [])) (row_is b n also) ∙ e)

with_one : (D : Snapshots) (a : Tag) (m : ℕ) (v : List ℕ) → m < 10 → cached D (row_of a m ∷ []) ≡ Some v → cached D (version_row a m ∷ []) ≡ Some v
with_one D a m v low e = ap (λ r. cached D (r ∷ [])) (row_is a m low) ∙ e

first_cached : cached worked_database [] ≡ Some (97 ∷ 112 ∷ [])
unfolding activation call_below ask_after
first_cached = refl

second_cached : cached worked_database (row_of item 1 ∷ []) ≡ Some (98 ∷ 112 ∷ [])
unfolding activation call_below ask_after
second_cached = refl

third_cached : cached worked_database (row_of item 2 ∷ row_of bids 2 ∷ []) ≡ Some (99 ∷ 113 ∷ [])
unfolding activation call_below ask_after
third_cached = refl

missing_cached : cached missing (row_of item 1 ∷ row_of bids 2 ∷ []) ≡ Some (98 ∷ 113 ∷ [])
unfolding activation call_below ask_after
missing_cached = refl

torn_cached : cached worked_database (row_of item 2 ∷ []) ≡ Some (99 ∷ 112 ∷ [])
unfolding activation call_below ask_after
torn_cached = refl

pub worked_calls : WorkedValues
worked_calls = record {
  first = (first_cached, uncached_is worked_database.steps 0);
  second = (with_one worked_database item 1 (98 ∷ 112 ∷ []) (omega arith) second_cached, uncached_is worked_database.steps 1);
  third = (with_two worked_database item bids 2 2 (99 ∷ 113 ∷ []) (omega arith) (omega arith) third_cached, uncached_is worked_database.steps 2);
}

-- ---- a note that is missing

missing_first : PutAll missing 1 (puts item 1 ∷ [])
missing_first = first_step

missing_second : PutAll missing 2 (puts bids 2 ∷ [])
missing_second t noted = elim (one_true (equal_tags t bids) false noted) [
  | inl here ↦ only (put bids 2) (put t 2) (ap (λ (u : Tag). put u 2) (sym (equal_tags_are t bids here)))
  | inr none ↦ absurd (no_other t none)
]

missing_followed : HasFollowed missing (puts item 1 ∷ puts bids 2 ∷ []) 2
missing_followed = stepped (puts item 1 ∷ []) 1 (puts bids 2 ∷ []) (stepped [] 0 (puts item 1 ∷ []) start (omega arith) (one_commit missing 1 item refl) missing_first)
    (omega arith) (one_commit missing 2 bids refl) missing_second

missing_pinned : HasFollowed missing missing_history 2
missing_pinned = pinned (puts item 1 ∷ puts bids 2 ∷ []) 2 2000 missing_followed (omega arith)

missing_value : cached missing missing_table ≡ Some (98 ∷ 113 ∷ [])
missing_value = with_two missing item bids 1 2 (98 ∷ 113 ∷ []) (omega arith) (omega arith) missing_cached

byte_at : (i : ℕ) {xs ys : List ℕ} → xs ≡ ys → get_or xs i 0 ≡ get_or ys i 0
byte_at i e = ap (λ l. get_or l i 0) e

-- no snapshot has the price of one beside the bid of another
not_beside : (k : ℕ) → worked_find k true ++ worked_find k false ≡ 98 ∷ 113 ∷ [] → ⊥
not_beside zero e = let h : ◌≡◌ {A = ℕ} 97 98 = byte_at 0 e in omega arith
not_beside (suc zero) e = let h : ◌≡◌ {A = ℕ} 112 113 = byte_at 1 e in omega arith
not_beside (suc (suc k)) e = let h : ◌≡◌ {A = ℕ} 99 98 = byte_at 0 e in omega arith

missing_torn : (k : ℕ) → uncached worked_functions (missing.find k) page ≡ Some (98 ∷ 113 ∷ []) → ⊥
missing_torn k e = not_beside k (same_Some _ _ (sym (uncached_is missing.steps k) ∙ e))

missing_needed : ValuesAreUncached missing → ⊥
missing_needed law = missing_torn 2 (law worked_functions 2 missing_table page (98 ∷ 113 ∷ []) (omega arith) (followed_table missing missing_followed) missing_value)

missing_numbered : length missing.steps < 2 ^ 64
missing_numbered = omega arith

pub missing_note : MissingNote
missing_note = record {
  numbered = missing_numbered;
  follows = record { complete = missing_history; number = 2; commits = []; is = refl; followed = missing_pinned; of_next = tt };
  state = refl;
  table = followed_table missing missing_followed;
  cached = missing_value;
  torn = missing_torn;
  premise = λ covered. missing_needed (cached_is_uncached missing covered missing_numbered);
  needed = missing_needed;
}

-- ---- a pin within a step

abbrev first_byte : List RowValue → ℕ
first_byte [] = 0
first_byte (r ∷ rs) = get_or r.body 0 0

different : version_row item 2 ∷ [] ≡ version_row item 1 ∷ [] → ⊥
different e =
    let written : row_of item 2 ∷ [] ≡ row_of item 1 ∷ [] = ap (λ r. r ∷ []) (sym (row_is item 2 (omega arith))) ∙ (e ∙ ap (λ r. r ∷ []) (row_is item 1 (omega arith))) in
    let h : ◌≡◌ {A = ℕ} 50 49 = ap first_byte written in
    omega arith

torn_none : (k : ℕ) → k ≤ 2 → IsVersionTable worked_database k (state_at torn_history 5) → ⊥
torn_none zero low table = cc (table item)
torn_none (suc zero) low table = different (table item)
torn_none (suc (suc zero)) low table = cc (table bids)
torn_none (suc (suc (suc k))) low table = absurd (omega arith)

not_torn : (k : ℕ) → worked_find k true ++ worked_find k false ≡ 99 ∷ 112 ∷ [] → ⊥
not_torn zero e = let h : ◌≡◌ {A = ℕ} 97 99 = byte_at 0 e in omega arith
not_torn (suc zero) e = let h : ◌≡◌ {A = ℕ} 98 99 = byte_at 0 e in omega arith
not_torn (suc (suc k)) e = let h : ◌≡◌ {A = ℕ} 113 112 = byte_at 1 e in omega arith

pub pin_within_step : PinWithinStep
pin_within_step = record {
  none = torn_none;
  torn = with_one worked_database item 2 (99 ∷ 112 ∷ []) (omega arith) torn_cached;
  no_other = λ k e. not_torn k (same_Some _ _ (sym (uncached_is worked_database.steps k) ∙ e));
  follows = λ follows. let it = pins_show worked_database torn_history 5 2000 follows refl in torn_none it.number it.taken it.table;
}
