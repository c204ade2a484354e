-- How many records each pass has made, record by record.
use Rattle.std.proofs.Common.{◌≡◌, ◌≢◌, inl, inr, ℕ, zero, suc, ◌+◌, ◌<◌, ◌≤◌, ◌==◌, List, [], ◌∷◌, ◌++◌, length, get_or, set, refl, ap, sym, ◌∙◌, arith, get_or-set_same, get_or-set_other, take, slice_get, Some}
use Rattle.std.proofs.lemmas.List.{take_more}
use Rattle.std.proofs.lemmas.Option.{slice_get_within, get_or_from_slice_get}
use Rattle.std.proofs.lemmas.List.Sums.{count_by-le-length}
use Rattle.std.proofs.lemmas.Bool.{cases_eq}
use Rattle.std.proofs.lemmas.Bool.Decides.{nat_tests}
use Rattle.txc_node.specs.declared.record.Record.{Record}
use Rattle.txc_shared.specs.Histories.{records_of}
use Rattle.txc_shared.proofs.Histories.{records_of-append}

-- a pass that was just made has made no record
pub turns_more : (xs : List ℕ) (p : ℕ) → get_or (xs ++ 0 ∷ []) p 0 ≡ get_or xs p 0
turns_more [] zero = refl
turns_more [] (suc p) = refl
turns_more (x ∷ xs) zero = refl
turns_more (x ∷ xs) (suc p) = turns_more xs p

pub one_record : (r : Record) (p : ℕ) → r.pass ≡ p → records_of p (r ∷ []) ≡ 1
one_record r p is = grind (arith, nat_tests)

no_record : (r : Record) (p : ℕ) → r.pass ≢ p → records_of p (r ∷ []) ≡ 0
no_record r p other = grind (arith, nat_tests)

pub records_within : (p : ℕ) (xs : List Record) → records_of p xs ≤ length xs
records_within p xs = count_by-le-length (λ (r : Record). r.pass == p) xs

-- one record more of the pass `own`
pub turns_set : (ts : List ℕ) (xs : List Record) (own : ℕ) (r : Record) → r.pass ≡ own → own < length ts
    → ((p : ℕ) → get_or ts p 0 ≡ records_of p xs) → (p : ℕ) → get_or (set ts own (get_or ts own 0 + 1)) p 0 ≡ records_of p (xs ++ r ∷ [])
turns_set ts xs own r is below all p =
    elim (cases_eq p own) [
      | inl same ↦ let e = one_record r p (is ∙ sym same) in
          ap (λ (k : ℕ). get_or (set ts own (get_or ts own 0 + 1)) k 0) same ∙ (get_or-set_same ts own (get_or ts own 0 + 1) 0 below
          ∙ (ap (λ (k : ℕ). get_or ts k 0 + 1) (sym same) ∙ (ap (λ (k : ℕ). k + 1) (all p) ∙ (sym (ap (λ (k : ℕ). records_of p xs + k) e) ∙ sym (records_of-append p xs (r ∷ []))))))
      | inr other ↦ let e = no_record r p (λ same. other (sym same ∙ is)) in
          get_or-set_other ts own p (get_or ts own 0 + 1) 0 other ∙ (all p ∙ (let f = records_of-append p xs (r ∷ []) in omega (arith, e, f)))
    ]

-- ---- one record further

pub take_read : (xs : List Record) (i : ℕ) (x : Record) → slice_get xs i ≡ Some x → take (i + 1) xs ≡ take i xs ++ x ∷ []
take_read xs i x is = take_more xs i x (slice_get_within xs i x is) ∙ ap (λ e. take i xs ++ e ∷ []) (get_or_from_slice_get xs i x x is)

pub counts_own : (p : ℕ) (xs : List Record) (i : ℕ) (x : Record) → slice_get xs i ≡ Some x → x.pass ≡ p → records_of p (take (i + 1) xs) ≡ records_of p (take i xs) + 1
counts_own p xs i x is own =
    let e = one_record x p own in let f = records_of-append p (take i xs) (x ∷ []) in ap (records_of p) (take_read xs i x is) ∙ omega (arith, e, f)

pub counts_other : (p : ℕ) (xs : List Record) (i : ℕ) (x : Record) → slice_get xs i ≡ Some x → x.pass ≢ p → records_of p (take (i + 1) xs) ≡ records_of p (take i xs)
counts_other p xs i x is other =
    let e = no_record x p other in let f = records_of-append p (take i xs) (x ∷ []) in ap (records_of p) (take_read xs i x is) ∙ omega (arith, e, f)
