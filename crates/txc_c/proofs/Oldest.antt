-- The least number of the transactions that are open.
use Rattle.std.proofs.Common.{◌≡◌, ◌⊎◌, ◌∙◌, ◌∷◌, ◌%◌, ◌≤◌, ℕ, List, [], Contains, Option, Some, None, IsSome, inl, inr, refl, ap, sym, subst, arith}
use Rattle.std.specs.Option.{ForSome}
use Rattle.slab.specs.Slab.{Slab, get, entries}
use Rattle.slab.proofs.SlabLemmas.{Contains-cons, Contains-cons_cases, Contains-entries}
use Rattle.txc_c.specs.OpenTransactions.{IsLeastOpen}
use Rattle.txc_c.specs.Sites.{open_at, IsSite, SiteValue}
use Rattle.txc_c.specs.declared.opened.Open.{Open}
use Rattle.txc_c.specs.declared.opened.Opened.{Opened}
use Rattle.txc_c.specs.declared.opened.TheConstants.{MAX_OPEN}
use Rattle.txc_c.proofs.Places.{found, place_named}
use Rattle.txc_c.proofs.Going.{named_at}

abbrev pub IsAtMost : Option ℕ → ℕ → Type 0
IsAtMost None n = ⊥
IsAtMost (Some m) n = m ≤ n

-- one of this number stands at some place
pub record HasNumber (opened : Slab Opened) (n : ℕ) : Type 0 where
  pub place : ℕ
  pub o : Opened
  pub there : get opened place ≡ Some o
  pub number : o.number ≡ n

-- this is the least number of those that are not left
pub record IsLeastBut (opened : Slab Opened) (left : List (ℕ × Opened)) (least : Option ℕ) : Type 0 where
  pub seen : (place : ℕ) (o : Opened) → get opened place ≡ Some o → Contains left (place, o) ⊎ IsAtMost least o.number
  pub listed : (place : ℕ) (o : Opened) → Contains left (place, o) → get opened place ≡ Some o
  pub there : ForSome least (HasNumber opened)

pub none_seen : (opened : Slab Opened) (left : List (ℕ × Opened)) → left ≡ entries opened → IsLeastBut opened left None
none_seen opened left is = record {
  seen = λ place o there. inl (subst (λ (xs : List (ℕ × Opened)). Contains xs (place, o)) (sym is) ((Contains-entries opened place o).1 there));
  listed = λ place o listed. (Contains-entries opened place o).0 (subst (λ (xs : List (ℕ × Opened)). Contains xs (place, o)) is listed);
  there = λ n none. absurd (cc none);
}

module _ (opened : Slab Opened) (left rest : List (ℕ × Opened)) (place0 : ℕ) (o0 : Opened) (first : left ≡ (place0, o0) ∷ rest) where
  still : (place : ℕ) (o : Opened) → Contains rest (place, o) → Contains left (place, o)
  still place o there = subst (λ (xs : List (ℕ × Opened)). Contains xs (place, o)) (sym first) (Contains-cons (place0, o0) (place, o) rest there)

  this_or : (place : ℕ) (o : Opened) → Contains left (place, o) → (o0.number ≡ o.number) ⊎ Contains rest (place, o)
  this_or place o there =
      elim (Contains-cons_cases (place0, o0) (place, o) rest (subst (λ (xs : List (ℕ × Opened)). Contains xs (place, o)) first there)) [
        | inl same ↦ inl (ap (λ (e : ℕ × Opened). e.1.number) same)
        | inr more ↦ inr more
      ]

  -- the first that is left is no less
  pub seen_later : (m : ℕ) → m ≤ o0.number → IsLeastBut opened left (Some m) → IsLeastBut opened rest (Some m)
  seen_later m low is = record {
    seen = λ place o there. elim (is.seen place o there) [
      | inl more ↦ elim (this_or place o more) [ inl same ↦ inr (omega (arith, low, same)) | inr later ↦ inl later ]
      | inr high ↦ inr high
    ];
    listed = λ place o listed. is.listed place o (still place o listed);
    there = is.there;
  }

  -- it is the least
  pub seen_first : (least : Option ℕ) → ((n : ℕ) → IsAtMost least n → o0.number ≤ n) → IsLeastBut opened left least → IsLeastBut opened rest (Some o0.number)
  seen_first least low is = record {
    seen = λ place o there. elim (is.seen place o there) [
      | inl more ↦ elim (this_or place o more) [ inl same ↦ inr (omega (arith, same)) | inr later ↦ inl later ]
      | inr high ↦ inr (low o.number high)
    ];
    listed = λ place o listed. is.listed place o (still place o listed);
    there = λ n same. let e : o0.number ≡ n = cc in record {
      place = place0;
      o = o0;
      there = is.listed place0 o0 (subst (λ (xs : List (ℕ × Opened)). Contains xs (place0, o0)) (sym first) (0, omega arith, refl));
      number = e;
    };
  }

-- ---- none is left

-- one of that number is open
pub open_there : (s : SiteValue) → IsSite s → (n : ℕ) → HasNumber s.opened n → IsSome (open_at s n)
open_there s site n has =
    let placed = site.placed has.place has.o has.there in
    let at : n % MAX_OPEN ≡ has.place = ap (λ (m : ℕ). m % MAX_OPEN) (sym has.number) ∙ place_named has.place placed.count has.o.number placed.numbered in
    subst (λ (x : Option Open). IsSome x) (sym (found n has.o (get s.opened (n % MAX_OPEN)) (ap (get s.opened) at ∙ has.there) has.number)) refl

open_some : (x : Option Open) → IsSome x → (o : Open) × (x ≡ Some o)
open_some None is = absurd (cc is)
open_some (Some o) is = (o, refl)

-- each that is open has a greater number
pub least_of : (s : SiteValue) (least : Option ℕ) → IsLeastBut s.opened [] least → (m : ℕ) → IsSome (open_at s m) → IsAtMost least m
least_of s least is m there =
    let x = open_some (open_at s m) there in
    let named = named_at m (get s.opened (m % MAX_OPEN)) x.0 x.1 in
    elim (is.seen (m % MAX_OPEN) named.0 named.1.0) [
      | inl left ↦ absurd (omega (arith, left.1))
      | inr high ↦ subst (IsAtMost least) named.1.1 high
    ]

pub least_open : (s : SiteValue) → IsSite s → (left : List (ℕ × Opened)) → left ≡ [] → (least : Option ℕ) → IsLeastBut s.opened left least → IsLeastOpen s least
least_open s site left none None is =
    let ended = subst (λ (xs : List (ℕ × Opened)). IsLeastBut s.opened xs None) none is in λ m there. least_of s None ended m there
least_open s site left none (Some n) is =
    let ended = subst (λ (xs : List (ℕ × Opened)). IsLeastBut s.opened xs (Some n)) none is in record {
      there = open_there s site n (is.there n refl);
      first = λ m there. least_of s (Some n) ended m there;
    }
