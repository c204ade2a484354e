-- The places of a site, and the transactions that are found at them.
use Rattle.std.proofs.Common.{◌≡◌, ◌≢◌, ◌∙◌, ℕ, ◌+◌, ◌*◌, ◌%◌, ◌<◌, ◌≤◌, ◌==◌, Bool, true, false, Option, Some, None, inl, inr, refl, ap, sym, subst, arith, eq-eqb, ne_eqb}
use Rattle.std.specs.Prelude.{if◌then◌else◌}
use Rattle.std.specs.Option.{ForSome}
use Rattle.std.proofs.lemmas.Bool.{cases_eq}
use Rattle.slab.specs.Slab.{Slab, get, Updates}
use Rattle.txc_caller.specs.Ports.{HasGrownDatabase}
use Rattle.txc_caller.specs.CallerTxn.{CallerValue, KeepsCaller}
use Rattle.txc_c.specs.Opened.{OpenStays}
use Rattle.txc_c.specs.Sites.{of_number, AreAtPlaces, IsNumberOf, IsPlaced, IsSite, SiteValue}
use Rattle.txc_c.specs.declared.opened.Open.{Open}
use Rattle.txc_c.specs.declared.opened.Opened.{Opened}
use Rattle.txc_c.specs.declared.opened.TheConstants.{MAX_OPEN}

pub some_is : (x y : Opened) → Some x ≡ Some y → x ≡ y
some_is x y h = cc h

pub none_some : (x : Opened) → None ≡ Some x → ⊥
none_some x h = cc h

-- ---- numbers

-- a number names its place
pub place_named : (place count n : ℕ) → IsNumberOf place count n → n % MAX_OPEN ≡ place
place_named place count n is = let number = is.number in let fits = is.place_fits in omega (arith, number, fits)

-- ---- what a number finds

picked : (b : Bool) (x : Option Open) → b ≡ true → (if b then x else None) ≡ x
picked b x is = subst (λ (v : Bool). (if v then x else None) ≡ x) (sym is) refl

unpicked : (b : Bool) (x : Option Open) → b ≡ false → (if b then x else None) ≡ None
unpicked b x is = subst (λ (v : Bool). (if v then x else None) ≡ None) (sym is) refl

pub found : (n : ℕ) (o : Opened) (slot : Option Opened) → slot ≡ Some o → o.number ≡ n → of_number n slot ≡ Some o.txn
found n o slot there same = ap (of_number n) there ∙ picked (o.number == n) (Some o.txn) (eq-eqb o.number n same)

pub not_found : (n : ℕ) (o : Opened) (slot : Option Opened) → slot ≡ Some o → o.number ≢ n → of_number n slot ≡ None
not_found n o slot there other = ap (of_number n) there ∙ unpicked (o.number == n) (Some o.txn) (ne_eqb o.number n other)

pub none_there : (n : ℕ) (slot : Option Opened) → slot ≡ None → of_number n slot ≡ None
none_there n slot none = ap (of_number n) none

-- what is there has this number
pub one_named : (n : ℕ) (o : Opened) (slot : Option Opened) → slot ≡ Some o → o.number ≡ n → ForSome slot (λ (x : Opened). x.number ≡ n)
one_named n o slot there same x is = let e : x ≡ o = cc in ap (λ (y : Opened). y.number) e ∙ same

pub none_named : (n : ℕ) (slot : Option Opened) → slot ≡ None → ForSome slot (λ (x : Opened). x.number ≡ n)
none_named n slot none x is = absurd (cc)

module _ (opened opened' : Slab Opened) (n : ℕ) where
  -- the others find what they found, if what is and was at the place has this number or is none
  apart : (slot : Option Opened) (m : ℕ) → m ≢ n → ForSome slot (λ (o : Opened). o.number ≡ n) → of_number m slot ≡ None
  apart None m differs is = refl
  apart (Some o) m differs is = not_found m o (Some o) refl (λ same. differs (sym same ∙ is o refl))

  pub others : (place : ℕ) (slot : Option Opened) → Updates opened opened' place slot → ForSome slot (λ (o : Opened). o.number ≡ n)
      → ForSome (get opened place) (λ (o : Opened). o.number ≡ n) → (m : ℕ) → m ≢ n → of_number m (get opened' (m % MAX_OPEN)) ≡ of_number m (get opened (m % MAX_OPEN))
  others place slot updates is was m differs =
      elim (cases_eq (m % MAX_OPEN) place) [
        | inl here ↦
            (ap (λ (p : ℕ). of_number m (get opened' p)) here ∙ (ap (of_number m) updates.changed ∙ apart slot m differs is))
            ∙ sym (ap (λ (p : ℕ). of_number m (get opened p)) here ∙ apart (get opened place) m differs was)
        | inr away ↦ ap (of_number m) (updates.others (m % MAX_OPEN) away)
      ]

-- ---- what is true of each place

-- it stays so, with the caller as it is now
pub placed_on : OpenStays → (c c' : CallerValue) (begun begun' : ℕ) (opened : Slab Opened) → KeepsCaller c c' → HasGrownDatabase c.ports.database c'.ports.database
    → begun ≤ begun' → AreAtPlaces c begun opened → AreAtPlaces c' begun' opened
placed_on stay c c' begun begun' opened keeps grown later all place o there =
    let is = all place o there in
    record {
      count = is.count;
      numbered = is.numbered;
      given = let given = is.given in omega (arith, given, later);
      of_caller = stay c c' o.txn keeps grown is.of_caller;
    }

pub caller_site : OpenStays → (s : SiteValue) → IsSite s → (c' : CallerValue) → KeepsCaller s.caller c' → HasGrownDatabase s.caller.ports.database c'.ports.database
    → IsSite (record { caller = c'; opened = s.opened; begun = s.begun })
caller_site stay s site c' keeps grown = record { placed = placed_on stay s.caller c' s.begun s.begun s.opened keeps grown (omega arith) site.placed; few = site.few }

module _ (c : CallerValue) (begun : ℕ) (opened opened' : Slab Opened) (place : ℕ) where
  -- where one is changed or has come, it and the others
  pub placed_with : (o : Opened) → Updates opened opened' place (Some o) → IsPlaced c begun place o → AreAtPlaces c begun opened → AreAtPlaces c begun opened'
  placed_with o updates is all p x there =
      elim (cases_eq p place) [
        | inl here ↦
            let it : Some o ≡ Some x = sym updates.changed ∙ (ap (get opened') (sym here) ∙ there) in
            subst (λ (q : ℕ). IsPlaced c begun q x) (sym here) (subst (IsPlaced c begun place) (some_is o x it) is)
        | inr away ↦ all p x (sym (updates.others p away) ∙ there)
      ]
