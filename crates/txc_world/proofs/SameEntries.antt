-- Pins with their users, which are the same where the pins are, and the users of each stamp.
use Rattle.std.proofs.Common.{◌≡◌, ◌∙◌, ℕ, ◌+◌, ◌≤◌, ◌==◌, Bool, true, false, List, [], ◌∷◌, map, refl, ap, sym, subst, arith, eq-eqb}
use Rattle.std.specs.Prelude.{if◌then◌else◌}
use Rattle.std.proofs.lemmas.Bool.{eqb-true}
use Rattle.txc_cushion.specs.declared.pin.Pin.{Pin}
use Rattle.txc_cushion.specs.declared.entry.PinEntry.{PinEntry}
use Rattle.txc_cushion.specs.Entries.{pins_of, stamps_of, times, users_of, is_among, with_user, without_users}
use Rattle.txc_cushion.proofs.Counts.{times_cons, times_on}

-- ---- pins stay

one_stays : (b : Bool) (e : PinEntry) → (if b then record e { users = e.users + 1 } else e).pin ≡ e.pin
one_stays true e = refl
one_stays false e = refl

pub pins_handed : (pins : List Pin) (es : List PinEntry) → pins_of (map (with_user pins) es) ≡ pins_of es
pins_handed pins [] = refl
pins_handed pins (e ∷ es) =
    ap (λ (p : Pin). p ∷ pins_of (map (with_user pins) es)) (one_stays (is_among e.pin.stamp pins) e) ∙ ap (λ (ps : List Pin). e.pin ∷ ps) (pins_handed pins es)

pub pins_back : (stamps : List ℕ) (es : List PinEntry) → pins_of (map (without_users stamps) es) ≡ pins_of es
pins_back stamps [] = refl
pins_back stamps (e ∷ es) = ap (λ (ps : List Pin). e.pin ∷ ps) (pins_back stamps es)

-- ---- entries of the same pins and users are the same, where no stamp stands twice

no_users : (t : ℕ) (es : List PinEntry) → times t (stamps_of es) ≡ 0 → users_of t es ≡ 0
no_users t [] none = refl
no_users t (e ∷ es) none = go (e.pin.stamp == t) refl (no_users t es)
  where
    go : (b : Bool) → (e.pin.stamp == t) ≡ b → (times t (stamps_of es) ≡ 0 → users_of t es ≡ 0) → users_of t (e ∷ es) ≡ 0
    go true is rest = let one = times_on t e.pin.stamp (stamps_of es) is in omega (arith, one, none)
    go false is rest = let all = times_cons t e.pin.stamp (stamps_of es) in let at : users_of t es ≡ 0 = rest (omega (arith, all, none)) in rw is at

stamps_by_pins : (xs ys : List PinEntry) → pins_of xs ≡ pins_of ys → stamps_of xs ≡ stamps_of ys
stamps_by_pins [] [] same = refl
stamps_by_pins [] (y ∷ ys) same = cc same
stamps_by_pins (x ∷ xs) [] same = cc same
stamps_by_pins (x ∷ xs) (y ∷ ys) same =
    let pin : x.pin ≡ y.pin = cc same in
    let rest : pins_of xs ≡ pins_of ys = cc same in
    ap (λ (p : Pin). p.stamp ∷ stamps_of xs) pin ∙ ap (λ (l : List ℕ). y.pin.stamp ∷ l) (stamps_by_pins xs ys rest)

users_here : (x : PinEntry) (xs : List PinEntry) → users_of x.pin.stamp (x ∷ xs) ≡ x.users
users_here x xs = let is : (x.pin.stamp == x.pin.stamp) ≡ true = eq-eqb x.pin.stamp x.pin.stamp refl in rw is refl

pub same_entries : (xs ys : List PinEntry) → ((t : ℕ) → times t (stamps_of xs) ≤ 1) → pins_of xs ≡ pins_of ys
    → ((t : ℕ) → users_of t xs ≡ users_of t ys) → xs ≡ ys
same_entries [] [] once pins users = refl
same_entries [] (y ∷ ys) once pins users = cc pins
same_entries (x ∷ xs) [] once pins users = cc pins
same_entries (x ∷ xs) (y ∷ ys) once pins users =
    let pin : x.pin ≡ y.pin = cc pins in
    let rest : pins_of xs ≡ pins_of ys = cc pins in
    let at = x.pin.stamp in
    let stamps = stamps_by_pins xs ys rest in
    let here : x.users ≡ y.users =
    sym (users_here x xs) ∙ (users at ∙ (ap (λ (p : Pin). users_of p.stamp (y ∷ ys)) pin ∙ users_here y ys)) in
    let none : times at (stamps_of xs) ≡ 0 =
    let one = once at in let on = times_on at at (stamps_of xs) (eq-eqb at at refl) in omega (arith, one, on) in
    let other : (t : ℕ) → users_of t xs ≡ users_of t ys = λ t. go t (at == t) refl none pin stamps in
    let all : xs ≡ ys = same_entries xs ys (λ t. let one = once t in let cons = times_cons t at (stamps_of xs) in omega (arith, one, cons)) rest other in
    ap (λ (p : Pin). record { pin = p; users = x.users } ∷ xs) pin
    ∙ ap (λ (n : ℕ). record { pin = y.pin; users = n } ∷ xs) here
    ∙ ap (λ (l : List PinEntry). y ∷ l) all
  where
    go : (t : ℕ) (b : Bool) → (x.pin.stamp == t) ≡ b → times x.pin.stamp (stamps_of xs) ≡ 0 → x.pin ≡ y.pin → stamps_of xs ≡ stamps_of ys → users_of t xs ≡ users_of t ys
    go t true is none pin stamps =
        let same : x.pin.stamp ≡ t = eqb-true x.pin.stamp t is in
        let mine : times t (stamps_of xs) ≡ 0 = subst (λ (n : ℕ). times n (stamps_of xs) ≡ 0) same none in
        no_users t xs mine ∙ sym (no_users t ys (subst (λ (l : List ℕ). times t l ≡ 0) stamps mine))
    go t false is none pin stamps =
        let is' : (y.pin.stamp == t) ≡ false = subst (λ (p : Pin). (p.stamp == t) ≡ false) pin is in
        let first : users_of t (x ∷ xs) ≡ users_of t xs = rw is refl in
        let second : users_of t (y ∷ ys) ≡ users_of t ys = rw is' refl in
        sym first ∙ (users t ∙ second)
