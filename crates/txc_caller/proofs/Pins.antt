-- Pins that no transaction uses.
use Rattle.std.proofs.Common.{◌≡◌, ◌∙◌, ℕ, ◌-◌, ◌<◌, ◌==◌, Bool, true, false, List, [], ◌∷◌, ◌++◌, map, filter, nat_lt, refl, ap, subst, arith, eq-eqb, ne_eqb}
use Rattle.std.proofs.lemmas.Bool.Decides.{nat_tests}
use Rattle.std.proofs.lemmas.List.{map-append}
use Rattle.txc_db.specs.declared.pinned.Pinned.{Pinned}
use Rattle.txc_db.specs.Calls.{IsPinnable}
use Rattle.txc_db.specs.DatabaseValue.{DatabaseValue, after_pin, newest}
use Rattle.txc_cushion.specs.declared.pin.Pin.{Pin}
use Rattle.txc_cushion.specs.declared.entry.PinEntry.{PinEntry}
use Rattle.txc_cushion.specs.Entries.{times, users_of, with_entry, without_users}
use Rattle.txc_cushion.specs.Pin.{pin_of}
use Rattle.txc_cushion.specs.Cushion.{after_add, after_give_back, CushionValue}
use Rattle.txc_cushion.specs.Refusals.{IsAddable}
use Rattle.txc_cushion.proofs.Counts.{times_cons, times_on}
use Rattle.txc_caller.specs.SparePins.{HasPinnedNewest}
use Rattle.txc_caller.specs.Ports.{AreGivenBack, CallerPorts}
use Rattle.txc_caller.proofs.GivingBack.{used_back}

-- ---- the users of a pin that was added

above : (a b : ℕ) → nat_lt a b ≡ true → (b == a) ≡ false
above a b is = ne_eqb b a (λ same. let less : a < b = grind (arith, nat_tests) in omega (arith, less, same))

-- it has those with which it was added
users_there : (new : PinEntry) (es rest : List PinEntry) → users_of new.pin.stamp (filter (λ e. nat_lt new.pin.stamp e.pin.stamp) es ++ new ∷ rest) ≡ new.users
users_there new [] rest = rw (eq-eqb new.pin.stamp new.pin.stamp refl) refl
users_there new (e ∷ es) rest = go (nat_lt new.pin.stamp e.pin.stamp) refl (users_there new es rest)
  where
    go : (b : Bool) → nat_lt new.pin.stamp e.pin.stamp ≡ b → users_of new.pin.stamp (filter (λ o. nat_lt new.pin.stamp o.pin.stamp) es ++ new ∷ rest) ≡ new.users
        → users_of new.pin.stamp (filter (λ o. nat_lt new.pin.stamp o.pin.stamp) (e ∷ es) ++ new ∷ rest) ≡ new.users
    go true is left = rw (is, above new.pin.stamp e.pin.stamp is) left
    go false is left = rw is left

-- no other pin loses one
others_stay : (s : ℕ) (test : PinEntry → Bool) → ((e : PinEntry) → test e ≡ true → (s == e.pin.stamp) ≡ false) → (es : List PinEntry)
    → map (without_users (s ∷ [])) (filter test es) ≡ filter test es
others_stay s test apart [] = refl
others_stay s test apart (e ∷ es) = go (test e) refl (others_stay s test apart es)
  where
    one : (s == e.pin.stamp) ≡ false → without_users (s ∷ []) e ≡ e
    one off =
        let none : times e.pin.stamp (s ∷ []) ≡ 0 = let all = times_cons e.pin.stamp s [] in all ∙ rw off refl in
        let left : e.users - times e.pin.stamp (s ∷ []) ≡ e.users = omega (arith, none) in
        ap (λ (n : ℕ). record e { users = n }) left

    go : (b : Bool) → test e ≡ b → map (without_users (s ∷ [])) (filter test es) ≡ filter test es → map (without_users (s ∷ [])) (filter test (e ∷ es)) ≡ filter test (e ∷ es)
    go true is rest =
        rw is (ap (λ (x : PinEntry). x ∷ map (without_users (s ∷ [])) (filter test es)) (one (apart e is)) ∙ ap (λ (xs : List PinEntry). e ∷ xs) rest)
    go false is rest = rw is rest

-- one that was added with one user has none once that is given back
user_back : (pin : Pin) (es : List PinEntry)
    → map (without_users (pin.stamp ∷ [])) (with_entry (record { pin = pin; users = 1 }) es) ≡ with_entry (record { pin = pin; users = 0 }) es
user_back pin es =
    map-append (without_users (pin.stamp ∷ [])) newer (record { pin = pin; users = 1 } ∷ older)
    ∙ (ap (λ (xs : List PinEntry). xs ++ map (without_users (pin.stamp ∷ [])) (record { pin = pin; users = 1 } ∷ older)) newer_stay
    ∙ (ap (λ (xs : List PinEntry). newer ++ record { pin = pin; users = 1 - times pin.stamp (pin.stamp ∷ []) } ∷ xs) older_stay
    ∙ ap (λ (n : ℕ). newer ++ record { pin = pin; users = n } ∷ older) own))
  where
    newer : List PinEntry
    newer = filter (λ (e : PinEntry). nat_lt pin.stamp e.pin.stamp) es

    older : List PinEntry
    older = filter (λ (e : PinEntry). nat_lt e.pin.stamp pin.stamp) es

    newer_stay : map (without_users (pin.stamp ∷ [])) newer ≡ newer
    newer_stay = others_stay pin.stamp (λ (e : PinEntry). nat_lt pin.stamp e.pin.stamp) (λ e is. ne_eqb pin.stamp e.pin.stamp (λ same. let less : pin.stamp < e.pin.stamp = grind (arith, nat_tests) in omega (arith, less, same))) es

    older_stay : map (without_users (pin.stamp ∷ [])) older ≡ older
    older_stay = others_stay pin.stamp (λ (e : PinEntry). nat_lt e.pin.stamp pin.stamp) (λ e is. above e.pin.stamp pin.stamp is) es

    own : 1 - times pin.stamp (pin.stamp ∷ []) ≡ 0
    own = let one = times_on pin.stamp pin.stamp [] (eq-eqb pin.stamp pin.stamp refl) in omega (arith, one)

pub unused_entries : (pinned : Pinned) (c mid new : CushionValue) (moment : ℕ) → mid ≡ after_add c pinned → AreGivenBack (pinned.stamp ∷ []) mid new → pinned.moment ≡ moment
    → new.entries ≡ with_entry (record { pin = record { stamp = pinned.stamp; moment = moment }; users = 0 }) c.entries
unused_entries pinned c mid new moment after given at =
    let there : users_of pinned.stamp mid.entries ≡ 1 =
    ap (λ (k : CushionValue). users_of pinned.stamp k.entries) after
    ∙ users_there (record { pin = pin_of pinned; users = 1 }) c.entries (filter (λ (e : PinEntry). nat_lt e.pin.stamp pinned.stamp) c.entries) in
    let is : new ≡ after_give_back mid (pinned.stamp ∷ []) = used_back pinned.stamp mid new given (omega (arith, there)) in
    ap (λ (k : CushionValue). k.entries) is
    ∙ (ap (λ (k : CushionValue). map (without_users (pinned.stamp ∷ [])) k.entries) after
    ∙ (user_back (pin_of pinned) c.entries
    ∙ ap (λ (m : ℕ). with_entry (record { pin = record { stamp = pinned.stamp; moment = m }; users = 0 }) c.entries) at))

-- ---- what comes of a pin

pub has_pinned : (moment : ℕ) (args old : CallerPorts) → old ≡ args → (d : DatabaseValue) (pinned : Pinned) → IsPinnable old.database 0 → d ≡ after_pin old.database moment
    → pinned.stamp ≡ newest d → (added k : CushionValue) → pinned.moment ≡ moment → IsAddable old.cushion pinned.stamp → added ≡ after_add old.cushion pinned
    → AreGivenBack (pinned.stamp ∷ []) added k → HasPinnedNewest moment args pinned.stamp (record old { database = d; cushion = k })
has_pinned moment args old is d pinned could after at added k its addable more given =
    subst (λ (p : CallerPorts). HasPinnedNewest moment p pinned.stamp (record old { database = d; cushion = k })) is (record {
      could = could;
      stamp_is = at;
      addable = addable;
      database = after;
      entries = unused_entries pinned old.cushion added k moment more given its;
      node = refl;
      budget = refl;
    })
