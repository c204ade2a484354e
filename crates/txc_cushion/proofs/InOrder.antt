-- Stamps that stand among those of entries in their order.
use Rattle.std.proofs.Common.{◌≡◌, ◌∙◌, ℕ, ◌+◌, ◌-◌, ◌<◌, ◌≤◌, ◌==◌, ◌&&◌, Bool, true, false, List, [], ◌∷◌, ◌++◌, length, map, set, take, drop, get_or, cond, nat_lt, suc, refl, sym, subst, ap, arith, All, eqb-true, eq-eqb, ne_eqb}
use Rattle.std.proofs.lemmas.Bool.Decides.{nat_tests}
use Rattle.std.proofs.lemmas.List.{drop_all, drop_more, get_or-drop, length-drop, set-get_or}
use Rattle.std.proofs.lemmas.List.Edits.{map_over_more}
use Rattle.std.proofs.lemmas.Bool.{and_parts}
use Rattle.txc_cushion.specs.declared.entry.PinEntry.{PinEntry}
use Rattle.txc_cushion.specs.Entries.{EntriesDescend, stand_in_order, times, users_of, without_users}
use Rattle.txc_cushion.specs.Refusals.{HaveUsers}
use Rattle.txc_cushion.proofs.Falling.{falls_head, falls_tail}
use Rattle.txc_cushion.proofs.HandingOut.{not_yet}
use Rattle.txc_cushion.proofs.Counts.{times_on, times_off}

-- a stamp above those of the entries is not named
pub not_named : (x : ℕ) (es : List PinEntry) (ss : List ℕ) → All (λ o. o.pin.stamp < x) es → stand_in_order es ss ≡ true → times x ss ≡ 0
not_named x es [] below order = refl
not_named x [] (s ∷ ss) below order = absurd (cc)
not_named x (e ∷ es) (s ∷ ss) below order =
    go (e.pin.stamp == s) refl
    (not_named x es ss (λ k d within. below (suc k) d (omega (arith, within))))
    (not_named x es (s ∷ ss) (λ k d within. below (suc k) d (omega (arith, within))))
  where
    go : (b : Bool) → (e.pin.stamp == s) ≡ b → (stand_in_order es ss ≡ true → times x ss ≡ 0) → (stand_in_order es (s ∷ ss) ≡ true → times x (s ∷ ss) ≡ 0) → times x (s ∷ ss) ≡ 0
    go true is next later =
        let order' : nat_lt 0 e.users && stand_in_order es ss ≡ true = rw is at order in
        let same : e.pin.stamp ≡ s = eqb-true e.pin.stamp s is in
        let less : e.pin.stamp < x = below 0 e (omega arith) in
        let off : (s == x) ≡ false = ne_eqb s x (λ eq. omega (arith, less, same, eq)) in
        times_off x s ss off ∙ next (and_parts (nat_lt 0 e.users) (stand_in_order es ss) order').1
    go false is next later = later (rw is at order)

-- such stamps have as many users as they are named
pub have_in_order : (es : List PinEntry) (ss : List ℕ) → EntriesDescend es → stand_in_order es ss ≡ true → HaveUsers es ss
have_in_order es [] falls order = λ x. omega arith
have_in_order [] (s ∷ ss) falls order = absurd (cc)
have_in_order (e ∷ es) (s ∷ ss) falls order =
    go (e.pin.stamp == s) refl (have_in_order es ss (falls_tail e es falls)) (have_in_order es (s ∷ ss) (falls_tail e es falls))
  where
    first : (stand_in_order es ss ≡ true → HaveUsers es ss) → (e.pin.stamp == s) ≡ true → (nat_lt 0 e.users ≡ true) × (stand_in_order es ss ≡ true)
        → (x : ℕ) (b : Bool) → (e.pin.stamp == x) ≡ b → times x (s ∷ ss) ≤ users_of x (e ∷ es)
    first next is parts x true at =
        let same : e.pin.stamp ≡ s = eqb-true e.pin.stamp s is in
        let eq : e.pin.stamp ≡ x = eqb-true e.pin.stamp x at in
        let named = times_on x s ss (eq-eqb s x (sym same ∙ eq)) in
        let none : times x ss ≡ 0 = subst (λ (t : ℕ). times t ss ≡ 0) eq (not_named e.pin.stamp es ss (falls_head e es falls) parts.1) in
        let some : nat_lt 0 e.users ≡ true = parts.0 in
        let room : 0 < e.users = grind (arith, nat_tests) in
        rw at (omega (arith, named, none, room))
    first next is parts x false at =
        let off : (s == x) ≡ false = subst (λ (t : ℕ). (t == x) ≡ false) (eqb-true e.pin.stamp s is) at in
        let named = times_off x s ss off in
        let have = next parts.1 x in
        rw at (omega (arith, named, have))

    other : (stand_in_order es (s ∷ ss) ≡ true → HaveUsers es (s ∷ ss)) → stand_in_order es (s ∷ ss) ≡ true
        → (x : ℕ) (b : Bool) → (e.pin.stamp == x) ≡ b → times x (s ∷ ss) ≤ users_of x (e ∷ es)
    other later order' x true at =
        let eq : e.pin.stamp ≡ x = eqb-true e.pin.stamp x at in
        let none : times x (s ∷ ss) ≡ 0 = subst (λ (t : ℕ). times t (s ∷ ss) ≡ 0) eq (not_named e.pin.stamp es (s ∷ ss) (falls_head e es falls) order') in
        omega (arith, none)
    other later order' x false at = rw at (later order' x)

    go : (b : Bool) → (e.pin.stamp == s) ≡ b → (stand_in_order es ss ≡ true → HaveUsers es ss) → (stand_in_order es (s ∷ ss) ≡ true → HaveUsers es (s ∷ ss)) → HaveUsers (e ∷ es) (s ∷ ss)
    go true is next later = λ x. first next is (and_parts (nat_lt 0 e.users) (stand_in_order es ss) (rw is at order)) x (e.pin.stamp == x) refl
    go false is next later = λ x. other later (rw is at order) x (e.pin.stamp == x) refl

-- once there is no entry more, the stamps stand so where all of them were found
pub found_all : (ss : List ℕ) (n : ℕ) → n ≤ length ss → stand_in_order [] (drop n ss) ≡ (n == length ss)
found_all ss n within = go (n == length ss) refl
  where
    go : (b : Bool) → (n == length ss) ≡ b → stand_in_order [] (drop n ss) ≡ b
    go true is =
        let all : n ≡ length ss = eqb-true n (length ss) is in
        rw (drop_all n ss (omega (arith, all))) refl
    go false is =
        let less : n < length ss = grind (arith, nat_tests) in
        rw (drop_more ss n 0 less) refl

-- ---- one stamp after the other

-- the first entry's stamp is the first that is named: it has a user, is named once, and the others go on without it
named_first : (e : PinEntry) (es : List PinEntry) (ss : List ℕ) → EntriesDescend (e ∷ es) → stand_in_order (e ∷ es) (e.pin.stamp ∷ ss) ≡ true
    → (0 < e.users) × (times e.pin.stamp (e.pin.stamp ∷ ss) ≡ 1) × (stand_in_order es ss ≡ true) × All (λ o. times o.pin.stamp (e.pin.stamp ∷ ss) ≡ times o.pin.stamp ss) es
named_first e es ss falls order =
    let itself : (e.pin.stamp == e.pin.stamp) ≡ true = eq-eqb e.pin.stamp e.pin.stamp refl in
    let order' : nat_lt 0 e.users && stand_in_order es ss ≡ true = rw itself at order in
    let parts = and_parts (nat_lt 0 e.users) (stand_in_order es ss) order' in
    let some : nat_lt 0 e.users ≡ true = parts.0 in
    let none : times e.pin.stamp ss ≡ 0 = not_named e.pin.stamp es ss (falls_head e es falls) parts.1 in (
      grind (arith, nat_tests),
      omega (arith, times_on e.pin.stamp e.pin.stamp ss itself, none),
      parts.1,
      (λ k d within.
          let less : (get_or es k d).pin.stamp < e.pin.stamp = falls_head e es falls k d within in
          times_off (get_or es k d).pin.stamp e.pin.stamp ss (ne_eqb e.pin.stamp (get_or es k d).pin.stamp (λ eq. omega (arith, less, eq)))),
    )

-- the first entry's stamp isn't the first that is named: it is not named, and the stamps stand among the others
not_named_first : (e : PinEntry) (es : List PinEntry) (ss : List ℕ) → EntriesDescend (e ∷ es) → stand_in_order (e ∷ es) ss ≡ true
    → ((s : ℕ) (rest : List ℕ) → ss ≡ s ∷ rest → e.pin.stamp ≡ s → ⊥) → (times e.pin.stamp ss ≡ 0) × (stand_in_order es ss ≡ true)
not_named_first e es [] falls order other = (refl, refl)
not_named_first e es (s ∷ ss) falls order other =
    let off : (e.pin.stamp == s) ≡ false = ne_eqb e.pin.stamp s (other s ss refl) in
    let order' : stand_in_order es (s ∷ ss) ≡ true = rw off at order in
    (not_named e.pin.stamp es (s ∷ ss) (falls_head e es falls) order', order')

-- ---- a pass over the entries

falls_drop : (n : ℕ) (es : List PinEntry) → EntriesDescend es → EntriesDescend (drop n es)
falls_drop n es falls = λ i j d less below.
    let long = length-drop n es in
    rw (get_or-drop n es i d, get_or-drop n es j d) (falls (n + i) (n + j) d (omega (arith, less)) (omega (arith, below, long)))

-- the first of those that are left
first_left : (ss : List ℕ) (n s : ℕ) (rest : List ℕ) → drop n ss ≡ s ∷ rest → (n < length ss) × (get_or ss n 0 ≡ s)
first_left ss n s rest is =
    let long = length-drop n ss in
    let some : length (drop n ss) ≡ length rest + 1 = ap length is ∙ omega arith in (
      omega (arith, long, some),
      ap (λ (k : ℕ). get_or ss k 0) (omega arith) ∙ (sym (get_or-drop n ss 0 0) ∙ ap (λ (l : List ℕ). get_or l 0 0) is),
    )

-- what a pass over the first entries, which has found so many stamps, has left
abbrev pub Passed : List PinEntry → List ℕ → List PinEntry → ℕ → ℕ → Type 0
Passed es ss now i n = (now ≡ map (without_users ss) (take i es) ++ drop i es)
    × (stand_in_order (drop i es) (drop n ss) ≡ true)
    × All (λ (e : PinEntry). times e.pin.stamp ss ≡ times e.pin.stamp (drop n ss)) (drop i es)
    × (n ≤ length ss)

module _ (es now : List PinEntry) (ss : List ℕ) (i n : ℕ) (x : PinEntry) (falls : EntriesDescend es) (within : i < length es) where
  here : now ≡ map (without_users ss) (take i es) ++ drop i es → x ≡ get_or now i x → drop i es ≡ x ∷ drop (i + 1) es
  here so_far is = drop_more es i x within ∙ ap (λ (y : PinEntry). y ∷ drop (i + 1) es) (sym (not_yet (without_users ss) es now i x within so_far is))

  -- the entry is the next that is named
  pub passed_named : Passed es ss now i n → x ≡ get_or now i x → n < length ss → x.pin.stamp ≡ get_or ss n 0
      → (0 < x.users) × Passed es ss (set now i (record x { users = x.users - 1 })) (i + 1) (n + 1)
  passed_named (so_far, order, same, short) is less named =
      let at = here so_far is in
      let rest : drop n ss ≡ x.pin.stamp ∷ drop (n + 1) ss = drop_more ss n 0 less ∙ ap (λ (s : ℕ). s ∷ drop (n + 1) ss) (sym named) in
      let falls' : EntriesDescend (x ∷ drop (i + 1) es) = subst EntriesDescend at (falls_drop i es falls) in
      let order' : stand_in_order (x ∷ drop (i + 1) es) (x.pin.stamp ∷ drop (n + 1) ss) ≡ true = rw (at, rest) at order in
      let same' : All (λ (e : PinEntry). times e.pin.stamp ss ≡ times e.pin.stamp (x.pin.stamp ∷ drop (n + 1) ss)) (x ∷ drop (i + 1) es) = rw (at, rest) at same in
      let first = named_first x (drop (i + 1) es) (drop (n + 1) ss) falls' order' in
      let once : times x.pin.stamp ss ≡ 1 = same' 0 x (omega arith) ∙ first.1 in
      let new : record x { users = x.users - 1 } ≡ without_users ss x = ap (λ (k : ℕ). record x { users = x.users - k }) (sym once) in (
        first.0,
        (
          ap (λ (y : PinEntry). set now i y) new ∙ map_over_more (without_users ss) es now i x within so_far is,
          first.2,
          (λ k d below. same' (suc k) d (omega (arith, below)) ∙ first.3 k d below),
          omega (arith, less),
        ),
      )

  -- it is not
  pub passed_other : Passed es ss now i n → x ≡ get_or now i x → (n < length ss → x.pin.stamp ≡ get_or ss n 0 → ⊥) → Passed es ss now (i + 1) n
  passed_other (so_far, order, same, short) is other =
      let at = here so_far is in
      let falls' : EntriesDescend (x ∷ drop (i + 1) es) = subst EntriesDescend at (falls_drop i es falls) in
      let order' : stand_in_order (x ∷ drop (i + 1) es) (drop n ss) ≡ true = rw at at order in
      let same' : All (λ (e : PinEntry). times e.pin.stamp ss ≡ times e.pin.stamp (drop n ss)) (x ∷ drop (i + 1) es) = rw at at same in
      let not = not_named_first x (drop (i + 1) es) (drop n ss) falls' order' (λ s rest eq same_stamp. let first = first_left ss n s rest eq in other first.0 (same_stamp ∙ sym first.1)) in
      let none : times x.pin.stamp ss ≡ 0 = same' 0 x (omega arith) ∙ not.0 in
      let less : x.users ≡ x.users - times x.pin.stamp ss = omega (arith, none) in
      let new : x ≡ without_users ss x = ap (λ (k : ℕ). record x { users = k }) less in (
        sym (set-get_or now i x) ∙ (ap (λ (y : PinEntry). set now i y) (sym is ∙ new) ∙ map_over_more (without_users ss) es now i x within so_far is),
        not.1,
        (λ k d below. same' (suc k) d (omega (arith, below))),
        short,
      )

  abbrev is_next : Bool
  is_next = nat_lt n (length ss) && (x.pin.stamp == get_or ss n 0)

  next_is : is_next ≡ true → (n < length ss) × (x.pin.stamp ≡ get_or ss n 0)
  next_is is =
      let parts = and_parts (nat_lt n (length ss)) (x.pin.stamp == get_or ss n 0) is in
      let less : nat_lt n (length ss) ≡ true = parts.0 in
      (grind (arith, nat_tests), eqb-true x.pin.stamp (get_or ss n 0) parts.1)

  next_is_not : is_next ≡ false → n < length ss → x.pin.stamp ≡ get_or ss n 0 → ⊥
  next_is_not is less same =
      let one : nat_lt n (length ss) ≡ true = grind (arith, nat_tests) in
      let two : (x.pin.stamp == get_or ss n 0) ≡ true = eq-eqb x.pin.stamp (get_or ss n 0) same in
      let none : true ≡ false = rw (one, two) at is in
      absurd (cc)

  -- an entry that is the next has a user
  pub next_has_user : Passed es ss now i n → x ≡ get_or now i x → is_next ≡ true → 0 < x.users
  next_has_user passed at is = let named = next_is is in (passed_named passed at named.0 named.1).0

  -- the pass goes on, whichever entry it is
  pub passed_next : Passed es ss now i n → x ≡ get_or now i x
      → Passed es ss (set now i (cond is_next (record x { users = x.users - 1 }) x)) (i + 1) (cond is_next (n + 1) n)
  passed_next passed at = go is_next refl
    where
      go : (b : Bool) → is_next ≡ b → Passed es ss (set now i (cond b (record x { users = x.users - 1 }) x)) (i + 1) (cond b (n + 1) n)
      go true is = let named = next_is is in (passed_named passed at named.0 named.1).1
      go false is =
          let same : set now i x ≡ now = ap (λ (y : PinEntry). set now i y) at ∙ set-get_or now i x in
          rw same (passed_other passed at (next_is_not is))
