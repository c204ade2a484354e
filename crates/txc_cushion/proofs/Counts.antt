-- Users and pins of one stamp, through each call.
use Rattle.std.proofs.Common.{◌≡◌, ℕ, ◌+◌, ◌-◌, ◌<◌, ◌≤◌, ◌==◌, ◌&&◌, not, Bool, true, false, List, [], ◌∷◌, ◌++◌, length, map, take, get_or, filter, reverse, cond, suc, refl, sym, ◌∙◌, ap, arith, All, Contains, ◌⊎◌, inl, inr, eqb-true, eq-eqb, ne_eqb, zero-add, min, subst}
use Rattle.std.proofs.lemmas.Bool.{cases_order, cases_lt}
use Rattle.std.proofs.lemmas.Bool.Decides.{nat_tests}
use Rattle.std.proofs.lemmas.List.{map-append, reverse-append, length-take, length-map, get_or-map, get_or-take}
use Rattle.std.proofs.lemmas.List.Elements.{All-head, All-tail, All-contains, filter-append}
use Rattle.std.proofs.lemmas.List.Folds.{list_any_at, Any-from_list_any}
use Rattle.std.proofs.lemmas.List.Sums.{sum_by-cons, sum_by-append}
use Rattle.txc_cushion.specs.declared.pin.Pin.{Pin}
use Rattle.txc_cushion.specs.declared.entry.PinEntry.{PinEntry}
use Rattle.txc_cushion.specs.declared.limits.TheConstants.{MAX_HANDED_OUT}
use Rattle.txc_cushion.specs.Pin.{PinsDescend, pin_of}
use Rattle.txc_cushion.specs.Entries.{EntriesDescend, stamps_of, is_pinned, users_of, times, may_be_handed_out, is_among, with_user, without_users, with_entry, is_retirable}
use Rattle.txc_cushion.specs.Cushion.{CushionValue, IsCushion, handed_out}
use Rattle.txc_cushion.specs.Laws.{PinsEachStampOnce, FreshCountsUsers, HandsOutTheNewest, AddCountsOnePin, GiveBackCountsUsers, RetireCountsTheUnused}
use Rattle.txc_cushion.proofs.Falling.{falls_head, falls_tail, falls_filter}
use Rattle.txc_cushion.proofs.HandedOut.{handed_falls, handed_there}
use Rattle.txc_cushion.proofs.Offered.{stays}
use Rattle.txc_cushion.proofs.Adding.{goes_on, stands_first, not_first, not_after}

-- ---- one stamp more in a list

pub times_cons : (t x : ℕ) (xs : List ℕ) → times t (x ∷ xs) ≡ cond (x == t) 1 0 + times t xs
times_cons t x xs = sum_by-cons (λ (s : ℕ). cond (s == t) 1 0) x xs

pub times_on : (t x : ℕ) (xs : List ℕ) → (x == t) ≡ true → times t (x ∷ xs) ≡ 1 + times t xs
times_on t x xs is = times_cons t x xs ∙ rw is refl

pub times_off : (t x : ℕ) (xs : List ℕ) → (x == t) ≡ false → times t (x ∷ xs) ≡ times t xs
times_off t x xs is = times_cons t x xs ∙ rw is (zero-add (times t xs))

-- where each entry is below the stamp, it is not there
none_below : (t : ℕ) (es : List PinEntry) → All (λ o. o.pin.stamp < t) es → (times t (stamps_of es) ≡ 0) × (users_of t es ≡ 0)
none_below t [] below = (refl, refl)
none_below t (e ∷ es) below =
    let here = All-head (λ (o : PinEntry). o.pin.stamp < t) e es below in
    let off : (e.pin.stamp == t) ≡ false = ne_eqb e.pin.stamp t (λ same. omega (arith, here, same)) in
    let rest = none_below t es (All-tail (λ (o : PinEntry). o.pin.stamp < t) e es below) in
    (times_off t e.pin.stamp (stamps_of es) off ∙ rest.0, rw off rest.1)

-- below an entry of this stamp it is not there again
none_after : (t : ℕ) (e : PinEntry) (es : List PinEntry) → EntriesDescend (e ∷ es) → (e.pin.stamp == t) ≡ true → (times t (stamps_of es) ≡ 0) × (users_of t es ≡ 0)
none_after t e es falls here =
    let same : e.pin.stamp ≡ t = eqb-true e.pin.stamp t here in
    none_below t es (rw (← same) (falls_head e es falls))

at_most_once : (t : ℕ) (es : List PinEntry) → EntriesDescend es → (times t (stamps_of es) ≤ 1) × (times t (stamps_of es) ≡ 0 → users_of t es ≡ 0)
at_most_once t [] falls = (omega arith, λ _. refl)
at_most_once t (e ∷ es) falls = go (e.pin.stamp == t) refl (at_most_once t es (falls_tail e es falls))
  where
    go : (b : Bool) → (e.pin.stamp == t) ≡ b → (times t (stamps_of es) ≤ 1) × (times t (stamps_of es) ≡ 0 → users_of t es ≡ 0)
        → (times t (stamps_of (e ∷ es)) ≤ 1) × (times t (stamps_of (e ∷ es)) ≡ 0 → users_of t (e ∷ es) ≡ 0)
    go true is rest =
        let count : times t (stamps_of (e ∷ es)) ≡ 1 + times t (stamps_of es) = times_cons t e.pin.stamp (stamps_of es) ∙ rw is refl in
        let none = none_after t e es falls is in
        (omega (arith, count, none.0), λ zero. absurd (omega (arith, count, zero)))
    go false is rest =
        let count : times t (stamps_of (e ∷ es)) ≡ 0 + times t (stamps_of es) = times_cons t e.pin.stamp (stamps_of es) ∙ rw is refl in
        (let most = rest.0 in omega (arith, count, most), λ zero. rw is (rest.1 (omega (arith, count, zero))))

pub each_once : PinsEachStampOnce
each_once c stamp is = at_most_once stamp c.entries is.falls

-- ---- what is done to each entry alone, and leaves its pin

same_stamps : (f : PinEntry → PinEntry) → ((e : PinEntry) → (f e).pin ≡ e.pin) → (es : List PinEntry) → stamps_of (map f es) ≡ stamps_of es
same_stamps f same [] = refl
same_stamps f same (e ∷ es) =
    ap (λ (s : ℕ). s ∷ stamps_of (map f es)) (ap (λ (p : Pin). p.stamp) (same e)) ∙ ap (λ (l : List ℕ). e.pin.stamp ∷ l) (same_stamps f same es)

-- ---- fresh pins

abbrev one_if : Bool → ℕ
one_if b = cond b 1 0

with_user_same : (pins : List Pin) (e : PinEntry) → (with_user pins e).pin ≡ e.pin
with_user_same pins e = go (is_among e.pin.stamp pins)
  where
    go : (b : Bool) → (cond b (record e { users = e.users + 1 }) e).pin ≡ e.pin
    go true = refl
    go false = refl

with_user_users : (pins : List Pin) (e : PinEntry) → (with_user pins e).users ≡ e.users + one_if (is_among e.pin.stamp pins)
with_user_users pins e = go (is_among e.pin.stamp pins)
  where
    go : (b : Bool) → (cond b (record e { users = e.users + 1 }) e).users ≡ e.users + one_if b
    go true = refl
    go false = omega arith

users_with : (t : ℕ) (pins : List Pin) (es : List PinEntry) → users_of t (map (with_user pins) es) ≡ users_of t es + one_if (is_pinned t es && is_among t pins)
users_with t pins [] = refl
users_with t pins (e ∷ es) = go (e.pin.stamp == t) refl (users_with t pins es)
  where
    pin_same : (with_user pins e).pin.stamp ≡ e.pin.stamp
    pin_same = ap (λ (p : Pin). p.stamp) (with_user_same pins e)

    go : (b : Bool) → (e.pin.stamp == t) ≡ b → users_of t (map (with_user pins) es) ≡ users_of t es + one_if (is_pinned t es && is_among t pins)
        → users_of t (map (with_user pins) (e ∷ es)) ≡ users_of t (e ∷ es) + one_if (is_pinned t (e ∷ es) && is_among t pins)
    go true is rest =
        let same : e.pin.stamp ≡ t = eqb-true e.pin.stamp t is in
        rw (pin_same, is) (with_user_users pins e ∙ ap (λ (s : ℕ). e.users + one_if (is_among s pins)) same)
    go false is rest = rw (pin_same, is) rest

-- of pins that fall, a stamp is among them at most once
among_times : (t : ℕ) (pins : List Pin) → PinsDescend pins → times t (map (λ p. p.stamp) pins) ≡ one_if (is_among t pins)
among_times t [] falls = refl
among_times t (p ∷ ps) falls = go (p.stamp == t) refl (among_times t ps (λ i j d less below. falls (suc i) (suc j) d (omega (arith, less)) (omega (arith, below))))
  where
    none : (qs : List Pin) → All (λ q. q.stamp < t) qs → times t (map (λ q. q.stamp) qs) ≡ 0
    none [] below = refl
    none (q ∷ qs) below =
        let here = All-head (λ (o : Pin). o.stamp < t) q qs below in
        let off : (q.stamp == t) ≡ false = ne_eqb q.stamp t (λ same. omega (arith, here, same)) in
        times_off t q.stamp (map (λ (o : Pin). o.stamp) qs) off ∙ (none qs (All-tail (λ (o : Pin). o.stamp < t) q qs below))

    go : (b : Bool) → (p.stamp == t) ≡ b → times t (map (λ q. q.stamp) ps) ≡ one_if (is_among t ps)
        → times t (map (λ q. q.stamp) (p ∷ ps)) ≡ one_if (is_among t (p ∷ ps))
    go true is rest =
        let same : p.stamp ≡ t = eqb-true p.stamp t is in
        let below : All (λ (q : Pin). q.stamp < p.stamp) ps = λ k d within. falls 0 (suc k) d (omega arith) (omega (arith, within)) in
        times_on t p.stamp (map (λ (q : Pin). q.stamp) ps) is ∙ (ap (λ (n : ℕ). 1 + n) (none ps (rw (← same) below)) ∙ rw is refl)
    go false is rest = times_off t p.stamp (map (λ (q : Pin). q.stamp) ps) is ∙ (rest ∙ rw is refl)

one_of_both : (x y : Bool) → (y ≡ true → x ≡ true) → one_if (x && y) ≡ one_if y
one_of_both true y there = refl
one_of_both false true there = absurd (let h = there refl in cc)
one_of_both false false there = refl

-- a stamp that is handed out is pinned
among_is_pinned : (c : CushionValue) (now staleness at_least t : ℕ) → IsCushion c → is_among t (handed_out c now staleness at_least) ≡ true → is_pinned t c.entries ≡ true
among_is_pinned c now staleness at_least t is among = found (Any-from_list_any (λ (p : Pin). p.stamp == t) (handed_out c now staleness at_least) among)
  where
    found : (k : ℕ) × (p : Pin) × (k < length (handed_out c now staleness at_least)) × (get_or (handed_out c now staleness at_least) k p ≡ p) × ((p.stamp == t) ≡ true) → is_pinned t c.entries ≡ true
    found (k, p, below, at, same) = from (All-contains (λ (q : Pin). (f : PinEntry) × Contains c.entries f × (f.pin ≡ q)) (handed_out c now staleness at_least) p (handed_there c now staleness at_least is) (k, below, at))
      where
        from : (f : PinEntry) × Contains c.entries f × (f.pin ≡ p) → is_pinned t c.entries ≡ true
        from (f, (i, i_below, i_at), pin) =
            let passes : ((get_or c.entries i f).pin.stamp == t) ≡ true = rw (i_at, pin) same in
            list_any_at (λ (e : PinEntry). e.pin.stamp == t) c.entries i f i_below passes

pub fresh_counts : FreshCountsUsers
fresh_counts c now staleness at_least t is =
    let pins = handed_out c now staleness at_least in
    let users = users_with t pins c.entries in
    let both = one_of_both (is_pinned t c.entries) (is_among t pins) (among_is_pinned c now staleness at_least t is) in
    let once = among_times t pins (handed_falls c now staleness at_least is) in
    record {
      users = omega (arith, users, both, once);
      stamps = same_stamps (with_user pins) (with_user_same pins) c.entries;
    }

-- ---- the newest

module _ (c : CushionValue) (now staleness at_least : ℕ) (is : IsCushion c) where
  abbrev fresh_entries : List PinEntry
  fresh_entries = filter (may_be_handed_out now staleness at_least) c.entries

  -- a pin that is handed out is that of the fresh entry at its place
  handed_at : (i : ℕ) (d : Pin) (e : PinEntry) → i < MAX_HANDED_OUT → i < length fresh_entries
      → get_or (handed_out c now staleness at_least) i d ≡ (get_or fresh_entries i e).pin
  handed_at i d e few below =
      let short = length-take MAX_HANDED_OUT fresh_entries in
      get_or-map (λ (o : PinEntry). o.pin) (take MAX_HANDED_OUT fresh_entries) i e d (omega (arith, short, few, below))
      ∙ ap (λ (o : PinEntry). o.pin) (get_or-take MAX_HANDED_OUT fresh_entries i e few)

  handed_long : length (handed_out c now staleness at_least) ≡ min MAX_HANDED_OUT (length fresh_entries)
  handed_long = length-map (take MAX_HANDED_OUT fresh_entries) (λ (o : PinEntry). o.pin) ∙ length-take MAX_HANDED_OUT fresh_entries

  newest_by_place : (e : PinEntry) → Contains fresh_entries e → is_among e.pin.stamp (handed_out c now staleness at_least) ≡ false
      → (length (handed_out c now staleness at_least) ≡ MAX_HANDED_OUT) × All (λ p. e.pin.stamp < p.stamp) (handed_out c now staleness at_least)
  newest_by_place e (k, below, at) absent = go (cases_lt k MAX_HANDED_OUT)
    where
      go : (k < MAX_HANDED_OUT) ⊎ (MAX_HANDED_OUT ≤ k)
          → (length (handed_out c now staleness at_least) ≡ MAX_HANDED_OUT) × All (λ p. e.pin.stamp < p.stamp) (handed_out c now staleness at_least)
      go (inl few) =
          let here : (get_or (handed_out c now staleness at_least) k e.pin).stamp ≡ e.pin.stamp = ap (λ (p : Pin). p.stamp) (handed_at k e.pin e few below) ∙ ap (λ (o : PinEntry). o.pin.stamp) at in
          let among : is_among e.pin.stamp (handed_out c now staleness at_least) ≡ true =
          list_any_at (λ (p : Pin). p.stamp == e.pin.stamp) (handed_out c now staleness at_least) k e.pin (omega (arith, handed_long, few, below)) (eq-eqb _ _ here)
          in
          absurd (cc)
      go (inr many) = (
        omega (arith, handed_long, many, below),
        λ i d within.
            let few : i < MAX_HANDED_OUT = omega (arith, handed_long, within) in
            let less = falls_filter (may_be_handed_out now staleness at_least) c.entries is.falls i k e (omega (arith, few, many)) below in
            rw (handed_at i d e few (omega (arith, handed_long, within))) (omega (arith, less, ap (λ (o : PinEntry). o.pin.stamp) at)),
      )

pub hands_out_newest : HandsOutTheNewest
hands_out_newest c now staleness at_least e is there may absent =
    newest_by_place c now staleness at_least is e (stays (may_be_handed_out now staleness at_least) c.entries e there may) absent

-- ---- a pin more

absent_none : (t : ℕ) (es : List PinEntry) → is_pinned t es ≡ false → users_of t es ≡ 0
absent_none t [] absent = refl
absent_none t (e ∷ es) absent = go (e.pin.stamp == t) refl (absent_none t es (not_after t e es absent))
  where
    go : (b : Bool) → (e.pin.stamp == t) ≡ b → users_of t es ≡ 0 → users_of t (e ∷ es) ≡ 0
    go true is rest = absurd (not_first t e es absent (eqb-true e.pin.stamp t is))
    go false is rest = rw is rest

users_added : (t : ℕ) (new : PinEntry) (es : List PinEntry) → EntriesDescend es → is_pinned new.pin.stamp es ≡ false
    → users_of t (with_entry new es) ≡ users_of t es + cond (new.pin.stamp == t) new.users 0
users_added t new [] falls absent = sym (zero-add (cond (new.pin.stamp == t) new.users 0))
users_added t new (e ∷ es) falls absent = go (cases_order new.pin.stamp e.pin.stamp) (users_added t new es (falls_tail e es falls) (not_after new.pin.stamp e es absent))
  where
    first : new.pin.stamp < e.pin.stamp → (b : Bool) → (e.pin.stamp == t) ≡ b → users_of t (with_entry new es) ≡ users_of t es + cond (new.pin.stamp == t) new.users 0
        → users_of t (e ∷ with_entry new es) ≡ users_of t (e ∷ es) + cond (new.pin.stamp == t) new.users 0
    first less true is rest =
        let same = eqb-true e.pin.stamp t is in
        let off : (new.pin.stamp == t) ≡ false = ne_eqb new.pin.stamp t (λ eq. omega (arith, eq, same, less)) in
        rw (is, off) (omega arith)
    first less false is rest = rw is rest

    before : (b : Bool) → (new.pin.stamp == t) ≡ b → users_of t (new ∷ e ∷ es) ≡ users_of t (e ∷ es) + cond (new.pin.stamp == t) new.users 0
    before true is =
        let none : users_of t (e ∷ es) ≡ 0 = subst (λ (n : ℕ). users_of n (e ∷ es) ≡ 0) (eqb-true new.pin.stamp t is) (absent_none new.pin.stamp (e ∷ es) absent) in
        rw is (omega (arith, none))
    before false is = rw is (omega arith)

    go : (new.pin.stamp ≡ e.pin.stamp) ⊎ ((new.pin.stamp < e.pin.stamp) ⊎ (e.pin.stamp < new.pin.stamp))
        → users_of t (with_entry new es) ≡ users_of t es + cond (new.pin.stamp == t) new.users 0
        → users_of t (with_entry new (e ∷ es)) ≡ users_of t (e ∷ es) + cond (new.pin.stamp == t) new.users 0
    go (inl same) rest = absurd (not_first new.pin.stamp e es absent (sym same))
    go (inr (inl less)) rest = ap (users_of t) (goes_on new e es less) ∙ first less (e.pin.stamp == t) refl rest
    go (inr (inr less)) rest = ap (users_of t) (stands_first new e es falls less) ∙ before (new.pin.stamp == t) refl

stamps_added : (t : ℕ) (new : PinEntry) (es : List PinEntry) → EntriesDescend es → is_pinned new.pin.stamp es ≡ false
    → times t (stamps_of (with_entry new es)) ≡ times t (stamps_of es) + cond (new.pin.stamp == t) 1 0
stamps_added t new [] falls absent = let count = times_cons t new.pin.stamp [] in omega (arith, count)
stamps_added t new (e ∷ es) falls absent = go (cases_order new.pin.stamp e.pin.stamp) (stamps_added t new es (falls_tail e es falls) (not_after new.pin.stamp e es absent))
  where
    go : (new.pin.stamp ≡ e.pin.stamp) ⊎ ((new.pin.stamp < e.pin.stamp) ⊎ (e.pin.stamp < new.pin.stamp))
        → times t (stamps_of (with_entry new es)) ≡ times t (stamps_of es) + cond (new.pin.stamp == t) 1 0
        → times t (stamps_of (with_entry new (e ∷ es))) ≡ times t (stamps_of (e ∷ es)) + cond (new.pin.stamp == t) 1 0
    go (inl same) rest = absurd (not_first new.pin.stamp e es absent (sym same))
    go (inr (inl less)) rest =
        let list = ap (λ (l : List PinEntry). times t (stamps_of l)) (goes_on new e es less) in
        let one = times_cons t e.pin.stamp (stamps_of (with_entry new es)) in
        let other = times_cons t e.pin.stamp (stamps_of es) in
        omega (arith, list, one, other, rest)
    go (inr (inr less)) rest =
        let list = ap (λ (l : List PinEntry). times t (stamps_of l)) (stands_first new e es falls less) in
        let one = times_cons t new.pin.stamp (stamps_of (e ∷ es)) in
        omega (arith, list, one)

pub add_counts : AddCountsOnePin
add_counts c pinned t is addable = record {
  users = users_added t (record { pin = pin_of pinned; users = 1 }) c.entries is.falls addable.absent;
  stamps = stamps_added t (record { pin = pin_of pinned; users = 1 }) c.entries is.falls addable.absent;
}

-- ---- users given back

users_without : (t : ℕ) (stamps : List ℕ) (es : List PinEntry) → users_of t (map (without_users stamps) es) ≡ users_of t es - times t stamps
users_without t stamps [] = omega arith
users_without t stamps (e ∷ es) = go (e.pin.stamp == t) refl (users_without t stamps es)
  where
    go : (b : Bool) → (e.pin.stamp == t) ≡ b → users_of t (map (without_users stamps) es) ≡ users_of t es - times t stamps
        → users_of t (map (without_users stamps) (e ∷ es)) ≡ users_of t (e ∷ es) - times t stamps
    go true is rest = rw is (ap (λ (s : ℕ). e.users - times s stamps) (eqb-true e.pin.stamp t is))
    go false is rest = rw is rest

pub give_back_counts : GiveBackCountsUsers
give_back_counts c stamps t have = record {
  users = let left = users_without t stamps c.entries in let enough = have t in omega (arith, left, enough);
  stamps = same_stamps (without_users stamps) (λ _. refl) c.entries;
}

-- ---- pins taken out

module _ (t : ℕ) (p : PinEntry → Bool) where
  -- the stamps of two parts that pass
  passed_append : (xs ys : List PinEntry) → times t (stamps_of (filter p (xs ++ ys))) ≡ times t (stamps_of (filter p xs)) + times t (stamps_of (filter p ys))
  passed_append xs ys =
      ap (λ (l : List PinEntry). times t (stamps_of l)) (filter-append p xs ys)
      ∙ (ap (λ (l : List ℕ). times t l) (map-append (λ (e : PinEntry). e.pin.stamp) (filter p xs) (filter p ys))
      ∙ sum_by-append (λ (s : ℕ). cond (s == t) 1 0) (stamps_of (filter p xs)) (stamps_of (filter p ys)))

  passed_reverse : (es : List PinEntry) → times t (stamps_of (filter p (reverse es))) ≡ times t (stamps_of (filter p es))
  passed_reverse [] = refl
  passed_reverse (e ∷ es) =
      let turned = ap (λ (l : List PinEntry). times t (stamps_of (filter p l))) (reverse-append (e ∷ []) es) in
      let apart = passed_append (reverse es) (e ∷ []) in
      let joined = passed_append (e ∷ []) es in
      let rest = passed_reverse es in
      omega (arith, turned, apart, joined, rest)

  -- those that pass and those that don't are all
  passed_both : (es : List PinEntry) → times t (stamps_of (filter (λ e. not (p e)) es)) + times t (stamps_of (filter p es)) ≡ times t (stamps_of es)
  passed_both [] = refl
  passed_both (e ∷ es) = go (p e) refl (passed_both es)
    where
      go : (b : Bool) → p e ≡ b → times t (stamps_of (filter (λ o. not (p o)) es)) + times t (stamps_of (filter p es)) ≡ times t (stamps_of es)
          → times t (stamps_of (filter (λ o. not (p o)) (e ∷ es))) + times t (stamps_of (filter p (e ∷ es))) ≡ times t (stamps_of (e ∷ es))
      go true is rest =
          let all = times_cons t e.pin.stamp (stamps_of es) in
          let passed = times_cons t e.pin.stamp (stamps_of (filter p es)) in
          rw is (omega (arith, all, passed, rest))
      go false is rest =
          let all = times_cons t e.pin.stamp (stamps_of es) in
          let left = times_cons t e.pin.stamp (stamps_of (filter (λ (o : PinEntry). not (p o)) es)) in
          rw is (omega (arith, all, left, rest))

module _ (t now age : ℕ) where
  abbrev goes : PinEntry → Bool
  goes e = is_retirable now age e

  goes_unused : (e : PinEntry) → goes e ≡ true → e.users ≡ 0
  goes_unused e is = grind (arith, nat_tests)

  users_left : (es : List PinEntry) → EntriesDescend es → users_of t (filter (λ e. not (goes e)) es) ≡ users_of t es
  users_left [] falls = refl
  users_left (e ∷ es) falls = go (goes e) refl (e.pin.stamp == t) refl (users_left es (falls_tail e es falls))
    where
      go : (b : Bool) → goes e ≡ b → (s : Bool) → (e.pin.stamp == t) ≡ s → users_of t (filter (λ o. not (goes o)) es) ≡ users_of t es
          → users_of t (filter (λ o. not (goes o)) (e ∷ es)) ≡ users_of t (e ∷ es)
      go true is true here rest = rw (is, here) (rest ∙ ((none_after t e es falls here).1 ∙ sym (goes_unused e is)))
      go true is false here rest = rw (is, here) rest
      go false is true here rest = rw (is, here) refl
      go false is false here rest = rw (is, here) rest

  unused_if_gone : (es : List PinEntry) → EntriesDescend es → 0 < times t (stamps_of (filter goes es)) → users_of t es ≡ 0
  unused_if_gone [] falls some = refl
  unused_if_gone (e ∷ es) falls some = go (goes e) refl (e.pin.stamp == t) refl (unused_if_gone es (falls_tail e es falls))
    where
      go : (b : Bool) → goes e ≡ b → (s : Bool) → (e.pin.stamp == t) ≡ s → (0 < times t (stamps_of (filter goes es)) → users_of t es ≡ 0) → users_of t (e ∷ es) ≡ 0
      go true is true here rest = rw here (goes_unused e is)
      go true is false here rest =
          let some' : 0 < times t (stamps_of (e ∷ filter goes es)) = rw is at some in
          let off = times_off t e.pin.stamp (stamps_of (filter goes es)) here in
          rw here (rest (omega (arith, some', off)))
      go false is true here rest =
          let some' : 0 < times t (stamps_of (filter goes es)) = rw is at some in
          let none = (none_after t e es falls here).0 in
          let both = passed_both t goes es in
          absurd (omega (arith, some', none, both))
      go false is false here rest =
          let some' : 0 < times t (stamps_of (filter goes es)) = rw is at some in
          rw here (rest some')

pub retire_counts : RetireCountsTheUnused
retire_counts c now age t is =
    let turned = passed_reverse t (is_retirable now age) c.entries in
    record {
      stamps = let both = passed_both t (is_retirable now age) c.entries in omega (arith, both, turned);
      users = users_left t now age c.entries is.falls;
      unused = λ some. unused_if_gone t now age c.entries is.falls (omega (arith, some, turned));
    }
