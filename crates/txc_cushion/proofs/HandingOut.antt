-- Handing out in one pass: what is handed out of the first entries.
use Rattle.std.proofs.Common.{◌≡◌, ◌∙◌, ℕ, ◌+◌, ◌-◌, ◌<◌, ◌≤◌, ◌==◌, ◌&&◌, Bool, true, false, List, [], ◌∷◌, ◌++◌, length, map, take, drop, get_or, filter, cond, nat_lt, zero, suc, refl, sym, subst, ap, arith, All, eq-eqb, ne_eqb}
use Rattle.std.proofs.lemmas.Bool.Decides.{nat_tests}
use Rattle.std.proofs.lemmas.List.{take_all, take-append-le, drop_all, length-map, length-take, length-append, append-nil, map-append, get_or-append_right, get_or-drop}
use Rattle.std.proofs.lemmas.List.Elements.{All-map, All-take, All-filter, All-weaker, filter_more}
use Rattle.std.proofs.lemmas.List.Folds.{list_any_none}
use Rattle.txc_cushion.specs.declared.pin.Pin.{Pin}
use Rattle.txc_cushion.specs.declared.entry.PinEntry.{PinEntry}
use Rattle.txc_cushion.specs.Entries.{EntriesDescend, pins_of, is_among, with_user}
use Rattle.txc_cushion.proofs.Falling.{falls_head, falls_tail}

-- what stands at a place to which a loop over the elements has not come
pub not_yet : {X : Type 0} (f : X → X) (xs ys : List X) (i : ℕ) (x : X) → i < length xs → ys ≡ map f (take i xs) ++ drop i xs → x ≡ get_or ys i x → x ≡ get_or xs i x
not_yet f xs ys i x within now is =
    let long : length (map f (take i xs)) ≡ i = length-map (take i xs) f ∙ omega (arith, length-take i xs, within) in
    let here : i + (i - i) ≡ i = omega arith in
    is ∙ ap (λ l. get_or l i x) now ∙ get_or-append_right (map f (take i xs)) (drop i xs) i i x long (omega arith) ∙ get_or-drop i xs (i - i) x ∙ ap (λ k. get_or xs k x) here

-- what is written back of all elements
pub whole_again : {X : Type 0} (n : ℕ) (xs new : List X) → length new ≡ n → length xs ≡ n → take n (new ++ drop (length new) xs) ≡ new
whole_again n xs new long same = rw (drop_all (length new) xs (omega (arith, long, same)), append-nil new) (take_all n new (omega (arith, long)))

module _ (p : PinEntry → Bool) where
  -- the pins that are handed out of these entries, at most n
  abbrev handed : ℕ → List PinEntry → List Pin
  handed n es = pins_of (take n (filter p es))

  -- a stamp above all of these is not among them
  none_among : (s n : ℕ) (es : List PinEntry) → All (λ o. o.pin.stamp < s) es → is_among s (handed n es) ≡ false
  none_among s n es below =
      let other : (o : PinEntry) → o.pin.stamp < s → (o.pin.stamp == s) ≡ false = λ o less. ne_eqb o.pin.stamp s (λ same. omega (arith, less, same)) in
      list_any_none (λ (q : Pin). q.stamp == s) (handed n es)
      (All-map (λ (q : Pin). (q.stamp == s) ≡ false) (λ (o : PinEntry). o.pin) (take n (filter p es))
      (All-take (λ (o : PinEntry). (o.pin.stamp == s) ≡ false) n (filter p es)
      (All-filter p (λ (o : PinEntry). (o.pin.stamp == s) ≡ false) es
      (All-weaker (λ (o : PinEntry). o.pin.stamp < s) (λ (o : PinEntry). (o.pin.stamp == s) ≡ false) other es below))))

  -- the entry at a place is handed out where it may be, and fewer than n before it were
  pub handed_at : (n : ℕ) (es : List PinEntry) (k : ℕ) (d : PinEntry) → EntriesDescend es → k < length es
      → is_among (get_or es k d).pin.stamp (handed n es) ≡ nat_lt (length (filter p (take k es))) n && p (get_or es k d)
  handed_at n [] k d falls below = absurd (omega (arith, below))
  handed_at n (e ∷ es) zero d falls below = go (p e) refl n
    where
      go : (b : Bool) → p e ≡ b → (m : ℕ) → is_among e.pin.stamp (handed m (e ∷ es)) ≡ nat_lt 0 m && p e
      go false is m = rw is (none_among e.pin.stamp m es (falls_head e es falls) ∙ off (nat_lt 0 m))
        where
          off : (b : Bool) → false ≡ b && false
          off true = refl
          off false = refl
      go true is zero = refl
      go true is (suc m) =
          let here : (e.pin.stamp == e.pin.stamp) ≡ true = eq-eqb e.pin.stamp e.pin.stamp refl in
          let less : nat_lt 0 (suc m) ≡ true = grind (arith, nat_tests) in
          rw (is, here) (sym (ap (λ (b : Bool). b && true) less))
  handed_at n (e ∷ es) (suc k) d falls below =
      let within : k < length es = omega (arith, below) in
      let lower : (get_or es k d).pin.stamp < e.pin.stamp = falls_head e es falls k d within in
      let off : (e.pin.stamp == (get_or es k d).pin.stamp) ≡ false = ne_eqb e.pin.stamp (get_or es k d).pin.stamp (λ same. omega (arith, lower, same)) in
      go (p e) refl n off (λ m. handed_at m es k d (falls_tail e es falls) within)
    where
      go : (b : Bool) → p e ≡ b → (m : ℕ) → (e.pin.stamp == (get_or es k d).pin.stamp) ≡ false
          → ((m' : ℕ) → is_among (get_or es k d).pin.stamp (handed m' es) ≡ nat_lt (length (filter p (take k es))) m' && p (get_or es k d))
          → is_among (get_or es k d).pin.stamp (handed m (e ∷ es)) ≡ nat_lt (length (filter p (e ∷ take k es))) m && p (get_or es k d)
      go false is m off next = rw is (next m)
      go true is zero off next =
          let none : nat_lt (length (filter p (e ∷ take k es))) 0 ≡ false = grind (arith, nat_tests) in
          sym (ap (λ (b : Bool). b && p (get_or es k d)) none)
      go true is (suc m) off next =
          let less : nat_lt (length (filter p (take k es))) m ≡ nat_lt (length (e ∷ filter p (take k es))) (suc m) = grind (arith, nat_tests) in
          rw (is, off) (next m ∙ ap (λ (b : Bool). b && p (get_or es k d)) less)

  -- one entry more
  pub handed_more : (n : ℕ) (es : List PinEntry) (k : ℕ) (d : PinEntry) → k < length es
      → handed n (take (k + 1) es)
      ≡ cond (nat_lt (length (filter p (take k es))) n && p (get_or es k d)) (handed n (take k es) ++ (get_or es k d).pin ∷ []) (handed n (take k es))
  handed_more n es k d below = rw (filter_more p es k d below) (go (p (get_or es k d)) (nat_lt (length ys) n) refl)
    where
      ys : List PinEntry
      ys = filter p (take k es)

      x : PinEntry
      x = get_or es k d

      go : (b c : Bool) → nat_lt (length ys) n ≡ c → pins_of (take n (ys ++ cond b (x ∷ []) [])) ≡ cond (c && b) (pins_of (take n ys) ++ x.pin ∷ []) (pins_of (take n ys))
      go false true is = rw (append-nil ys) refl
      go false false is = rw (append-nil ys) refl
      go true true is =
          let room : length ys < n = grind (arith, nat_tests) in
          let long : length (ys ++ x ∷ []) ≤ n = omega (arith, room, length-append ys (x ∷ [])) in
          rw (take_all n (ys ++ x ∷ []) long, take_all n ys (omega (arith, room))) (map-append (λ (e : PinEntry). e.pin) ys (x ∷ []))
      go true false is =
          let full : n ≤ length ys = grind (arith, nat_tests) in
          rw (take-append-le n ys (x ∷ []) full) refl

  -- as many are handed out as there are, and n at most
  pub handed_room : (n : ℕ) (es : List PinEntry) → nat_lt (length (handed n es)) n ≡ nat_lt (length (filter p es)) n
  handed_room n es =
      let long = length-map (take n (filter p es)) (λ (e : PinEntry). e.pin) in
      let short = length-take n (filter p es) in
      grind (arith, nat_tests, long, short)

  -- an entry to which the pass has not come is handed out where it may be, and there is room
  pub handed_next : (n : ℕ) (es now : List PinEntry) (i : ℕ) (x : PinEntry) (pins : List Pin) → EntriesDescend es → i < length es
      → now ≡ map (with_user (handed n es)) (take i es) ++ drop i es → x ≡ get_or now i x → pins ≡ handed n (take i es)
      → is_among x.pin.stamp (handed n es) ≡ nat_lt (length pins) n && p x
  handed_next n es now i x pins falls within so_far is same =
      let at : x ≡ get_or es i x = not_yet (with_user (handed n es)) es now i x within so_far is in
      let room : nat_lt (length pins) n ≡ nat_lt (length (filter p (take i es))) n = ap (λ (l : List Pin). nat_lt (length l) n) same ∙ handed_room n (take i es) in
      let here : is_among x.pin.stamp (handed n es) ≡ nat_lt (length (filter p (take i es))) n && p x =
      subst (λ (y : PinEntry). is_among y.pin.stamp (handed n es) ≡ nat_lt (length (filter p (take i es))) n && p y) (sym at) (handed_at n es i x falls within)
      in
      here ∙ ap (λ (b : Bool). b && p x) (sym room)

  -- what is handed out by then
  pub handed_then : (n : ℕ) (es now : List PinEntry) (i : ℕ) (x : PinEntry) (pins : List Pin) → i < length es
      → now ≡ map (with_user (handed n es)) (take i es) ++ drop i es → x ≡ get_or now i x → pins ≡ handed n (take i es)
      → cond (nat_lt (length pins) n && p x) (pins ++ x.pin ∷ []) pins ≡ handed n (take (i + 1) es)
  handed_then n es now i x pins within so_far is same =
      let at : x ≡ get_or es i x = not_yet (with_user (handed n es)) es now i x within so_far is in
      let room : nat_lt (length pins) n ≡ nat_lt (length (filter p (take i es))) n = ap (λ (l : List Pin). nat_lt (length l) n) same ∙ handed_room n (take i es) in
      let more = handed_more n es i x within in
      let more' : handed n (take (i + 1) es) ≡ cond (nat_lt (length (filter p (take i es))) n && p x) (handed n (take i es) ++ x.pin ∷ []) (handed n (take i es)) =
      subst (λ (y : PinEntry). handed n (take (i + 1) es) ≡ cond (nat_lt (length (filter p (take i es))) n && p y) (handed n (take i es) ++ y.pin ∷ []) (handed n (take i es))) (sym at) more
      in
      ap (λ (b : Bool). cond (b && p x) (pins ++ x.pin ∷ []) pins) room
      ∙ (ap (λ (l : List Pin). cond (nat_lt (length (filter p (take i es))) n && p x) (l ++ x.pin ∷ []) l) same ∙ sym more')
