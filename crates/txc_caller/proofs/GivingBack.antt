-- Users of pins that are given back, one pin after another.
use Rattle.std.proofs.Common.{◌≡◌, ◌∙◌, ℕ, zero, suc, ◌+◌, ◌-◌, ◌<◌, ◌≤◌, ◌==◌, Bool, true, false, cond, List, [], ◌∷◌, length, map, take, drop, get_or, Some, All, inl, inr, refl, ap, sym, subst, arith, eq-eqb, eqb-true, ne_eqb, slice_get}
use Rattle.std.proofs.lemmas.List.{at_drop_more, drop_all}
use Rattle.std.proofs.lemmas.List.Elements.{All-head, All-tail}
use Rattle.txc_cushion.specs.declared.pin.Pin.{Pin}
use Rattle.txc_cushion.specs.declared.entry.PinEntry.{PinEntry}
use Rattle.txc_cushion.specs.Pin.{PinsDescend}
use Rattle.txc_cushion.specs.Entries.{is_among, times, users_of, with_user, without_users}
use Rattle.txc_cushion.specs.Cushion.{after_fresh, after_give_back, handed_out, CushionValue, IsCushion}
use Rattle.txc_cushion.specs.Refusals.{HaveUsers, IsFirstUnused}
use Rattle.txc_cushion.proofs.Counts.{fresh_counts, give_back_counts, times_cons, times_on, times_off}
use Rattle.txc_cushion.proofs.HandedOut.{handed_falls}
use Rattle.txc_caller.specs.Ports.{AreGivenBack}

-- ---- how often a stamp is named

abbrev pub named : List Pin → List ℕ
named pins = map (λ (p : Pin). p.stamp) pins

-- of pins that fall, a stamp is among them at most once
among_times : (t : ℕ) (pins : List Pin) → PinsDescend pins → times t (named pins) ≡ cond (is_among t pins) 1 0
among_times t [] falls = refl
among_times t (p ∷ ps) falls = go (p.stamp == t) refl (among_times t ps (λ i j d less below. falls (suc i) (suc j) d (omega (arith, less)) (omega (arith, below))))
  where
    none : (qs : List Pin) → All (λ q. q.stamp < t) qs → times t (named qs) ≡ 0
    none [] below = refl
    none (q ∷ qs) below =
        let here = All-head (λ (o : Pin). o.stamp < t) q qs below in
        let off : (q.stamp == t) ≡ false = ne_eqb q.stamp t (λ same. omega (arith, here, same)) in
        times_off t q.stamp (named qs) off ∙ (none qs (All-tail (λ (o : Pin). o.stamp < t) q qs below))

    go : (b : Bool) → (p.stamp == t) ≡ b → times t (named ps) ≡ cond (is_among t ps) 1 0 → times t (named (p ∷ ps)) ≡ cond (is_among t (p ∷ ps)) 1 0
    go true is rest =
        let same : p.stamp ≡ t = eqb-true p.stamp t is in
        let below : All (λ (q : Pin). q.stamp < p.stamp) ps = λ k d within. falls 0 (suc k) d (omega arith) (omega (arith, within)) in
        times_on t p.stamp (named ps) is ∙ (ap (λ (n : ℕ). 1 + n) (none ps (rw (← same) below)) ∙ rw is refl)
    go false is rest = times_off t p.stamp (named ps) is ∙ (rest ∙ rw is refl)

-- ---- a stamp that has a user is given back

pub not_unused : (s stamp : ℕ) (entries : List PinEntry) → IsFirstUnused entries (s ∷ []) stamp → 0 < users_of s entries → ⊥
not_unused s stamp entries first some = go first.place first.there first.none_left
  where
    go : (place : ℕ) → slice_get (s ∷ []) place ≡ Some stamp → users_of stamp entries ≤ times stamp (take place (s ∷ [])) → ⊥
    go zero there none = let same : s ≡ stamp = cc there in let none' : users_of s entries ≤ 0 = rw same none in omega (arith, none', some)
    go (suc k) there none = cc there

pub used_back : (s : ℕ) (old new : CushionValue) → AreGivenBack (s ∷ []) old new → 0 < users_of s old.entries → new ≡ after_give_back old (s ∷ [])
used_back s old new (inl is) some = is
used_back s old new (inr refused) some = absurd (not_unused s refused.1.0 old.entries refused.1.1 some)

-- ---- one after another

-- a user of the pin of each stamp is given back, one after another
abbrev pub AreBackEach : List ℕ → CushionValue → CushionValue → Type 0
AreBackEach [] old new = new ≡ old
AreBackEach (stamp ∷ stamps) old new = (mid : CushionValue) × AreGivenBack (stamp ∷ []) old mid × AreBackEach stamps mid new

-- one more
pub back_more : (pins : List Pin) (i : ℕ) (pin : Pin) (old mid last : CushionValue) → i < length pins → pin ≡ get_or pins i pin → AreGivenBack (pin.stamp ∷ []) old mid
    → AreBackEach (named (drop (i + 1) pins)) mid last → AreBackEach (named (drop i pins)) old last
back_more pins i pin old mid last low is given rest =
    let at : drop i pins ≡ pin ∷ drop (i + 1) pins = at_drop_more (λ (ps : List Pin). ps) pins i pin low ∙ ap (λ (p : Pin). p ∷ drop (i + 1) pins) (sym is) in
    subst (λ (ps : List Pin). AreBackEach (named ps) old last) (sym at) (mid, given, rest)

unnamed : (stamps : List ℕ) (e : PinEntry) → times e.pin.stamp stamps ≡ 0 → without_users stamps e ≡ e
unnamed stamps e none = let left : e.users - times e.pin.stamp stamps ≡ e.users = omega (arith, none) in ap (λ (n : ℕ). record e { users = n }) left

none_less : (es : List PinEntry) → map (without_users []) es ≡ es
none_less [] = refl
none_less (e ∷ es) = ap (λ (x : PinEntry). x ∷ map (without_users []) es) (unnamed [] e refl) ∙ ap (λ (xs : List PinEntry). e ∷ xs) (none_less es)

less_twice : (s : ℕ) (ss : List ℕ) (es : List PinEntry) → map (without_users ss) (map (without_users (s ∷ [])) es) ≡ map (without_users (s ∷ ss)) es
less_twice s ss [] = refl
less_twice s ss (e ∷ es) =
    ap (λ (x : PinEntry). x ∷ map (without_users ss) (map (without_users (s ∷ [])) es)) (ap (λ (n : ℕ). record e { users = n }) users)
    ∙ ap (λ (xs : List PinEntry). without_users (s ∷ ss) e ∷ xs) (less_twice s ss es)
  where
    users : (e.users - times e.pin.stamp (s ∷ [])) - times e.pin.stamp ss ≡ e.users - times e.pin.stamp (s ∷ ss)
    users = let all = times_cons e.pin.stamp s ss in let one = times_cons e.pin.stamp s [] in omega (arith, all, one)

module _ (s : ℕ) (ss : List ℕ) (c : CushionValue) (have : HaveUsers c.entries (s ∷ ss)) where
  first_used : 0 < users_of s c.entries
  first_used = let enough = have s in let one = times_on s s ss (eq-eqb s s refl) in omega (arith, enough, one)

  one_used : HaveUsers c.entries (s ∷ [])
  one_used = λ t. let enough = have t in let all = times_cons t s ss in let one = times_cons t s [] in omega (arith, enough, all, one)

  rest_used : HaveUsers (after_give_back c (s ∷ [])).entries ss
  rest_used = λ t.
      let enough = have t in
      let all = times_cons t s ss in
      let one = times_cons t s [] in
      let left = (give_back_counts c (s ∷ []) t one_used).users in
      omega (arith, enough, all, one, left)

all_back : (stamps : List ℕ) (old new : CushionValue) → AreBackEach stamps old new → HaveUsers old.entries stamps → new ≡ after_give_back old stamps
all_back [] old new same have = same ∙ sym (ap (λ (es : List PinEntry). record old { entries = es }) (none_less old.entries))
all_back (s ∷ ss) old new back have =
    let is : back.0 ≡ after_give_back old (s ∷ []) = used_back s old back.0 back.1 (first_used s ss old have) in
    let rest : HaveUsers back.0.entries ss = subst (λ (c : CushionValue). HaveUsers c.entries ss) (sym is) (rest_used s ss old have) in
    all_back ss back.0 new back.2 rest
    ∙ (ap (λ (c : CushionValue). after_give_back c ss) is ∙ ap (λ (es : List PinEntry). record old { entries = es }) (less_twice s ss old.entries))

-- all of them
pub back_all : (pins : List Pin) (i : ℕ) (old new : CushionValue) → length pins ≤ i
    → ((last : CushionValue) → AreBackEach (named (drop i pins)) new last → AreBackEach (named pins) old last)
    → HaveUsers old.entries (named pins) → new ≡ after_give_back old (named pins)
back_all pins i old new past back have =
    all_back (named pins) old new (back new (subst (λ (ps : List Pin). AreBackEach (named ps) new new) (sym (drop_all i pins past)) refl)) have

-- ---- pins that were handed out and are given back leave all as it was

one_again : (pins : List Pin) → PinsDescend pins → (e : PinEntry) → without_users (named pins) (with_user pins e) ≡ e
one_again pins falls e = go (is_among e.pin.stamp pins) (among_times e.pin.stamp pins falls)
  where
    go : (b : Bool) → times e.pin.stamp (named pins) ≡ cond b 1 0 → without_users (named pins) (cond b (record e { users = e.users + 1 }) e) ≡ e
    go true once = let left : (e.users + 1) - times e.pin.stamp (named pins) ≡ e.users = omega (arith, once) in ap (λ (n : ℕ). record e { users = n }) left
    go false never = unnamed (named pins) e never

each_again : (pins : List Pin) → PinsDescend pins → (es : List PinEntry) → map (without_users (named pins)) (map (with_user pins) es) ≡ es
each_again pins falls [] = refl
each_again pins falls (e ∷ es) =
    ap (λ (x : PinEntry). x ∷ map (without_users (named pins)) (map (with_user pins) es)) (one_again pins falls e)
    ∙ ap (λ (xs : List PinEntry). e ∷ xs) (each_again pins falls es)

module _ (c : CushionValue) (now staleness at_least : ℕ) (is : IsCushion c) where
  again : after_give_back (after_fresh c now staleness at_least) (named (handed_out c now staleness at_least)) ≡ c
  again = ap (λ (es : List PinEntry). record c { entries = es }) (each_again (handed_out c now staleness at_least) (handed_falls c now staleness at_least is) c.entries)

  have_fresh : HaveUsers (after_fresh c now staleness at_least).entries (named (handed_out c now staleness at_least))
  have_fresh = λ t. let users = (fresh_counts c now staleness at_least t is).users in omega (arith, users)

  pub fresh_back : (mid new : CushionValue) (pins : List Pin) → mid ≡ after_fresh c now staleness at_least → pins ≡ handed_out c now staleness at_least
      → (HaveUsers mid.entries (named pins) → new ≡ after_give_back mid (named pins)) → new ≡ c
  fresh_back mid new pins after are back =
      let have : HaveUsers mid.entries (named pins) =
      subst (λ (m : CushionValue). HaveUsers m.entries (named pins)) (sym after)
      (subst (λ (ps : List Pin). HaveUsers (after_fresh c now staleness at_least).entries (named ps)) (sym are) have_fresh) in
      back have
      ∙ (ap (λ (m : CushionValue). after_give_back m (named pins)) after ∙ (ap (λ (ps : List Pin). after_give_back (after_fresh c now staleness at_least) (named ps)) are ∙ again))
