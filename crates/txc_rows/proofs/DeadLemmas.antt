-- Replaced versions by their deaths: those between two stamps, and of them the first and the last.
use Rattle.std.proofs.Common.{◌≡◌, ◌≢◌, ◌⊎◌, inl, inr, ℕ, ◌+◌, ◌-◌, ◌<◌, ◌≤◌, max, suc, List, [], ◌∷◌, ◌++◌, map, filter, drop, length, Bool, true, false, true≢false, ◌&&◌, ◌||◌, nat_le, Option, Some, None, refl, sym, ap, subst, ◌∙◌, arith}
use borrow.Author.Tests.{leb-true, le-leb, lt-leb, leb-false}
use Rattle.std.proofs.lemmas.List.{length-map}
use Rattle.std.specs.List.{slice_get, AllByRecursion, Contains}
use Rattle.std.specs.Prelude.{MatchOption}
use Rattle.std.specs.List.Sorted.{IsPermutation}
use Rattle.std.proofs.lemmas.List.Sorted.{IsPermutation-refl, IsPermutation-sym, IsPermutation-trans, IsPermutation-map, IsPermutation-cons, IsPermutation-middle, length_permutation}
use Rattle.std.proofs.Math.Bool.{and-false}
use Rattle.sqlite_trees.proofs.ListLemmas.{filter_same, all_weaker, all_both, all-filter, all-map, all-permutation, IsPermutation-flat_map}
use Rattle.txc_stamp.specs.declared.stamp.TheConstants.{MOST_STAMP}
use Rattle.txc_rows.specs.declared.placed.Placed.{Placed}
use Rattle.txc_rows.specs.declared.replaced.Spot.{Spot}
use Rattle.txc_rows.specs.declared.replaced.Deaths.{Deaths}
use Rattle.txc_rows.specs.declared.query.Query.{Query}
use Rattle.txc_rows.specs.declared.version.Versioned.{Versioned}
use Rattle.txc_rows.specs.Versions.{suits}
use Rattle.txc_rows.specs.StorableVersions.{IsStorable}
use Rattle.txc_rows.specs.Placed.{version_of, lasts_to, is_left}
use Rattle.txc_rows.specs.ReplacedIndex.{stamp_or_zero, death_of, dies_between, dead_between, picked, dies_within, spot_suits, spots_asked, AreIndexed, DiedFirst, DiedLast}
use Rattle.txc_rows.specs.LatestTable.{IsFinding}
use Rattle.txc_rows.proofs.Members.{IsIn, is_in, all_in, both_true, and_true, filtered_both, passing}
use Rattle.txc_rows.proofs.IndexLemmas.{Points, death_low, picked_dead, within_point}
use Rattle.txc_rows.proofs.FindLemmas.{asked}

-- ---- one of a list, and the others

pub record Apart {X : Type 0} (xs : List X) (x : X) : Type 0 where
  pub others : List X
  pub all : IsPermutation xs (x ∷ others)

pub take_apart : {X : Type 0} (xs : List X) (x : X) → IsIn x xs → Apart xs x
take_apart [] x h = absurd h
take_apart (y ∷ ys) x (inl same) = record { others = ys; all = subst (λ z. IsPermutation (y ∷ ys) (z ∷ ys)) (sym same) (IsPermutation-refl (y ∷ ys)) }
take_apart (y ∷ ys) x (inr later) =
    let it = take_apart ys x later in
    record { others = y ∷ it.others; all = IsPermutation-trans _ _ _ (IsPermutation-cons y ys (x ∷ it.others) it.all) (IsPermutation-middle (y ∷ []) x it.others) }

-- ---- what stands at the spots

module _ (first : ℕ) (xs : List Placed) where
  pub picked_length : (ss : List Spot) → AllByRecursion (Points first xs) ss → length (picked first xs ss) ≡ length ss
  picked_length [] all = refl
  picked_length (s ∷ ss) all = rw all.0.stands (ap (λ n. suc n) (picked_length ss all.1))

  -- what holds of the deaths of the spots holds of the versions'
  pub picked_deaths : (P : ℕ → Type 0) (ss : List Spot) → AllByRecursion (Points first xs) ss → AllByRecursion (λ s. P s.death) ss → AllByRecursion (λ v. P (death_of v)) (map version_of (picked first xs ss))
  picked_deaths P [] all each = tt
  picked_deaths P (s ∷ ss) all each = rw all.0.stands (subst P (sym all.0.death) each.0, picked_deaths P ss all.1 each.1)

  module _ (ss : List Spot) (all : AllByRecursion (Points first xs) ss) (s : Spot) (stands : Contains ss s) (x : Placed) (at : slice_get xs (s.number - first) ≡ Some x) where
    abbrev pub apart : Apart ss s
    apart = take_apart ss s (is_in ss s stands)

    points : AllByRecursion (Points first xs) (s ∷ apart.others)
    points = all-permutation (Points first xs) ss (s ∷ apart.others) apart.all all

    -- the death that the spot says
    pub spot_death : death_of x.version ≡ s.death
    spot_death =
        let one = points.0 in
        let same : one.version ≡ x = let two : ◌≡◌ {A = Option Placed} (Some one.version) (Some x) = sym one.stands ∙ at in cc in
        subst (λ (y : Placed). death_of y.version ≡ s.death) same one.death

    abbrev pub others_there : List Versioned
    others_there = map version_of (picked first xs apart.others)

    pub all_there : (vs : List Versioned) → IsPermutation vs (map version_of (picked first xs ss)) → IsPermutation vs (x.version ∷ others_there)
    all_there vs same =
        let moved : IsPermutation (picked first xs ss) (picked first xs (s ∷ apart.others)) = IsPermutation-flat_map _ _ _ apart.all in
        let are : picked first xs (s ∷ apart.others) ≡ x ∷ picked first xs apart.others = rw at refl in
        IsPermutation-trans _ _ _ same (subst (λ ys. IsPermutation (map version_of (picked first xs ss)) (map version_of ys)) are (IsPermutation-map version_of _ _ moved))

    pub others_die : (P : ℕ → Type 0) → AllByRecursion (λ t. P t.death) ss → AllByRecursion (λ v. P (death_of v)) others_there
    others_die P each = picked_deaths P apart.others points.1 (all-permutation (λ t. P t.death) ss (s ∷ apart.others) apart.all each).1

    pub died_first : (vs : List Versioned) → IsPermutation vs (map version_of (picked first xs ss)) → AllByRecursion (λ t. s.death ≤ t.death) ss → DiedFirst vs x.version
    died_first vs same least = record { others = others_there; all = all_there vs same; least = subst (λ n. AllByRecursion (λ v. n ≤ death_of v) others_there) (sym spot_death) (others_die (λ n. s.death ≤ n) least) }

    pub died_last : (vs : List Versioned) → IsPermutation vs (map version_of (picked first xs ss)) → AllByRecursion (λ t. t.death ≤ s.death) ss → DiedLast vs x.version
    died_last vs same greatest = record { others = others_there; all = all_there vs same; greatest = subst (λ n. AllByRecursion (λ v. death_of v ≤ n) others_there) (sym spot_death) (others_die (λ n. n ≤ s.death) greatest) }

-- ---- those that did not die before a stamp

and_on : (b c : Bool) → c ≡ true → b ≡ b && c
and_on true c on = sym on
and_on false c on = refl

left_is : (from : ℕ) (d : Option ℕ) → d ≢ None → stamp_or_zero d ≤ MOST_STAMP → lasts_to from d ≡ nat_le from (stamp_or_zero d) && nat_le (stamp_or_zero d) 18446744073709551615
left_is from None alive low = absurd (alive refl)
left_is from (Some d) alive low = and_on (nat_le from d) (nat_le d 18446744073709551615) (le-leb d 18446744073709551615 (omega (arith, low)))

module _ (q : Query) (xs : List Placed) (each : AllByRecursion (λ x. IsStorable x.version) xs) (ended : AllByRecursion (λ x. x.version.died ≢ None) xs) where
  abbrev IsEnded : Versioned → Type 0
  IsEnded v = (v.died ≢ None) × (death_of v ≤ MOST_STAMP)

  pub all_ended : AllByRecursion IsEnded (map version_of xs)
  all_ended = all-map IsEnded version_of xs (all_both (λ x. IsStorable x.version) (λ x. x.version.died ≢ None) (λ x. IsEnded x.version) (λ x is dead. (dead, death_low x.version is)) xs each ended)

  pub left_dead : (from : ℕ) → asked q from xs ≡ dead_between q from 18446744073709551615 xs
  left_dead from =
      filtered_both (suits q) (is_left from) (map version_of xs)
      ∙ filter_same _ _ (map version_of xs) (all_weaker IsEnded _ (λ v is. ap (λ b. b && suits q v) (left_is from v.died is.0 is.1)) (map version_of xs) all_ended)

  -- each has a death between the two
  pub all_between : (low high : ℕ) → AllByRecursion (λ v. (d : ℕ) × (v.died ≡ Some d) × (low ≤ d) × (d ≤ high) × (suits q v ≡ true)) (dead_between q low high xs)
  all_between low high =
      all_both IsEnded (λ v. dies_between low high v && suits q v ≡ true) _ (λ v is passes. let both = both_true (dies_between low high v) (suits q v) passes in between v.died is.0 both.0 (suits q v ≡ true) both.1)
      (dead_between q low high xs) (all-filter IsEnded _ (map version_of xs) all_ended) (passing (λ v. dies_between low high v && suits q v) (map version_of xs))
    where
      bounds : (l h d : ℕ) → nat_le l d && nat_le d h ≡ true → (l ≤ d) × (d ≤ h)
      bounds l h d e = let both = both_true (nat_le l d) (nat_le d h) e in (leb-true l d both.0, leb-true d h both.1)

      between : (o : Option ℕ) → o ≢ None → nat_le low (stamp_or_zero o) && nat_le (stamp_or_zero o) high ≡ true → (F : Type 0) → F → (d : ℕ) × (o ≡ Some d) × (low ≤ d) × (d ≤ high) × F
      between None alive passes F f = absurd (alive refl)
      between (Some d) alive passes F f = let b = bounds low high d passes in (d, refl, b.0, b.1, f)

  -- ---- those that died after a stamp, and those that died by it

  either : (x y a b : Bool) → x ≡ a → y ≡ b → x || y ≡ a || b
  either x y a b e f = rw (e, f) refl

  parted : (p a b : Versioned → Bool) (vs : List Versioned) → AllByRecursion (λ v. (p v ≡ a v || b v) × (a v && b v ≡ false)) vs → IsPermutation (filter p vs) (filter a vs ++ filter b vs)
  parted p a b [] all = IsPermutation-refl []
  parted p a b (v ∷ vs) all = go (a v) (b v) refl refl (parted p a b vs all.1)
    where
      go : (x y : Bool) → a v ≡ x → b v ≡ y → IsPermutation (filter p vs) (filter a vs ++ filter b vs) → IsPermutation (filter p (v ∷ vs)) (filter a (v ∷ vs) ++ filter b (v ∷ vs))
      go true true e f on = absurd (true≢false (sym (and_true (a v) (b v) e f) ∙ all.0.1))
      go true false e f on =
          let here : p v ≡ true = all.0.0 ∙ either (a v) (b v) true false e f in
          rw (here, e, f) (IsPermutation-cons v _ _ on)
      go false true e f on =
          let here : p v ≡ true = all.0.0 ∙ either (a v) (b v) false true e f in
          rw (here, e, f) (IsPermutation-trans _ _ _ (IsPermutation-cons v _ _ on) (IsPermutation-sym _ _ (IsPermutation-middle (filter a vs) v (filter b vs))))
      go false false e f on =
          let here : p v ≡ false = all.0.0 ∙ either (a v) (b v) false false e f in
          rw (here, e, f) on

  greater_of : (a b : ℕ) → (a ≤ max a b) × (b ≤ max a b) × ((max a b ≤ a) ⊎ (max a b ≤ b))
  greater_of a b = go (nat_le a b) refl
    where
      go : (c : Bool) → nat_le a b ≡ c → (a ≤ max a b) × (b ≤ max a b) × ((max a b ≤ a) ⊎ (max a b ≤ b))
      go true e = let low = leb-true a b e in (omega (arith, low), omega (arith, low), inr (omega (arith, low)))
      go false e = let low = leb-false a b e in (omega (arith, low), omega (arith, low), inl (omega (arith, low)))

  -- it died at the later of the two bounds or after it, or before it
  part_of : (from at later d : ℕ) (s : Bool) → d ≤ MOST_STAMP → from ≤ later → at + 1 ≤ later → (later ≤ from) ⊎ (later ≤ at + 1)
      → ((nat_le from d && nat_le d 18446744073709551615) && s ≡ ((nat_le later d && nat_le d 18446744073709551615) && s) || ((nat_le from d && nat_le d at) && s))
      × (((nat_le later d && nat_le d 18446744073709551615) && s) && ((nat_le from d && nat_le d at) && s) ≡ false)
  part_of from at later d s low first next one = go (nat_le later d) refl
    where
      most : nat_le d 18446744073709551615 ≡ true
      most = le-leb d 18446744073709551615 (omega (arith, low))

      alone : (b : Bool) → b ≡ b || false
      alone true = refl
      alone false = refl

      go : (c : Bool) → nat_le later d ≡ c
          → ((nat_le from d && nat_le d 18446744073709551615) && s ≡ ((nat_le later d && nat_le d 18446744073709551615) && s) || ((nat_le from d && nat_le d at) && s))
          × (((nat_le later d && nat_le d 18446744073709551615) && s) && ((nat_le from d && nat_le d at) && s) ≡ false)
      go true e =
          let high = leb-true later d e in
          let here : nat_le from d ≡ true = le-leb from d (omega (arith, first, high)) in
          let past : nat_le d at ≡ false = lt-leb d at (omega (arith, next, high)) in
          rw (e, most, here, past) (alone s, and-false s)
      go false e = before (nat_le from d) refl
        where
          early : d < later
          early = leb-false later d e

          before : (f : Bool) → nat_le from d ≡ f
              → ((nat_le from d && nat_le d 18446744073709551615) && s ≡ ((nat_le later d && nat_le d 18446744073709551615) && s) || ((nat_le from d && nat_le d at) && s))
              × (((nat_le later d && nat_le d 18446744073709551615) && s) && ((nat_le from d && nat_le d at) && s) ≡ false)
          before true f =
              let low = leb-true from d f in
              let upto : nat_le d at ≡ true = le-leb d at (elim one [ inl is ↦ absurd (omega (arith, is, low, early)) | inr is ↦ omega (arith, is, early) ]) in
              rw (e, most, f, upto) (refl, refl)
          before false f = rw (e, most, f) (refl, refl)

  pub both_parts : (from at : ℕ) → IsPermutation (asked q from xs) (asked q (max from (at + 1)) xs ++ dead_between q from at xs)
  both_parts from at =
      rw (left_dead from, left_dead (max from (at + 1)))
      (parted _ (λ v. dies_between (max from (at + 1)) 18446744073709551615 v && suits q v) (λ v. dies_between from at v && suits q v) (map version_of xs)
      (all_weaker IsEnded _ (λ v is. let later = greater_of from (at + 1) in part_of from at (max from (at + 1)) (death_of v) (suits q v) is.1 later.0 later.1 later.2) (map version_of xs) all_ended))

-- ---- what is found at the spots of the versions that are not gone

module _ (first gone : ℕ) (xs : List Placed) (ids groups : List Spot) (low : gone ≤ length xs) (h : AreIndexed first xs ids groups) (q : Query) (d : Deaths) (same : d.number ≡ first + gone) (ss : List Spot)
    (are : filter (dies_within d) ss ≡ filter (spot_suits q) (spots_asked q (filter (dies_within d) ids) (filter (dies_within d) groups))) where
  abbrev spots : List Spot
  spots = filter (dies_within d) ss

  dead_there : IsPermutation (dead_between q d.low d.high (drop gone xs)) (map version_of (picked first xs spots))
  dead_there = picked_dead first gone xs ids groups low h q d same ss are

  all_point_there : AllByRecursion (Points first xs) spots
  all_point_there = within_point first gone xs ids groups low h q d same ss are

  module _ (each : AllByRecursion (λ x. IsStorable x.version) (drop gone xs)) (ended : AllByRecursion (λ x. x.version.died ≢ None) (drop gone xs)) (last : d.high ≡ 18446744073709551615) where
    asked_dead : asked q d.low (drop gone xs) ≡ dead_between q d.low d.high (drop gone xs)
    asked_dead = left_dead q (drop gone xs) each ended d.low ∙ ap (λ n. dead_between q d.low n (drop gone xs)) (sym last)

    pub found_count : length (asked q d.low (drop gone xs)) ≡ length spots
    found_count =
        ap length asked_dead ∙ (sym (length_permutation _ _ dead_there) ∙ (length-map (picked first xs spots) version_of ∙ picked_length first xs spots all_point_there))

    pub found_finding : (old new : List Versioned) → new ≡ old ++ map version_of (picked first xs spots) → IsFinding q d.low (drop gone xs) old new
    found_finding old new is = record { more = map version_of (picked first xs spots); same = subst (λ vs. IsPermutation vs (map version_of (picked first xs spots))) (sym asked_dead) dead_there; are = is }

  -- its number is one of those
  pub spot_high : (s : Spot) → Contains spots s → first ≤ s.number
  spot_high s there = let from = number_from d s (all_in (λ t. dies_within d t ≡ true) spots s (passing (dies_within d) ss) (is_in spots s there)) in omega (arith, from, same)
    where
      number_from : (e : Deaths) (t : Spot) → dies_within e t ≡ true → e.number ≤ t.number
      number_from e t is = go e.number t.number (nat_le e.low t.death && nat_le t.death e.high) is
        where
          go : (n m : ℕ) (b : Bool) → nat_le n m && b ≡ true → n ≤ m
          go n m b is = leb-true n m (both_true (nat_le n m) b is).0

  -- none where there is no spot
  pub none_dead : spots ≡ [] → dead_between q d.low d.high (drop gone xs) ≡ []
  none_dead none = nothing _ (subst (λ ts. IsPermutation (dead_between q d.low d.high (drop gone xs)) (map version_of (picked first xs ts))) none dead_there)
    where
      nothing : (vs : List Versioned) → IsPermutation vs [] → vs ≡ []
      nothing [] p = refl
      nothing (v ∷ vs) p = absurd (omega (arith, length_permutation (v ∷ vs) [] p))

  module _ {B : Type 0} (now : B → Versioned) (s : Spot) (there : Contains spots s) where
    point : Points first xs s
    point = all_in (Points first xs) spots s all_point_there (is_in spots s there)

    -- a version that was got at the spot
    abbrev pub IsGot : Option B → Type 0
    IsGot o = MatchOption o (slice_get xs (s.number - first) ≡ None) (λ v. (x : Placed) × (slice_get xs (s.number - first) ≡ Some x) × (now v ≡ x.version))

    pub first_got : (o : Option B) → IsGot o → AllByRecursion (λ t. s.death ≤ t.death) spots → MatchOption o (dead_between q d.low d.high (drop gone xs) ≡ []) (λ v. DiedFirst (dead_between q d.low d.high (drop gone xs)) (now v))
    first_got None none least = absurd (let e = point.stands in let f = none in cc)
    first_got (Some v) it least = subst (DiedFirst (dead_between q d.low d.high (drop gone xs))) (sym it.2) (died_first first xs spots all_point_there s there it.0 it.1 _ dead_there least)

    pub last_got : (o : Option B) → IsGot o → AllByRecursion (λ t. t.death ≤ s.death) spots → MatchOption o (dead_between q d.low d.high (drop gone xs) ≡ []) (λ v. DiedLast (dead_between q d.low d.high (drop gone xs)) (now v))
    last_got None none greatest = absurd (let e = point.stands in let f = none in cc)
    last_got (Some v) it greatest = subst (DiedLast (dead_between q d.low d.high (drop gone xs))) (sym it.2) (died_last first xs spots all_point_there s there it.0 it.1 _ dead_there greatest)
