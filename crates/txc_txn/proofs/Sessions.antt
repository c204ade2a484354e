-- What a caller has noted, and its floor.
use Rattle.std.proofs.Common.{◌≡◌, ◌⊎◌, inl, inr, ℕ, zero, suc, ◌≤◌, max, List, [], ◌∷◌, ◌++◌, Option, Some, None, refl, sym, ap, subst, ◌∙◌, arith}
use Rattle.std.specs.Prelude.{option_map}
use Rattle.txc_db.specs.FrontsAndFeeds.{FrontValue}
use Rattle.txc_cushion.specs.declared.pin.Pin.{Pin}
use Rattle.txc_txn.specs.declared.receipt.Receipt.{Receipt}
use Rattle.txc_txn.specs.Sessions.{floor_after, noted_commit, noted_receipt, stamp_of, SessionEvent, HasNoted, IsFloorOf}

max_is : (a b : ℕ) → (max a b ≡ a) ⊎ (max a b ≡ b)
max_is zero b = inr (omega arith)
max_is (suc a) zero = inl (omega arith)
max_is (suc a) (suc b) = go (max_is a b)
  where
    go : (max a b ≡ a) ⊎ (max a b ≡ b) → (max (suc a) (suc b) ≡ suc a) ⊎ (max (suc a) (suc b) ≡ suc b)
    go (inl is) = inl (omega (arith, is))
    go (inr is) = inr (omega (arith, is))

-- ---- one more deed

noted_more : (deeds : List SessionEvent) (deed : SessionEvent) (stamp : ℕ) → HasNoted (deeds ++ deed ∷ []) stamp → HasNoted deeds stamp ⊎ (stamp_of deed ≡ Some stamp)
noted_more [] deed stamp (inl last) = inr last
noted_more [] deed stamp (inr none) = absurd none
noted_more (d ∷ ds) deed stamp (inl first) = inl (inl first)
noted_more (d ∷ ds) deed stamp (inr h) = go (noted_more ds deed stamp h)
  where
    go : HasNoted ds stamp ⊎ (stamp_of deed ≡ Some stamp) → HasNoted (d ∷ ds) stamp ⊎ (stamp_of deed ≡ Some stamp)
    go (inl among) = inl (inr among)
    go (inr last) = inr last

still_noted : (deeds : List SessionEvent) (deed : SessionEvent) (stamp : ℕ) → HasNoted deeds stamp → HasNoted (deeds ++ deed ∷ []) stamp
still_noted [] deed stamp h = absurd h
still_noted (d ∷ ds) deed stamp (inl first) = inl first
still_noted (d ∷ ds) deed stamp (inr h) = inr (still_noted ds deed stamp h)

last_noted : (deeds : List SessionEvent) (deed : SessionEvent) (stamp : ℕ) → stamp_of deed ≡ Some stamp → HasNoted (deeds ++ deed ∷ []) stamp
last_noted [] deed stamp is = inl is
last_noted (d ∷ ds) deed stamp is = inr (last_noted ds deed stamp is)

-- ---- the floor

module _ (deeds : List SessionEvent) (deed : SessionEvent) (floor : ℕ) (h : IsFloorOf deeds floor) where
  still_floor : (floor ≡ 0) ⊎ HasNoted deeds floor → (floor ≡ 0) ⊎ HasNoted (deeds ++ deed ∷ []) floor
  still_floor (inl none) = inl none
  still_floor (inr was) = inr (still_noted deeds deed floor was)

  -- it notes no stamp
  pub floor_stays : stamp_of deed ≡ None → IsFloorOf (deeds ++ deed ∷ []) floor
  floor_stays none = record {
    greatest = λ stamp noted. go stamp (noted_more deeds deed stamp noted);
    noted = still_floor h.noted;
  }
    where
      go : (stamp : ℕ) → HasNoted deeds stamp ⊎ (stamp_of deed ≡ Some stamp) → stamp ≤ floor
      go stamp (inl was) = h.greatest stamp was
      go stamp (inr last) = let no : None ≡ Some stamp = sym none ∙ last in cc no

  -- it notes a stamp
  module _ (stamp : ℕ) (is : stamp_of deed ≡ Some stamp) where
    one_of_both : (max floor stamp ≡ floor) ⊎ (max floor stamp ≡ stamp) → (max floor stamp ≡ 0) ⊎ HasNoted (deeds ++ deed ∷ []) (max floor stamp)
    one_of_both (inl old) = subst (λ (n : ℕ). (n ≡ 0) ⊎ HasNoted (deeds ++ deed ∷ []) n) (sym old) (still_floor h.noted)
    one_of_both (inr new) = inr (subst (HasNoted (deeds ++ deed ∷ [])) (sym new) (last_noted deeds deed stamp is))

    below : (other : ℕ) → HasNoted deeds other ⊎ (stamp_of deed ≡ Some other) → other ≤ max floor stamp
    below other (inl was) = let low = h.greatest other was in omega (arith, low)
    below other (inr last) =
        let same : Some stamp ≡ Some other = sym is ∙ last in
        let at : stamp ≡ other = cc same in
        omega (arith, at)

    pub floor_rises : IsFloorOf (deeds ++ deed ∷ []) (max floor stamp)
    floor_rises = record {
      greatest = λ other noted. below other (noted_more deeds deed other noted);
      noted = one_of_both (max_is floor stamp);
    }

-- ---- what is noted

pub nothing_noted : (floor : ℕ) → floor ≡ 0 → IsFloorOf [] floor
nothing_noted floor is = record { greatest = λ stamp none. absurd none; noted = inl is }

pub commit_noted : (deeds : List SessionEvent) (stamp : ℕ) (seen : FrontValue) (old new : ℕ) → new ≡ max old stamp → IsFloorOf deeds old
    → IsFloorOf (deeds ++ noted_commit stamp seen ∷ []) new
commit_noted deeds stamp seen old new is h =
    subst (IsFloorOf (deeds ++ noted_commit stamp seen ∷ [])) (sym is) (floor_rises deeds (noted_commit stamp seen) old h stamp refl)

pub receipt_noted : (deeds : List SessionEvent) (receipt : Receipt) (old new : ℕ) → new ≡ floor_after old receipt.pin → IsFloorOf deeds old
    → IsFloorOf (deeds ++ noted_receipt receipt ∷ []) new
receipt_noted deeds receipt old new is h = subst (IsFloorOf (deeds ++ noted_receipt receipt ∷ [])) (sym is) (go receipt.pin refl)
  where
    go : (pin : Option Pin) → receipt.pin ≡ pin → IsFloorOf (deeds ++ noted_receipt receipt ∷ []) (floor_after old pin)
    go None none = floor_stays deeds (noted_receipt receipt) old h (ap (option_map (λ (p : Pin). p.stamp)) none)
    go (Some pin) some = floor_rises deeds (noted_receipt receipt) old h pin.stamp (ap (option_map (λ (p : Pin). p.stamp)) some)
