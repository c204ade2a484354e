-- The entry that stands last.
use Rattle.std.proofs.Common.{◌≡◌, ℕ, ◌-◌, false, List, [], ◌∷◌, ◌++◌, length, take, Some, None, refl, ap, subst, ◌∙◌, arith, suc, zero, length-append}
use Rattle.std.specs.Prelude.{slice_get}
use Rattle.txc_stamp.specs.Interval.{Interval}
use Rattle.txc_tags.specs.Keys.{Call}
use Rattle.txc_tags.proofs.All.{all_front}
use Rattle.txc_node.specs.declared.entry.Entry.{Entry}
use Rattle.txc_node.specs.declared.place.Place.{Place}
use Rattle.txc_node.specs.declared.stored.Stored.{Stored}
use Rattle.txc_node.specs.Places.{place_of}
use Rattle.txc_node.specs.Entries.{same_place, AreApart}
use Rattle.txc_node.specs.IndexedEntries.{entry_of, entries_of, reaches_under, listed, IndexesKeys, Relists, AreTied}
use Rattle.txc_node.proofs.KeyLists.{reaches_last, dropped_last}

-- ---- lists and their last

take_front : {X : Type 0} (xs : List X) (x : X) → take (length xs) (xs ++ x ∷ []) ≡ xs
take_front [] x = refl
take_front (y ∷ xs) x = ap (λ ys. y ∷ ys) (take_front xs x)

pub take_init : {X : Type 0} (xs : List X) (x : X) → take (length (xs ++ x ∷ []) - 1) (xs ++ x ∷ []) ≡ xs
take_init xs x = ap (λ n. take n (xs ++ x ∷ [])) (omega (arith, length-append xs (x ∷ []))) ∙ take_front xs x

pub split_at : {X : Type 0} (n : ℕ) (xs : List X) (x : X) → length xs ≡ suc n → slice_get xs n ≡ Some x → xs ≡ take n xs ++ x ∷ []
split_at n [] x l h = let none : None ≡ Some x = h in cc
split_at zero (y ∷ []) x l h = let is : Some y ≡ Some x = h in let same : y ≡ x = cc in ap (λ z. z ∷ []) same
split_at zero (y ∷ z ∷ xs) x l h = absurd (omega (arith, l))
split_at (suc n) (y ∷ xs) x l h = ap (λ ys. y ∷ ys) (split_at n xs x (omega (arith, l)) h)

pub entries_last : (ps : List (Place × Stored)) (x : Place × Stored) → entries_of (ps ++ x ∷ []) ≡ entries_of ps ++ entry_of x ∷ []
entries_last [] x = refl
entries_last (y ∷ ps) x = ap (λ es. entry_of y ∷ es) (entries_last ps x)

pub front_apart : (es : List Entry) (e : Entry) → AreApart (es ++ e ∷ []) → AreApart es
front_apart [] e h = tt
front_apart (y ∷ es) e h = (all_front (λ o. same_place o y ≡ false) es (e ∷ []) h.0, front_apart es e h.1)

-- ---- the last entry is dropped

pub dropped_tied : (front : List (Place × Stored)) (x : Place × Stored) (index new : List (Call × List Interval)) → AreTied (front ++ x ∷ []) index
    → Relists x.0.key (take (length (listed index x.0.key) - 1) (listed index x.0.key)) index new → AreTied front new
dropped_tied front x index new h relists =
    let e = entry_of x in
    let es = entries_of front in
    let split = entries_last front x in
    let apart : AreApart (es ++ e ∷ []) = subst AreApart split h.apart in
    let indexed : IndexesKeys index (es ++ e ∷ []) = subst (λ (xs : List Entry). IndexesKeys index xs) split h.keys in
    let reaches : take (length (listed index e.key) - 1) (listed index e.key) ≡ reaches_under e.key es =
    ap (λ (rs : List Interval). take (length rs - 1) rs) (reaches_last index es e indexed) ∙ take_init (reaches_under e.key es) e.reach in
    record {
      placed = all_front (λ p. p.0 ≡ place_of (entry_of p)) front (x ∷ []) h.placed;
      apart = front_apart es e apart;
      keys = dropped_last index new es e indexed (subst (λ (rs : List Interval). Relists e.key rs index new) reaches relists);
    }
