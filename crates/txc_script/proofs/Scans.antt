-- Bytes that are searched sixteen at a time.
use Rattle.std.proofs.Common.{◌≡◌, ◌≢◌, ◌||◌, ◌⊎◌, inl, inr, ℕ, zero, suc, ◌+◌, ◌-◌, ◌^◌, ◌%◌, ◌<◌, ◌≤◌, Bool, true, false, not, ltb, cond, min, List, [], ◌∷◌, length, take, get_or, refl, sym, ap, subst, ◌∙◌, arith, w8, nat_lt}
use Rattle.std.specs.List.{All, prefix_len}
use Rattle.std.proofs.lemmas.List.{get_or-take, length-take, length-map, take_all}
use Rattle.std.proofs.lemmas.Simd.{bitmask_splat, run_in_chunk_fails, run_in_chunk_stops, tops_compared, zip2_splat_left, mask_l-mod}
use Rattle.std.proofs.lemmas.Bool.Decides.{nat_tests, Decides-eqb}
use lib.Lanes.{chunk, zip2, mask_l, top}
use lib.Dec.{eqb}
use lib.ListN.{replicate}
use mathlib.Core.List.{map}
use mir.Val.{hbits, bits}
use Rattle.txc_script.specs.Lines.{ArePlain}
use Rattle.txc_script.specs.LineFaults.{is_foreign}
use Rattle.txc_script.specs.Words.{HasNoBlank, is_blank}

or_true : (b : Bool) → (b || true) ≡ true
or_true true = refl
or_true false = refl

either_min : (l h r : ℕ) → r ≡ min l h → (r ≡ l) ⊎ (r ≡ h)
either_min l h r e = grind arith

get_or_same : (xs : List ℕ) (k d x : ℕ) → k < length xs → get_or xs k d ≡ get_or xs k x
get_or_same [] k d x l = absurd (omega arith)
get_or_same (y ∷ xs) zero d x l = refl
get_or_same (y ∷ xs) (suc k) d x l = get_or_same xs k d x (omega arith)

abbrev pub is_low : ℕ → Bool
is_low b = nat_lt b 32

abbrev pub is_high : ℕ → Bool
is_high b = nat_lt 126 b

pub low_marks : (xs : List ℕ) → length xs ≡ 16 → mask_l (map (top (hbits w8)) (zip2 (λ a b. cond (ltb a b) (2 ^ bits w8 - 1) 0) xs (replicate 16 32))) % 2 ^ 64 ≡ mask_l (map is_low xs)
low_marks xs long = bitmask_splat w8 ltb xs 16 32 long (omega arith)

pub high_marks : (xs : List ℕ) → length xs ≡ 16 → mask_l (map (top (hbits w8)) (zip2 (λ a b. cond (ltb a b) (2 ^ bits w8 - 1) 0) (replicate 16 126) xs)) % 2 ^ 64 ≡ mask_l (map is_high xs)
high_marks xs long =
    ap (λ (ms : List Bool). mask_l ms % 2 ^ 64) (tops_compared w8 ltb (replicate 16 126) xs ∙ zip2_splat_left ltb 126 16 xs long)
    ∙ mask_l-mod (map is_high xs) 64 (omega (arith, length-map xs is_high, long))

-- sixteen more bytes, of which this many stand before the first foreign one
pub none_in_chunk : (xs : List ℕ) (at l h r : ℕ) → at + 16 ≤ length xs → l ≡ prefix_len (λ b. not (is_low b)) (chunk at 16 xs) → h ≡ prefix_len (λ b. not (is_high b)) (chunk at 16 xs) → r ≡ min l h
    → (k : ℕ) → at ≤ k → k < at + r → is_foreign (get_or xs k 0) ≡ false
none_in_chunk xs at l h r room low high e k a b =
    let low_fails = run_in_chunk_fails is_low xs at 16 l 0 room low k a (omega (arith, e)) in
    let high_fails = run_in_chunk_fails is_high xs at 16 h 0 room high k a (omega (arith, e)) in
    ap (λ (x : Bool). x || is_high (get_or xs k 0)) low_fails ∙ high_fails

pub one_in_chunk : (xs : List ℕ) (at l h r : ℕ) → at + 16 ≤ length xs → l ≡ prefix_len (λ b. not (is_low b)) (chunk at 16 xs) → h ≡ prefix_len (λ b. not (is_high b)) (chunk at 16 xs) → r ≡ min l h
    → r < 16 → is_foreign (get_or xs (at + r) 0) ≡ true
one_in_chunk xs at l h r room low high e few =
    let by_low : r ≡ l → is_foreign (get_or xs (at + r) 0) ≡ true = λ same. let stops = run_in_chunk_stops is_low xs at 16 r 0 room (same ∙ low) few in ap (λ (x : Bool). x || is_high (get_or xs (at + r) 0)) stops in
    let by_high : r ≡ h → is_foreign (get_or xs (at + r) 0) ≡ true = λ same. let stops = run_in_chunk_stops is_high xs at 16 r 0 room (same ∙ high) few in ap (λ (x : Bool). is_low (get_or xs (at + r) 0) || x) stops ∙ or_true (is_low (get_or xs (at + r) 0)) in
    let go : (r ≡ l) ⊎ (r ≡ h) → is_foreign (get_or xs (at + r) 0) ≡ true = λ w. elim w [ inl w ↦ by_low w | inr w ↦ by_high w ] in
    go (either_min l h r e)

-- what was passed over, and one more
pub passed : (xs : List ℕ) (n : ℕ) → ((k : ℕ) → k < n → is_foreign (get_or xs k 0) ≡ false) → All (λ b. is_foreign b ≡ false) (take n xs)
passed xs n h = λ k d l.
    let few : k < n = omega (arith, l, length-take n xs) in
    let within : k < length xs = omega (arith, l, length-take n xs) in
    ap is_foreign (get_or-take n xs k d few ∙ get_or_same xs k d 0 within) ∙ h k few

pub passed_more : (xs : List ℕ) (at r : ℕ) → ((k : ℕ) → k < at → is_foreign (get_or xs k 0) ≡ false) → ((k : ℕ) → at ≤ k → k < at + r → is_foreign (get_or xs k 0) ≡ false)
    → (k : ℕ) → k < at + r → is_foreign (get_or xs k 0) ≡ false
passed_more xs at r before after k l =
    let go : (k < at) ⊎ (at ≤ k) → is_foreign (get_or xs k 0) ≡ false = λ w. elim w [ inl w ↦ before k w | inr w ↦ after k w l ] in
    go (grind arith)

-- ---- lines

is_plain : (b : ℕ) → is_foreign b ≡ false → (32 ≤ b) × (b ≤ 126)
is_plain b h = (grind (arith, nat_tests), grind (arith, nat_tests))

is_bad : (b : ℕ) → is_foreign b ≡ true → (32 ≤ b) × (b ≤ 126) → ⊥
is_bad b h k = grind (arith, nat_tests, k.0, k.1)

pub none_foreign : (xs : List ℕ) → All (λ b. is_foreign b ≡ false) xs → ArePlain xs
none_foreign xs all = λ k d l. is_plain _ (all k d l)

pub all_plain : (xs : List ℕ) (n : ℕ) → n ≡ length xs → All (λ b. is_foreign b ≡ false) (take n xs) → ArePlain xs
all_plain xs n e h = none_foreign xs (subst (All (λ b. is_foreign b ≡ false)) (take_all n xs (omega (arith, e))) h)

pub not_all_plain : (xs : List ℕ) (n : ℕ) → n ≤ length xs → (n < length xs → is_foreign (get_or xs n 0) ≡ true) → ArePlain xs → n ≡ length xs
not_all_plain xs n within stops all =
    let go : (n < length xs) ⊎ (length xs ≤ n) → n ≡ length xs = λ w. elim w [ inl w ↦ absurd (is_bad _ (stops w) (all n 0 w)) | inr w ↦ omega arith ] in
    go (grind arith)

-- ---- blanks

pub blank_marks : (n : ℕ) (xs : List ℕ) → length xs ≡ n → n ≤ 64 → mask_l (map (top (hbits w8)) (zip2 (λ a b. cond (eqb a b) (2 ^ bits w8 - 1) 0) xs (replicate n 32))) % 2 ^ 64 ≡ mask_l (map is_blank xs)
blank_marks n xs long few = bitmask_splat w8 eqb xs n 32 long few

is_other : (b : ℕ) → is_blank b ≡ false → b ≢ 32
is_other b h e = grind (arith, nat_tests)

blank_is : (b : ℕ) → is_blank b ≡ true → b ≡ 32
blank_is b h = (Decides-eqb b 32).0 h

-- bytes without a blank, and r more of them
bare_more : (xs : List ℕ) (at r : ℕ) → HasNoBlank (take at xs) → ((k : ℕ) → at ≤ k → k < at + r → is_blank (get_or xs k 0) ≡ false) → HasNoBlank (take (at + r) xs)
bare_more xs at r before after = λ k d l.
    let few : k < at + r = omega (arith, l, length-take (at + r) xs) in
    let within : k < length xs = omega (arith, l, length-take (at + r) xs) in
    let there = get_or-take (at + r) xs k d few in
    let go : (k < at) ⊎ (at ≤ k) → get_or (take (at + r) xs) k d ≢ 32 = λ w. elim w [
      | inl w ↦ (λ e. before k d (omega (arith, w, length-take at xs, within)) (get_or-take at xs k d w ∙ sym there ∙ e))
      | inr w ↦ (λ e. is_other _ (after k w few) (get_or_same xs k 0 d within ∙ sym there ∙ e))
    ] in
    go (grind arith)

-- the bytes of a load, as far as r of them stand before the first blank
pub bare_in_chunk : (xs : List ℕ) (at n r : ℕ) → at + n ≤ length xs → r ≡ prefix_len (λ b. not (is_blank b)) (chunk at n xs) → HasNoBlank (take at xs) → HasNoBlank (take (at + r) xs)
bare_in_chunk xs at n r room e before = bare_more xs at r before (λ k a b. run_in_chunk_fails is_blank xs at n r 0 room e k a b)

pub blank_in_chunk : (xs : List ℕ) (at n r : ℕ) → at + n ≤ length xs → r ≡ prefix_len (λ b. not (is_blank b)) (chunk at n xs) → r < n → get_or xs (at + r) 0 ≡ 32
blank_in_chunk xs at n r room e few = blank_is _ (run_in_chunk_stops is_blank xs at n r 0 room e few)

pub bare_whole_chunk : (xs : List ℕ) (at n r : ℕ) → at + n ≤ length xs → r ≡ prefix_len (λ b. not (is_blank b)) (chunk at n xs) → n ≤ r → HasNoBlank (take at xs) → HasNoBlank (take (at + n) xs)
bare_whole_chunk xs at n r room e all before = bare_more xs at n before (λ k a b. run_in_chunk_fails is_blank xs at n r 0 room e k a (omega (arith, b, all)))

-- one byte more
pub bare_one_more : (xs : List ℕ) (at : ℕ) → HasNoBlank (take at xs) → get_or xs at 0 ≢ 32 → HasNoBlank (take (at + 1) xs)
bare_one_more xs at before other = bare_more xs at 1 before (λ k a b. let same : k ≡ at = omega (arith, a, b) in let here : get_or xs k 0 ≢ 32 = λ e. other (sym (ap (λ (n : ℕ). get_or xs n 0) same) ∙ e) in grind (arith, nat_tests))
