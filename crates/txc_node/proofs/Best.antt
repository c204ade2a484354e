-- The best of a list of entries.
use Rattle.std.proofs.Common.{◌≡◌, ℕ, ◌+◌, ◌<◌, Bool, true, false, not, ◌&&◌, ◌||◌, eqb, ltb, List, [], ◌∷◌, length, get_or, Option, Some, None, refl, subst, sym, ap, ◌∙◌, arith}
use Rattle.std.specs.List.{find, list_all}
use Rattle.std.proofs.lemmas.Bool.Decides.{nat_tests}
use Rattle.std.proofs.lemmas.Bool.{false≢true}
use Rattle.std.proofs.lemmas.List.Recursion.{and_from_places, and_fails_at, found_at, found_nowhere}
use Rattle.std.proofs.lemmas.List.{get_or_read}
use borrow.Author.Count.{below_more}
use Rattle.txc_stamp.specs.Interval.{end_at}
use Rattle.txc_tags.specs.Keys.{Call}
use Rattle.txc_node.specs.declared.entry.Entry.{Entry}
use Rattle.txc_node.specs.Entries.{meets_range, outlasts, is_best}
use Rattle.txc_node.specs.Best.{IsBestAt, BestSoFar, StandsAt}

-- (x, y) is ahead of (u, v)
abbrev ahead : ℕ → ℕ → ℕ → ℕ → Bool
ahead x y u v = ltb u x || (eqb u x && ltb v y)

ahead_self : (x y : ℕ) → ahead x y x y ≡ false
ahead_self x y = grind (arith, nat_tests)

ahead_one_way : (x y u v : ℕ) → ahead x y u v ≡ true → ahead u v x y ≡ false
ahead_one_way x y u v h = grind (arith, nat_tests)

ahead_over : (x y u v s t : ℕ) → ahead s t u v ≡ false → ahead x y u v ≡ true → ahead x y s t ≡ true
ahead_over x y u v s t h k = grind (arith, nat_tests)

pub outlasts_self : (p : ℕ) (a : Entry) → outlasts p a a ≡ false
outlasts_self p a = ahead_self (end_at p a.reach) a.reach.lo

pub outlasts_one_way : (p : ℕ) (a b : Entry) → outlasts p a b ≡ true → outlasts p b a ≡ false
outlasts_one_way p a b h = ahead_one_way (end_at p a.reach) a.reach.lo (end_at p b.reach) b.reach.lo h

pub outlasts_over : (p : ℕ) (a b c : Entry) → outlasts p c b ≡ false → outlasts p a b ≡ true → outlasts p a c ≡ true
outlasts_over p a b c h k = ahead_over (end_at p a.reach) a.reach.lo (end_at p b.reach) b.reach.lo (end_at p c.reach) c.reach.lo h k

-- ---- one turn: e stands at n

pub best_none : (p : ℕ) (key : Call) (lo hi : ℕ) (es : List Entry) → BestSoFar p key lo hi es 0 None
best_none p key lo hi es k h d = absurd (omega arith)

pub best_skips : (p : ℕ) (key : Call) (lo hi : ℕ) (es : List Entry) (n : ℕ) (best : Option ℕ) → BestSoFar p key lo hi es n best → ((d : Entry) → meets_range p key lo hi (get_or es n d) ≡ false) → BestSoFar p key lo hi es (n + 1) best
best_skips p key lo hi es n None h miss = below_more (λ k. (d : Entry) → meets_range p key lo hi (get_or es k d) ≡ false) n h miss
best_skips p key lo hi es n (Some b) h miss = record {
  below = omega (arith, h.below);
  meets = h.meets;
  longest = below_more (λ k. (d : Entry) → meets_range p key lo hi (get_or es k d) ≡ true → outlasts p (get_or es k d) (get_or es b d) ≡ false) n h.longest (λ d holds. absurd (false≢true (sym (miss d) ∙ holds)));
  first = h.first;
}

pub best_keeps : (p : ℕ) (key : Call) (lo hi : ℕ) (es : List Entry) (n b : ℕ) → IsBestAt p key lo hi es n b → ((d : Entry) → outlasts p (get_or es n d) (get_or es b d) ≡ false) → IsBestAt p key lo hi es (n + 1) b
best_keeps p key lo hi es n b h miss = record {
  below = omega (arith, h.below);
  meets = h.meets;
  longest = below_more (λ k. (d : Entry) → meets_range p key lo hi (get_or es k d) ≡ true → outlasts p (get_or es k d) (get_or es b d) ≡ false) n h.longest (λ d _. miss d);
  first = h.first;
}

pub best_begins : (p : ℕ) (key : Call) (lo hi : ℕ) (es : List Entry) (n : ℕ) → BestSoFar p key lo hi es n None → ((d : Entry) → meets_range p key lo hi (get_or es n d) ≡ true) → IsBestAt p key lo hi es (n + 1) n
best_begins p key lo hi es n h fits = record {
  below = omega arith;
  meets = fits;
  longest = below_more (λ k. (d : Entry) → meets_range p key lo hi (get_or es k d) ≡ true → outlasts p (get_or es k d) (get_or es n d) ≡ false) n (λ k l d t. absurd (false≢true (sym (h k l d) ∙ t))) (λ d _. outlasts_self p (get_or es n d));
  first = λ k l d t. absurd (false≢true (sym (h k l d) ∙ t));
}

pub best_takes : (p : ℕ) (key : Call) (lo hi : ℕ) (es : List Entry) (n b : ℕ) → IsBestAt p key lo hi es n b → ((d : Entry) → meets_range p key lo hi (get_or es n d) ≡ true) → ((d : Entry) → outlasts p (get_or es n d) (get_or es b d) ≡ true) → IsBestAt p key lo hi es (n + 1) n
best_takes p key lo hi es n b h fits over =
    let ahead_of : (k : ℕ) → k < n → (d : Entry) → meets_range p key lo hi (get_or es k d) ≡ true → outlasts p (get_or es n d) (get_or es k d) ≡ true = λ k l d t. outlasts_over p (get_or es n d) (get_or es b d) (get_or es k d) (h.longest k l d t) (over d) in
    record {
      below = omega arith;
      meets = fits;
      longest = below_more (λ k. (d : Entry) → meets_range p key lo hi (get_or es k d) ≡ true → outlasts p (get_or es k d) (get_or es n d) ≡ false) n (λ k l d t. outlasts_one_way p (get_or es n d) (get_or es k d) (ahead_of k l d t)) (λ d _. outlasts_self p (get_or es n d));
      first = ahead_of;
    }

-- ---- after the last turn

not_both : (a b : Bool) → (a ≡ true → b ≡ false) → not (a && b) ≡ true
not_both true b h = ap not (h refl)
not_both false b h = refl

and_true : (a b : Bool) → a ≡ true → b ≡ true → (a && b) ≡ true
and_true a b h k = cc

and_false : (a b : Bool) → (a ≡ true → b ≡ false) → (a && b) ≡ false
and_false true b h = h refl
and_false false b h = refl

not_ahead : (a b : Bool) → a ≡ true → b ≡ true → not (a && b) ≡ false
not_ahead a b h k = cc

pub best_found : (p : ℕ) (key : Call) (lo hi : ℕ) (es : List Entry) (b : ℕ) → IsBestAt p key lo hi es (length es) b → (d : Entry) → find (is_best p key lo hi es) es ≡ Some (get_or es b d)
best_found p key lo hi es b h d =
    let above : (k : ℕ) → k < length es → not (meets_range p key lo hi (get_or es k d) && outlasts p (get_or es k d) (get_or es b d)) ≡ true = λ k l. not_both _ _ (h.longest k l d) in
    let passes : is_best p key lo hi es (get_or es b d) ≡ true = and_true _ _ (h.meets d) (and_from_places (list_all (λ o. not (meets_range p key lo hi o && outlasts p o (get_or es b d)))) (λ o. not (meets_range p key lo hi o && outlasts p o (get_or es b d))) refl (λ _ _. refl) es d above) in
    let fails : (k : ℕ) → k < b → is_best p key lo hi es (get_or es k d) ≡ false = λ k l. and_false _ _ (λ t. and_fails_at (list_all (λ o. not (meets_range p key lo hi o && outlasts p o (get_or es k d)))) (λ o. not (meets_range p key lo hi o && outlasts p o (get_or es k d))) refl (λ _ _. refl) es b d h.below (not_ahead _ _ (h.meets d) (h.first k l d t))) in
    found_at (find (is_best p key lo hi es)) (is_best p key lo hi es) (λ x. Some x) None refl (λ _ _. refl) es b d h.below fails passes

nowhere : (p : ℕ) (key : Call) (lo hi : ℕ) (all es : List Entry) (e : Entry) → ((k : ℕ) → k < length es → meets_range p key lo hi (get_or es k e) ≡ false) → find (is_best p key lo hi all) es ≡ None
nowhere p key lo hi all es e h =
    found_nowhere (find (is_best p key lo hi all)) (is_best p key lo hi all) (λ x. Some x) None refl (λ _ _. refl) es e (λ k l. and_false _ _ (λ t. absurd (false≢true (sym (h k l) ∙ t))))

pub best_nowhere : (p : ℕ) (key : Call) (lo hi : ℕ) (es : List Entry) → BestSoFar p key lo hi es (length es) None → find (is_best p key lo hi es) es ≡ None
best_nowhere p key lo hi [] h = refl
best_nowhere p key lo hi (e ∷ es) h = nowhere p key lo hi (e ∷ es) (e ∷ es) e (λ k l. h k l e)

-- where the best entry stands
pub best_end : (p : ℕ) (key : Call) (lo hi : ℕ) (es : List Entry) (n : ℕ) (best : Option ℕ) → n ≡ length es → BestSoFar p key lo hi es n best → StandsAt (find (is_best p key lo hi es) es) es best
best_end p key lo hi es n None e h = best_nowhere p key lo hi es (subst (λ m. BestSoFar p key lo hi es m None) e h)
best_end p key lo hi es n (Some b) e h =
    let h' = subst (λ m. IsBestAt p key lo hi es m b) e h in
    (h'.below, λ d. best_found p key lo hi es b h' d)

-- a test of the entry that was read at n is its test at n
pub read_test : (test : Entry → Bool) (es : List Entry) (n : ℕ) (x : Entry) (b : Bool) → n < length es → x ≡ get_or es n x → test x ≡ b → (d : Entry) → test (get_or es n d) ≡ b
read_test test es n x b l at h d = ap test (sym (get_or_read es n x l at d)) ∙ h

pub read_tests : (test : Entry → Entry → Bool) (es : List Entry) (n m : ℕ) (x y : Entry) (b : Bool) → n < length es → m < length es → x ≡ get_or es n x → y ≡ get_or es m y → test x y ≡ b → (d : Entry) → test (get_or es n d) (get_or es m d) ≡ b
read_tests test es n m x y b l k at by h d = ap (λ (e : Entry). test e (get_or es m d)) (sym (get_or_read es n x l at d)) ∙ ap (test x) (sym (get_or_read es m y k by d)) ∙ h
