-- What an insertion keeps and drops.
use Rattle.std.proofs.Common.{◌≡◌, ℕ, ◌<◌, Bool, true, false, cond, leb, suc, zero, List, [], ◌∷◌, ◌++◌, length, get_or, Option, Some, None, Contains, refl, subst, sym, ap, ◌∙◌, arith, length-append}
use Rattle.std.specs.Prelude.{slice_get}
use Rattle.std.specs.List.{find, position}
use Rattle.std.proofs.lemmas.Bool.{false≢true}
use Rattle.std.proofs.lemmas.Bool.Decides.{Decides-and, Decides-eqb}
use Rattle.std.proofs.lemmas.Option.{slice_get_past}
use Rattle.txc_tags.proofs.Offered.{same_call_iff}
use Rattle.txc_stamp.specs.Interval.{end_at}
use Rattle.txc_node.specs.declared.entry.Entry.{Entry}
use Rattle.txc_node.specs.Entries.{same_place, AreApart}
use Rattle.txc_node.specs.Cache.{Cache, replayed_reach, replayed_entry, ends_no_earlier, is_kept, evicted_entry}
use Rattle.txc_node.specs.Laws.{SamePlace, IsThere, InsertionKeepsTheLonger, InsertionDropsTheLast}
use Rattle.txc_node.proofs.Apart.{recursion_at}
use Rattle.txc_node.proofs.Inserts.{position_none, find_none, find_at, elsewhere, same_place_like, there_none}
use Rattle.txc_node.proofs.LawLemmas.{Decides-leb, find_passes}

place_test : (a b : Entry) → SamePlace a b → same_place a b ≡ true
place_test a b h = (Decides-and _ _ (same_call_iff a.key b.key) (Decides-eqb a.reach.lo b.reach.lo)).1 h

place_is : (a b : Entry) → same_place a b ≡ true → SamePlace a b
place_is a b h = (Decides-and _ _ (same_call_iff a.key b.key) (Decides-eqb a.reach.lo b.reach.lo)).0 h

-- the one entry at the place of e is the first one there
find_the_one : (e o : Entry) (es : List Entry) (k : ℕ) → AreApart es → k < length es → get_or es k o ≡ o → same_place o e ≡ true
    → find (λ x. same_place x e) es ≡ Some o
find_the_one e o [] k h l at t = absurd (omega arith)
find_the_one e o (x ∷ xs) zero h l at t = rw (ap (λ y. same_place y e) at ∙ t) (ap (λ y. Some y) at)
find_the_one e o (x ∷ xs) (suc k) h l at t =
    let apart : same_place o x ≡ false = ap (λ y. same_place y x) (sym at) ∙ recursion_at (λ y. same_place y x ≡ false) xs k o (omega arith) h.0 in
    let go : (b : Bool) → same_place x e ≡ b → cond b (Some x) (find (λ y. same_place y e) xs) ≡ Some o = λ b. elim b as (λ v. same_place x e ≡ v → cond v (Some x) (find (λ y. same_place y e) xs) ≡ Some o) [
      | true ↦ (λ s. absurd (false≢true (sym apart ∙ (same_place_like x e o s ∙ t))))
      | false ↦ (λ s. find_the_one e o xs k h.1 (omega arith) at t)
    ] in
    go (same_place x e) refl

found_there : (c : Cache) (e o : Entry) → AreApart c.entries → Contains c.entries o → SamePlace o e → find (λ x. same_place x e) c.entries ≡ Some o
found_there c e o h at s = find_the_one e o c.entries at.0 h at.1 at.2 (place_test o e s)

none_there : (e : Entry) (es : List Entry) → ¬ (IsThere e es) → find (λ x. same_place x e) es ≡ None
none_there e es none =
    let go : (o : Option Entry) → find (λ x. same_place x e) es ≡ o → o ≡ None = λ o. elim o as (λ v. find (λ x. same_place x e) es ≡ v → v ≡ None) [
      | None ↦ (λ _. refl)
      | Some x ↦ (λ h. let p = find_passes (λ y. same_place y e) es x h in absurd (none (x, p.1, place_is x e p.0)))
    ] in
    go (find (λ x. same_place x e) es) refl

pub keeps_the_longer : InsertionKeepsTheLonger
keeps_the_longer c e h = record {
  there = λ old at s.
      let is : is_kept c e ≡ leb (end_at c.processed (replayed_reach c e)) (end_at c.processed old.reach) =
      ap (ends_no_earlier c.processed (replayed_entry c e)) (found_there c e old h.apart at s) in
      let test = Decides-leb (end_at c.processed (replayed_reach c e)) (end_at c.processed old.reach) in
      (λ k. test.0 (sym is ∙ k), λ l. is ∙ test.1 l);
  not_there = λ none. ap (ends_no_earlier c.processed (replayed_entry c e)) (none_there e c.entries none);
}

at_the_end : {X : Type 0} (xs : List X) (y : X) → slice_get (xs ++ y ∷ []) (length xs) ≡ Some y
at_the_end [] y = refl
at_the_end (x ∷ xs) y = at_the_end xs y

by_place : {P : Type 0} (o : Option ℕ) → (o ≡ None → P) → ((i : ℕ) → o ≡ Some i → P) → P
by_place None f g = f refl
by_place (Some i) f g = g i refl

nowhere : (e : Entry) (es : List Entry) → ¬ (IsThere e es) → position (λ o. same_place o e) es ≡ None
nowhere e es away = by_place (position (λ o. same_place o e) es) (λ q. q) (λ i q.
    let none : None ≡ Some (get_or es i e) = sym (none_there e es away) ∙ find_at (λ o. same_place o e) es i e q in cc)

pub drops_the_last : InsertionDropsTheLast
drops_the_last c e h =
    let f = replayed_entry c e in
    let p = position (λ o. same_place o e) c.entries in
    let replaced : (i : ℕ) → p ≡ Some i → evicted_entry c e ≡ None = λ i q. sym (there_none c.capacity f e c.entries i h.apart q h.within) in
    record {
      there = λ t. by_place p
          (λ q. let x = t.0 in
          let none : None ≡ Some x = sym (find_none (λ o. same_place o e) c.entries (position_none (λ o. same_place o e) c.entries q)) ∙ found_there c e x h.apart t.1 t.2 in cc)
          replaced;
      not_full = λ l. by_place p
          (λ q. ap (λ xs. slice_get (f ∷ xs) c.capacity) (elsewhere e c.entries q) ∙ slice_get_past (f ∷ c.entries) c.capacity (omega arith))
          replaced;
      full = λ away len others last is.
          let n : suc (length others) ≡ c.capacity = omega (arith, len, ap length is, length-append others (last ∷ [])) in
          ap (λ xs. slice_get (f ∷ xs) c.capacity) (elsewhere e c.entries (nowhere e c.entries away) ∙ is) ∙ subst (λ k. slice_get (f ∷ (others ++ last ∷ [])) k ≡ Some last) n (at_the_end (f ∷ others) last);
    }
