use Rattle.std.proofs.Common.{◌≡◌, ℕ, ◌-◌, List, [], ◌∷◌, ◌++◌, length, map, take, Option, Some, MatchOption, zero, suc, refl, sym, ap, arith}
use Rattle.std.specs.Prelude.{slice_get}
use Rattle.std.specs.Option.{option_map}
use Rattle.txc_node.specs.declared.entry.Entry.{Entry}
use Rattle.txc_node.specs.declared.place.Place.{Place}
use Rattle.txc_node.specs.declared.stored.Stored.{Stored}
use Rattle.txc_node.specs.IndexedEntries.{entry_of, entries_of}
use Rattle.txc_node.proofs.remaining_entries.RemainingEntries.next.Goals as goal

-- the last of a list, and those before it
last_of : {A B : Type 0} (f : A → B) (xs : List A) (n : ℕ) → suc n ≡ length xs
    → (x : A) × (slice_get xs n ≡ Some x) × (map f xs ≡ map f (take n xs) ++ f x ∷ [])
last_of f [] n h = absurd (omega arith)
last_of f (x ∷ []) zero h = (x, refl, refl)
last_of f (x ∷ y ∷ ys) zero h = absurd (omega arith)
last_of f (x ∷ xs) (suc n) h = let r = last_of f xs n (omega arith) in (r.0, r.1, ap (λ l. f x ∷ l) r.2)

taken : {A B : Type 0} (f : A → B) (xs : List A) → MatchOption (option_map f (slice_get xs (length xs - 1)))
    ((map f xs ≡ []) × (map f (take (length xs - 1) xs) ≡ [])) (λ y. map f xs ≡ map f (take (length xs - 1) xs) ++ y ∷ [])
taken f [] = (refl, refl)
taken f (x ∷ xs) =
    let n : length (x ∷ xs) - 1 ≡ length xs = omega arith in
    let last = last_of f (x ∷ xs) (length xs) refl in
    rw n (rw last.1 last.2)

popped : (old new : List (Place × Stored)) (o : Option (Place × Stored)) (r : Option Entry) (all left : List Entry)
    → r ≡ option_map entry_of o → o ≡ slice_get old (length old - 1) → new ≡ take (length old - 1) old
    → all ≡ entries_of old → left ≡ entries_of new
    → MatchOption r ((all ≡ []) × (left ≡ [])) (λ e. all ≡ left ++ e ∷ [])
popped old new o r all left is last before whole rest = rw is (rw last (rw whole (rw rest (rw before (taken entry_of old)))))

pub returns : goal.returns
returns c = popped c.self.inside.cache.entries c.pop_last.new.self.entries c.pop_last.result c.join_some.result c.args.self.now _
    c.join_some.ensures c.pop_last.ensures.value (ap (λ cache. cache.entries) c.pop_last.ensures.entries) (sym c.self.view_is) refl
