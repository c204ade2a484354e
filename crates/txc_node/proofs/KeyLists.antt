-- What the index of the keys lists, as the entries change.
use Rattle.std.proofs.Common.{◌≡◌, ℕ, ◌<◌, Bool, true, false, not, ◌&&◌, eqb, cond, List, [], ◌∷◌, ◌++◌, map, length, get_or, Some, refl, sym, ap, subst, ◌∙◌, suc, zero}
use Rattle.std.specs.Prelude.{slice_get, remove}
use Rattle.std.specs.List.{AllByRecursion, filter, find}
use Rattle.std.proofs.lemmas.Bool.{false≢true}
use Rattle.std.proofs.lemmas.Option.{slice_get_within, slice_get-get_or}
use Rattle.txc_stamp.specs.Interval.{Interval}
use Rattle.txc_tags.specs.Keys.{Call, same_call}
use Rattle.txc_tags.proofs.Offered.{same_call_is, same_call_itself, both_true}
use Rattle.txc_node.specs.declared.entry.Entry.{Entry}
use Rattle.txc_node.specs.Entries.{same_place, meets_range, outlasts, is_best, others, AreApart}
use Rattle.txc_node.specs.IndexedEntries.{AreOf, entries_under, reaches_under, listed, IndexesKeys, Relists}
use Rattle.txc_node.proofs.Apart.{remove_is_others, filter_apart}
use Rattle.txc_node.proofs.Swept.{find_filter, all_filter, find_same}

first_no : (a b : Bool) → a ≡ false → (a && b) ≡ false
first_no a b h = cc

-- ---- the entries of a key

pub under_yes : (key : Call) (e : Entry) (es : List Entry) → same_call e.key key ≡ true → entries_under key (e ∷ es) ≡ e ∷ entries_under key es
under_yes key e es h = ap (λ b. cond b (e ∷ entries_under key es) (entries_under key es)) h

pub under_no : (key : Call) (e : Entry) (es : List Entry) → same_call e.key key ≡ false → entries_under key (e ∷ es) ≡ entries_under key es
under_no key e es h = ap (λ b. cond b (e ∷ entries_under key es) (entries_under key es)) h

pub all_under : (key : Call) (es : List Entry) → AllByRecursion (λ e. same_call e.key key ≡ true) (entries_under key es)
all_under key [] = tt
all_under key (e ∷ es) =
    let P : Entry → Type 0 = λ o. same_call o.key key ≡ true in
    let go : (b : Bool) → same_call e.key key ≡ b → AllByRecursion P (cond b (e ∷ entries_under key es) (entries_under key es)) = λ b. elim b as (λ v. same_call e.key key ≡ v → AllByRecursion P (cond v (e ∷ entries_under key es) (entries_under key es))) [ true ↦ (λ h. (h, all_under key es)) | false ↦ (λ _. all_under key es) ] in
    go (same_call e.key key) refl

-- ---- filters one after the other

swap_one : (s t : Entry → Bool) (x : Entry) (xs : List Entry) (a b : Bool) → s x ≡ a → t x ≡ b → filter s (filter t xs) ≡ filter t (filter s xs)
    → filter s (cond b (x ∷ filter t xs) (filter t xs)) ≡ filter t (cond a (x ∷ filter s xs) (filter s xs))
swap_one s t x xs true true h k r = rw (h, k) (ap (λ ys. x ∷ ys) r)
swap_one s t x xs true false h k r = rw k r
swap_one s t x xs false true h k r = rw h r
swap_one s t x xs false false h k r = r

filter_swap : (s t : Entry → Bool) (es : List Entry) → filter s (filter t es) ≡ filter t (filter s es)
filter_swap s t [] = refl
filter_swap s t (x ∷ xs) = swap_one s t x xs (s x) (t x) refl refl (filter_swap s t xs)

-- where what is dropped fails the second test too, the first drops nothing more
within_one : (s t : Entry → Bool) (x : Entry) (xs : List Entry) (a b : Bool) → s x ≡ a → t x ≡ b → (a ≡ false → b ≡ false) → filter t (filter s xs) ≡ filter t xs
    → filter t (cond a (x ∷ filter s xs) (filter s xs)) ≡ cond b (x ∷ filter t xs) (filter t xs)
within_one s t x xs true true h k f r = rw k (ap (λ ys. x ∷ ys) r)
within_one s t x xs true false h k f r = rw k r
within_one s t x xs false true h k f r = absurd (false≢true (sym (f refl)))
within_one s t x xs false false h k f r = r

filter_within : (s t : Entry → Bool) → ((o : Entry) → s o ≡ false → t o ≡ false) → (es : List Entry) → filter t (filter s es) ≡ filter t es
filter_within s t f [] = refl
filter_within s t f (x ∷ xs) = within_one s t x xs (s x) (t x) refl refl (f x) (filter_within s t f xs)

-- ---- the entries of a key among the others of an entry

under_others : (key : Call) (e : Entry) (es : List Entry) → entries_under key (others e es) ≡ others e (entries_under key es)
under_others key e es = filter_swap (λ o. same_call o.key key) (λ o. not (same_place o e)) es

not_false : (b : Bool) → not b ≡ false → b ≡ true
not_false true h = refl
not_false false h = absurd (false≢true (sym h))

of_place : (o e : Entry) → same_place o e ≡ true → o.key ≡ e.key
of_place o e h = same_call_is o.key e.key (both_true (same_call o.key e.key) (eqb o.reach.lo e.reach.lo) h).0

under_other_key : (key : Call) (e : Entry) (es : List Entry) → same_call e.key key ≡ false → entries_under key (others e es) ≡ entries_under key es
under_other_key key e es h = filter_within (λ o. not (same_place o e)) (λ o. same_call o.key key) (λ o other. ap (λ (c : Call). same_call c key) (of_place o e (not_false (same_place o e) other)) ∙ h) es

-- ---- what is found among them

pub find_under : (p : ℕ) (key : Call) (lo hi : ℕ) (es : List Entry) → find (is_best p key lo hi (entries_under key es)) (entries_under key es) ≡ find (is_best p key lo hi es) es
find_under p key lo hi es =
    let s : Entry → Bool = λ o. same_call o.key key in
    let misses : (o : Entry) → s o ≡ false → meets_range p key lo hi o ≡ false = λ o other. first_no (s o) _ other in
    let alike : (e : Entry) → is_best p key lo hi (filter s es) e ≡ is_best p key lo hi es e = λ e.
    ap (λ b. meets_range p key lo hi e && b) (all_filter s (λ o. not (meets_range p key lo hi o && outlasts p o e)) (λ o other. ap not (first_no _ _ (misses o other))) es) in
    let fails : (o : Entry) → s o ≡ false → is_best p key lo hi es o ≡ false = λ o other. first_no _ _ (misses o other) in
    find_same (is_best p key lo hi (filter s es)) (is_best p key lo hi es) alike (filter s es) ∙ find_filter s (is_best p key lo hi es) fails es

pub find_place_under : (e : Entry) (es : List Entry) → find (λ o. same_place o e) (entries_under e.key es) ≡ find (λ o. same_place o e) es
find_place_under e es = find_filter (λ o. same_call o.key e.key) (λ o. same_place o e) (λ o other. first_no _ _ other) es

-- ---- the entry that is brought to the front

map_remove : {X Y : Type 0} (f : X → Y) (xs : List X) (i : ℕ) → map f (remove xs i) ≡ remove (map f xs) i
map_remove f [] zero = refl
map_remove f [] (suc i) = refl
map_remove f (x ∷ xs) zero = refl
map_remove f (x ∷ xs) (suc i) = ap (λ ys. f x ∷ ys) (map_remove f xs i)

-- the entry at a place of a list whose entries stand apart is removed with its place
removed_others : (U : List Entry) (at : ℕ) (e : Entry) → AreApart U → slice_get U at ≡ Some e → others e U ≡ remove U at
removed_others U at e apart stands =
    let within : at < length U = slice_get_within U at e stands in
    let same : Some (get_or U at e) ≡ Some e = sym (slice_get-get_or U at e within) ∙ stands in
    let is : get_or U at e ≡ e = cc in
    sym (remove_is_others U at e within apart ∙ ap (λ o. others o U) is)

pub relisted_here : (key : Call) (rs : List Interval) (old new : List (Call × List Interval)) → Relists key rs old new → listed new key ≡ rs
relisted_here key rs old new h = h key ∙ ap (λ b. cond b rs (listed old key)) (same_call_itself key)

pub relisted_there : (key k : Call) (rs : List Interval) (old new : List (Call × List Interval)) → Relists key rs old new → same_call key k ≡ false → listed new k ≡ listed old k
relisted_there key k rs old new h other = h k ∙ ap (λ b. cond b rs (listed old k)) other

-- an index of the keys, as that of one key changes
pub indexes_by : (key : Call) (old new : List (Call × List Interval)) (es fs : List Entry) → IndexesKeys old es → Relists key (reaches_under key fs) old new
    → ((k : Call) → same_call key k ≡ false → entries_under k fs ≡ entries_under k es) → IndexesKeys new fs
indexes_by key old new es fs indexed relists same k = (elim (same_call key k) as (λ b. same_call key k ≡ b → listed new k ≡ reaches_under k fs) [
  | true ↦ λ h. subst (λ (c : Call). listed new c ≡ reaches_under c fs) (same_call_is key k h) (relisted_here key (reaches_under key fs) old new relists)
  | false ↦ λ h. relisted_there key k (reaches_under key fs) old new relists h ∙ indexed k ∙ ap (λ xs. map (λ e. e.reach) xs) (sym (same k h))
]) refl

pub brought_first : (index new : List (Call × List Interval)) (es : List Entry) (e f : Entry) (at : ℕ) → AreApart es → IndexesKeys index es → slice_get (entries_under e.key es) at ≡ Some e
    → f.key ≡ e.key
    → Relists e.key (f.reach ∷ remove (listed index e.key) at) index new → IndexesKeys new (f ∷ others e es)
brought_first index new es e f at apart indexed stands keys relists =
    let U = entries_under e.key es in
    let own : same_call f.key e.key ≡ true = ap (λ (c : Call). same_call c e.key) keys ∙ same_call_itself e.key in
    let reaches : reaches_under e.key (f ∷ others e es) ≡ f.reach ∷ remove (listed index e.key) at =
    ap (λ xs. map (λ o. o.reach) xs) (under_yes e.key f (others e es) own ∙ ap (λ xs. f ∷ xs) (under_others e.key e es ∙ removed_others U at e (filter_apart (λ o. same_call o.key e.key) es apart) stands))
    ∙ ap (λ xs. f.reach ∷ xs) (map_remove (λ o. o.reach) U at ∙ ap (λ xs. remove xs at) (sym (indexed e.key))) in
    indexes_by e.key index new es (f ∷ others e es) indexed (subst (λ (rs : List Interval). Relists e.key rs index new) (sym reaches) relists)
    (λ k other. under_no k f (others e es) (ap (λ (c : Call). same_call c k) keys ∙ other) ∙ under_other_key k e es other)

-- ---- a new entry in front

pub put_first : (index new : List (Call × List Interval)) (es : List Entry) (e : Entry) → IndexesKeys index es → Relists e.key (e.reach ∷ listed index e.key) index new → IndexesKeys new (e ∷ es)
put_first index new es e indexed relists =
    let reaches : reaches_under e.key (e ∷ es) ≡ e.reach ∷ listed index e.key =
    ap (λ xs. map (λ o. o.reach) xs) (under_yes e.key e es (same_call_itself e.key)) ∙ ap (λ xs. e.reach ∷ xs) (sym (indexed e.key)) in
    indexes_by e.key index new es (e ∷ es) indexed (subst (λ (rs : List Interval). Relists e.key rs index new) (sym reaches) relists) (λ k other. under_no k e es other)

-- ---- the last entry

pub under_last : (key : Call) (front : List Entry) (e : Entry) → entries_under key (front ++ e ∷ []) ≡ entries_under key front ++ entries_under key (e ∷ [])
under_last key [] e = refl
under_last key (x ∷ xs) e =
    let rest = under_last key xs e in
    let go : (b : Bool) → cond b (x ∷ entries_under key (xs ++ e ∷ [])) (entries_under key (xs ++ e ∷ [])) ≡ cond b (x ∷ entries_under key xs) (entries_under key xs) ++ entries_under key (e ∷ []) = λ b. elim b as (λ v. cond v (x ∷ entries_under key (xs ++ e ∷ [])) (entries_under key (xs ++ e ∷ [])) ≡ cond v (x ∷ entries_under key xs) (entries_under key xs) ++ entries_under key (e ∷ [])) [ true ↦ ap (λ ys. x ∷ ys) rest | false ↦ rest ] in
    go (same_call x.key key)

map_last : (xs : List Entry) (e : Entry) → map (λ o. o.reach) (xs ++ e ∷ []) ≡ map (λ o. o.reach) xs ++ e.reach ∷ []
map_last [] e = refl
map_last (x ∷ xs) e = ap (λ ys. x.reach ∷ ys) (map_last xs e)

pub append_none : (xs : List Entry) → xs ++ [] ≡ xs
append_none [] = refl
append_none (x ∷ xs) = ap (λ ys. x ∷ ys) (append_none xs)

-- the reach of the last entry stands last among those of its key
pub reaches_last : (index : List (Call × List Interval)) (front : List Entry) (e : Entry) → IndexesKeys index (front ++ e ∷ []) → listed index e.key ≡ reaches_under e.key front ++ e.reach ∷ []
reaches_last index front e indexed =
    indexed e.key ∙ ap (λ xs. map (λ o. o.reach) xs) (under_last e.key front e ∙ ap (λ ys. entries_under e.key front ++ ys) (under_yes e.key e [] (same_call_itself e.key)))
    ∙ map_last (entries_under e.key front) e

last_other : (key : Call) (front : List Entry) (e : Entry) → same_call e.key key ≡ false → entries_under key (front ++ e ∷ []) ≡ entries_under key front
last_other key front e other = under_last key front e ∙ ap (λ ys. entries_under key front ++ ys) (under_no key e [] other) ∙ append_none (entries_under key front)

pub dropped_last : (index new : List (Call × List Interval)) (front : List Entry) (e : Entry) → IndexesKeys index (front ++ e ∷ []) → Relists e.key (reaches_under e.key front) index new → IndexesKeys new front
dropped_last index new front e indexed relists =
    indexes_by e.key index new (front ++ e ∷ []) front indexed relists (λ k other. sym (last_other k front e other))

-- ---- what the index gives of a key

no_reach : (es : List Entry) → map (λ e. e.reach) es ≡ [] → es ≡ []
no_reach [] h = refl
no_reach (e ∷ es) h = cc

pub listed_are : (index : List (Call × List Interval)) (key : Call) (es : List Entry) (rs : List Interval) → IndexesKeys index es → listed index key ≡ rs → AreOf key (entries_under key es) rs
listed_are index key es rs indexed h = record { of_key = all_under key es; reaches = sym (indexed key) ∙ h }

-- a key of which nothing is listed has no entry
pub none_under : (index : List (Call × List Interval)) (key : Call) (es : List Entry) → IndexesKeys index es → listed index key ≡ [] → entries_under key es ≡ []
none_under index key es indexed h = no_reach (entries_under key es) (sym (indexed key) ∙ h)
