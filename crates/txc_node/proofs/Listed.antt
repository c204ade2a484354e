-- What the index of the tags lists, as the entries change.
use Rattle.std.proofs.Common.{◌≡◌, ◌≤◌, Bool, true, false, not, ◌||◌, cond, List, [], ◌∷◌, length, take, ℕ, suc, zero, Some, None, refl, sym, ap, subst, ◌∙◌, arith}
use Rattle.std.specs.Prelude.{Option, IfSome, slice_get}
use Rattle.std.specs.List.{AllByRecursion, find}
use Rattle.std.specs.Option.{option_map}
use Rattle.std.proofs.lemmas.Bool.{false≢true, or_right}
use Rattle.std.specs.HashMap.{HashMap}
use Rattle.txc_tags.specs.declared.tag.Rows.{Rows}
use Rattle.txc_tags.specs.declared.tag.Tag.{Tag}
use Rattle.txc_tags.specs.Tags.{same_tag, has_tag}
use Rattle.txc_tags.specs.Keys.{Call}
use Rattle.txc_tags.proofs.TagOrder.{same_itself}
use Rattle.txc_tags.proofs.All.{all-filter}
use Rattle.txc_node.specs.declared.entry.Entry.{Entry}
use Rattle.txc_node.specs.declared.place.Place.{Place}
use Rattle.txc_node.specs.declared.stored.Stored.{Stored}
use Rattle.txc_node.specs.Places.{place_of, equal_places, equal_places_is}
use Rattle.txc_node.specs.Entries.{same_place, others, AreApart}
use Rattle.txc_node.specs.IndexedEntries.{entry_at, stored_of, entries_under, lists, IsListed, IndexesTags, KeepsListed, with_first}
use Rattle.txc_node.proofs.Fronts.{all_at, found_self, holds_under}

has_more : (u : Tag) (us ts : List Tag) → AllByRecursion (λ t. has_tag us t ≡ true) ts → AllByRecursion (λ t. has_tag (u ∷ us) t ≡ true) ts
has_more u us [] h = tt
has_more u us (t ∷ ts) h = (or_right (same_tag t u) (has_tag us t) h.0, has_more u us ts h.1)

-- a set has each of its tags
own_tags : (ts : List Tag) → AllByRecursion (λ t. has_tag ts t ≡ true) ts
own_tags [] = tt
own_tags (t ∷ ts) = (ap (λ b. b || has_tag ts t) (same_itself t), has_more t ts ts (own_tags ts))

module _ {S : Type 0} (tables new : List (HashMap Rows (List Place) S)) where
  pub kept_tags : (q : Place) (ts : List Tag) → ((t : Tag) → lists tables t q ≡ true → lists new t q ≡ true) → AllByRecursion (λ t. lists tables t q ≡ true) ts → AllByRecursion (λ t. lists new t q ≡ true) ts
  kept_tags q [] k h = tt
  kept_tags q (t ∷ ts) k h = (k t h.0, kept_tags q ts k h.1)

  -- what is listed in excess does no harm
  pub listed_more : (es : List Entry) → KeepsListed (λ t q. Unit {0}) tables new → IndexesTags tables es → IndexesTags new es
  listed_more [] keeps h = tt
  listed_more (e ∷ es) keeps h = (λ still. kept_tags (place_of e) e.tags (λ t. keeps t (place_of e) tt) (h.0 still), listed_more es keeps h.1)

  own_kept : (q : Place) (us ts : List Tag) → AllByRecursion (λ t. has_tag us t ≡ true) ts → KeepsListed (λ t p. has_tag us t ≡ true) tables new → AllByRecursion (λ t. lists tables t q ≡ true) ts → AllByRecursion (λ t. lists new t q ≡ true) ts
  own_kept q us [] own keeps h = tt
  own_kept q us (t ∷ ts) own keeps h = (keeps t q own.0 h.0, own_kept q us ts own.1 keeps h.1)

  -- what is taken off at a place is none of the entry that stands there
  left_each : (all es : List Entry) (q : Place) → KeepsListed (λ t p. equal_places q p ≡ false) tables new → ((e : Entry) → entry_at all q ≡ Some e → KeepsListed (λ t p. has_tag e.tags t ≡ true) tables new)
      → AllByRecursion (λ o. entry_at all (place_of o) ≡ Some o) es → IndexesTags tables es → IndexesTags new es
  left_each all [] q places own stands h = tt
  left_each all (e ∷ es) q places own stands h = (
    (elim (equal_places q (place_of e)) as (λ b. equal_places q (place_of e) ≡ b → IsListed new (place_of e) (stored_of e)) [
      | true ↦ λ t still. own_kept (place_of e) e.tags e.tags (own_tags e.tags) (own e (ap (entry_at all) (equal_places_is q (place_of e) t) ∙ stands.0)) (h.0 still)
      | false ↦ λ t still. kept_tags (place_of e) e.tags (λ x. places x (place_of e) t) (h.0 still)
    ]) refl,
    left_each all es q places own stands.1 h.1,
  )

  pub left_off : (es : List Entry) (q : Place) → AreApart es → KeepsListed (λ t p. equal_places q p ≡ false) tables new → ((e : Entry) → entry_at es q ≡ Some e → KeepsListed (λ t p. has_tag e.tags t ≡ true) tables new) → IndexesTags tables es → IndexesTags new es
  left_off es q apart places own h = left_each es es q places own (found_self es apart) h

  -- a new entry that was listed goes first
  pub first_listed : (e : Entry) (q : Place) (es : List Entry) → q ≡ place_of e → KeepsListed (λ t q. Unit {0}) tables new → IsListed new q (stored_of e) → IndexesTags tables es → IndexesTags new (with_first e es)
  first_listed e q es at keeps own h = (subst (λ (p : Place). IsListed new p (stored_of e)) at own, all-filter (λ o. IsListed new (place_of o) (stored_of o)) (λ o. not (same_place o e)) es (listed_more es keeps h))

module _ {S : Type 0} (tables : List (HashMap Rows (List Place) S)) where
  pub brought_listed : (key : Call) (es : List Entry) (at : ℕ) (e : Entry) → slice_get (entries_under key es) at ≡ Some e → IndexesTags tables es → IndexesTags tables (e ∷ others e es)
  brought_listed key es at e is h =
      let P : Entry → Type 0 = λ o. IsListed tables (place_of o) (stored_of o) in
      (holds_under P key es at e h is, all-filter P (λ o. not (same_place o e)) es h)

-- what is taken off at the place of one for which there is no room is none of those that stay
module _ {S : Type 0} (tables new : List (HashMap Rows (List Place) S)) where
  pub evicted_listed : (n : ℕ) (es : List Entry) (evicted : Option Entry) → evicted ≡ slice_get es n → AreApart es → KeepsListed (λ t q. IfSome evicted (λ e. equal_places (place_of e) q ≡ false)) tables new
      → IndexesTags tables es → IndexesTags new (take n es)
  evicted_listed zero es evicted is apart keeps h = tt
  evicted_listed (suc n) [] evicted is apart keeps h = tt
  evicted_listed (suc n) (x ∷ es) evicted is apart keeps h =
      let away : IfSome evicted (λ e. equal_places (place_of e) (place_of x) ≡ false) = (elim evicted as (λ f. f ≡ slice_get es n → IfSome f (λ e. equal_places (place_of e) (place_of x) ≡ false)) [
        | None ↦ λ t. tt
        | Some e ↦ λ t. all_at (λ o. same_place o x ≡ false) es n e apart.0 (sym t)
      ]) is in
      ((λ still. kept_tags tables new (place_of x) x.tags (λ t. keeps t (place_of x) away) (h.0 still)), evicted_listed n es evicted is apart.1 keeps h.1)

-- ---- what is stored at a place

pub nothing_there : {A : Type 0} (es : List Entry) (q : Place) (e : Entry) → None ≡ option_map stored_of (entry_at es q) → entry_at es q ≡ Some e → A
nothing_there es q e none at =
    let no : None ≡ Some (stored_of e) = none ∙ ap (option_map stored_of) at in
    let other : true ≡ false = cc in
    absurd (false≢true (sym other))

pub stored_there : (es : List Entry) (q : Place) (e : Entry) (s : Stored) → Some s ≡ option_map stored_of (entry_at es q) → entry_at es q ≡ Some e → s.tags ≡ e.tags
stored_there es q e s is at =
    let both : Some s ≡ Some (stored_of e) = is ∙ ap (option_map stored_of) at in
    let same : s ≡ stored_of e = cc in
    ap (λ (u : Stored). u.tags) same

-- ---- how many there are

others_few : (e : Entry) (es : List Entry) → length (others e es) ≤ length es
others_few e [] = omega arith
others_few e (x ∷ es) =
    let rest = others_few e es in
    let go : (b : Bool) → length (cond (not b) (x ∷ others e es) (others e es)) ≤ suc (length es) = λ b. elim b as (λ v. length (cond (not v) (x ∷ others e es) (others e es)) ≤ suc (length es)) [ true ↦ omega (arith, rest) | false ↦ omega (arith, rest) ] in
    go (same_place x e)

-- an entry in the stead of another makes no more
pub no_more : (e o : Entry) (es : List Entry) → find (λ x. same_place x e) es ≡ Some o → length (with_first e es) ≤ length es
no_more e o [] h = let none : None ≡ Some o = h in cc
no_more e o (x ∷ es) h =
    let few = others_few e es in
    (elim (same_place x e) as (λ b. same_place x e ≡ b → cond b (Some x) (find (λ y. same_place y e) es) ≡ Some o → suc (length (cond (not b) (x ∷ others e es) (others e es))) ≤ suc (length es)) [
      | true ↦ λ t h. omega (arith, few)
      | false ↦ λ t h. let rest = no_more e o es h in omega (arith, rest)
    ]) refl h
