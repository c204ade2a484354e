-- Places that are listed together.
use Rattle.std.proofs.Common.{◌≡◌, true, false, ◌||◌, List, ◌∷◌, Option, Some, None, refl, sym, ap, ◌∙◌}
use Rattle.std.specs.Prelude.{unwrap_or}
use Rattle.std.specs.Option.{option_map}
use Rattle.std.proofs.lemmas.Bool.{false≢true}
use Rattle.txc_node.specs.declared.entry.Entry.{Entry}
use Rattle.txc_node.specs.declared.place.Place.{Place}
use Rattle.txc_node.specs.declared.stored.Stored.{Stored}
use Rattle.txc_node.specs.Places.{equal_places, equal_places_is, equal_places_itself}
use Rattle.txc_node.specs.IndexedEntries.{has_place, is_live, entry_at, stored_of}

pub is_later : (q first : Place) (ps : List Place) → equal_places q first ≡ false → has_place (first ∷ ps) q ≡ true → has_place ps q ≡ true
is_later q first ps other h = sym (ap (λ b. b || has_place ps q) other) ∙ h

-- what is not the place of the first is not the first
pub not_first : (place first q : Place) → equal_places first place ≡ true → equal_places place q ≡ false → equal_places q first ≡ false
not_first place first q is other = (elim (equal_places q first) as (λ b. equal_places q first ≡ b → b ≡ false) [
  | true ↦ λ t. absurd (false≢true (sym other ∙ ap (equal_places place) (equal_places_is q first t ∙ equal_places_is first place is) ∙ equal_places_itself place))
  | false ↦ λ t. refl
]) refl

-- where a still valid entry stands, the first is not, if none stands there
pub not_dead : (ps : List Entry) (first q : Place) → is_live ps first ≡ false → is_live ps q ≡ true → equal_places q first ≡ false
not_dead ps first q dead live = (elim (equal_places q first) as (λ b. equal_places q first ≡ b → b ≡ false) [
  | true ↦ λ t. absurd (false≢true (sym dead ∙ ap (is_live ps) (sym (equal_places_is q first t)) ∙ live))
  | false ↦ λ t. refl
]) refl

-- what stays behind the first stays
pub kept_behind : (q first : Place) (ps qs : List Place) → (has_place ps q ≡ true → has_place qs q ≡ true) → has_place (first ∷ ps) q ≡ true → has_place (first ∷ qs) q ≡ true
kept_behind q first ps qs kept h = (elim (equal_places q first) as (λ b. (b || has_place ps q) ≡ true → (b || has_place qs q) ≡ true) [ true ↦ λ h. refl | false ↦ kept ]) h

-- whether what is stored at a place is still valid
pub live_stored : (es : List Entry) (q : Place) (o : Option Stored) → o ≡ option_map stored_of (entry_at es q) → unwrap_or (option_map (λ s. s.reach.still) o) false ≡ is_live es q
unfolding is_live
live_stored es q o h = ap (λ (f : Option Stored). unwrap_or (option_map (λ s. s.reach.still) f) false) h ∙ elim (entry_at es q) as (λ f. unwrap_or (option_map (λ s. s.reach.still) (option_map stored_of f)) false ≡ unwrap_or (option_map (λ e. e.reach.still) f) false) [ None ↦ refl | Some e ↦ refl ]
