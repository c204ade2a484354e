-- The first fault of a table in its order is the least in byte order.
use Rattle.std.proofs.Common.{◌≡◌, ◌∙◌, ℕ, Bool, true, false, List, [], ◌∷◌, Option, Some, None, Ordering, Less, Equal, Greater, string_bytes, nat_cmp, option_map, Bor, refl, sym, ap, subst}
use Rattle.std.proofs.lemmas.Bool.{false≢true}
use Rattle.std.proofs.lemmas.Cmp.{nat_list_cmp_total}
use Rattle.std.proofs.lemmas.Map.Lookups.{exact_bytes}
use Rattle.std.proofs.lemmas.Option.{same_Some}
use Rattle.std.specs.Cmp.Lexicographic.{slice_cmp}
use Rattle.std.specs.List.{AllByRecursion}
use Rattle.std.specs.List.Sorted.{IsStrictlySortedBy}
use Rattle.std.specs.Map.{keys_of}
use Rattle.std.specs.Option.{IfSome}
use Rattle.std.specs.Ordering.{is_lt, match_ordering}
use Rattle.std.specs.Prelude.{if◌then◌else◌, is_some}
use Rattle.std.specs.String.{string_cmp}
use Rattle.toml.proofs.Views.{Entry}
use Rattle.toml.specs.Data.{Data, get_member}
use Rattle.toml.specs.View.{members_view, view}
use Rattle.txc_script_settings.specs.Keys.{IsLeastFault, first_fault, is_allowed}

none_is_some : {X : Type 0} (x : X) → None ≡ Some x → ⊥
none_is_some x e = false≢true (ap is_some e)

-- a key before a first key that all others exceed has no value
none_before : (other first : List ℕ) (es : List Entry) → slice_cmp nat_cmp other first ≡ Less → AllByRecursion (λ k. slice_cmp nat_cmp first (string_bytes k) ≡ Less) (keys_of es) → get_member other (members_view es) ≡ None
none_before other first [] below above = refl
none_before other first (e ∷ es) below above =
    rw (nat_list_cmp_total.trans other first (string_bytes e.0) below above.0) (none_before other first es below above.1)

-- the first member is at fault: no other fault stands before it
here : (o : Ordering) (other first : List ℕ) (es : List Entry) (value d : Data) → o ≡ slice_cmp nat_cmp other first
    → AllByRecursion (λ k. slice_cmp nat_cmp first (string_bytes k) ≡ Less) (keys_of es)
    → match_ordering o (get_member other (members_view es)) (Some d) (get_member other (members_view es)) ≡ Some value → is_lt o ≡ false
here Less other first es value d is above at = absurd (none_is_some value (sym (none_before other first es (sym is) above) ∙ at))
here Equal other first es value d is above at = refl
here Greater other first es value d is above at = refl

-- the first member is allowed: a fault stands among the others
later : (o : Ordering) (other first : List ℕ) (rest : Option Data) (value d : Data) → o ≡ slice_cmp nat_cmp other first → is_allowed first d ≡ true → is_allowed other value ≡ false
    → match_ordering o rest (Some d) rest ≡ Some value → rest ≡ Some value
later Less other first rest value d is good bad at = at
later Equal other first rest value d is good bad at =
    absurd (false≢true (sym bad ∙ (ap (λ k. is_allowed k value) (exact_bytes other first (sym is)) ∙ (ap (is_allowed first) (sym (same_Some d value at)) ∙ good))))
later Greater other first rest value d is good bad at = at

step : (allowed : Bool) (e : Entry) (es : List Entry) (key : List ℕ) → allowed ≡ is_allowed (string_bytes e.0) (view e.1)
    → AllByRecursion (λ k. slice_cmp nat_cmp (string_bytes e.0) (string_bytes k) ≡ Less) (keys_of es)
    → (first_fault (members_view es) ≡ Some key → IsLeastFault (members_view es) key)
    → (if allowed then first_fault (members_view es) else Some (string_bytes e.0)) ≡ Some key → IsLeastFault (members_view (e ∷ es)) key
step true e es key good above more found = λ other value at bad.
    more found other value (later (slice_cmp nat_cmp other (string_bytes e.0)) other (string_bytes e.0) _ value (view e.1) refl (sym good) bad at) bad
step false e es key good above more found = λ other value at bad.
    subst (λ k. is_lt (slice_cmp nat_cmp other k) ≡ false) (same_Some (string_bytes e.0) key found)
    (here (slice_cmp nat_cmp other (string_bytes e.0)) other (string_bytes e.0) es value (view e.1) refl above at)

pub least : (es : List Entry) (key : List ℕ) → IsStrictlySortedBy string_cmp (keys_of es) → first_fault (members_view es) ≡ Some key → IsLeastFault (members_view es) key
unfolding IsStrictlySortedBy
least [] key ordered found = absurd (none_is_some key found)
least (e ∷ es) key ordered found = step (is_allowed (string_bytes e.0) (view e.1)) e es key refl ordered.0 (least es key ordered.1) found

pub least_found : (r : Option (Bor (List ℕ))) (es : List Entry) → IsStrictlySortedBy string_cmp (keys_of es) → option_map (λ k. k.now) r ≡ first_fault (members_view es)
    → IfSome r (λ k. IsLeastFault (members_view es) k.now)
least_found None es ordered is = tt
least_found (Some k) es ordered is = least es k.now ordered (sym is)
