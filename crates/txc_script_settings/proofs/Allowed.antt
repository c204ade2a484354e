-- A setting of a document with no fault is in the range of its key.
use Rattle.std.proofs.Common.{◌≡◌, ℕ, ◌≤◌, Bool, true, false, List, Option, Some, None, Ordering, Less, Equal, Greater, nat_cmp, refl, sym, ap, subst, arith}
use Rattle.std.proofs.lemmas.Bool.{and_parts, false≢true}
use Rattle.std.proofs.lemmas.Bool.Decides.{nat_tests}
use Rattle.std.proofs.lemmas.Map.Lookups.{exact_bytes}
use Rattle.std.specs.Cmp.Lexicographic.{slice_cmp}
use Rattle.std.specs.Ordering.{match_ordering}
use Rattle.std.specs.Option.{IfSome}
use Rattle.std.specs.Prelude.{if◌then◌else◌, option_and_then, unwrap_or, nat_le, is_some}
use Rattle.toml.specs.Data.{Data, Members, no_members, member, get_member}
use Rattle.txc_script_settings.specs.Keys.{first_fault, is_allowed, is_within, natural_of, range_of, setting}

-- where a document has no fault, its first member is allowed, and the others have none
parts : (allowed : Bool) (key : List ℕ) (rest : Option (List ℕ)) → (if allowed then rest else Some key) ≡ None → (allowed ≡ true) × (rest ≡ None)
parts true key rest h = (refl, h)
parts false key rest h = absurd (false≢true (sym (ap is_some h)))

found_at : (o : Ordering) (key first : List ℕ) (value : Data) (rest : Option Data) → o ≡ slice_cmp nat_cmp key first → is_allowed first value ≡ true
    → IfSome rest (λ d. is_allowed key d ≡ true) → IfSome (match_ordering o rest (Some value) rest) (λ d. is_allowed key d ≡ true)
found_at Less key first value rest is here more = more
found_at Equal key first value rest is here more = subst (λ k. is_allowed k value ≡ true) (sym (exact_bytes key first (sym is))) here
found_at Greater key first value rest is here more = more

pub allowed_at : (document : Members) (key : List ℕ) → first_fault document ≡ None → IfSome (get_member key document) (λ d. is_allowed key d ≡ true)
allowed_at no_members key h = tt
allowed_at (member first value rest) key h =
    let both = parts (is_allowed first value) first (first_fault rest) h in
    found_at (slice_cmp nat_cmp key first) key first value (get_member key rest) refl both.0 (allowed_at rest key both.1)

within : (range : ℕ × ℕ) (number : Option ℕ) (default : ℕ) → is_within (Some range) number ≡ true → (range.0 ≤ unwrap_or number default) × (unwrap_or number default ≤ range.1)
within range (Some n) default h = let both = and_parts (nat_le range.0 n) (nat_le n range.1) h in (grind (arith, nat_tests, both.0), grind (arith, nat_tests, both.1))
within range None default h = absurd (false≢true h)

number_within : (found : Option Data) (key : List ℕ) (default least most : ℕ) → IfSome found (λ d. is_allowed key d ≡ true) → range_of key ≡ Some (least, most) → least ≤ default → default ≤ most
    → (least ≤ unwrap_or (option_and_then natural_of found) default) × (unwrap_or (option_and_then natural_of found) default ≤ most)
number_within None key default least most all range low high = (low, high)
number_within (Some d) key default least most all range low high = within (least, most) (natural_of d) default (subst (λ r. is_within r (natural_of d) ≡ true) range all)

pub setting_within : (document : Members) (key : List ℕ) (default least most : ℕ) → first_fault document ≡ None → range_of key ≡ Some (least, most) → least ≤ default → default ≤ most
    → (least ≤ setting document key default) × (setting document key default ≤ most)
setting_within document key default least most none range low high = number_within (get_member key document) key default least most (allowed_at document key none) range low high
