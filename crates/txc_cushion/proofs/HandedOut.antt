-- The pins that are handed out.
use Rattle.std.proofs.Common.{◌≡◌, ℕ, ◌+◌, ◌≤◌, Bool, true, false, List, length, map, take, get_or, filter, cond, Some, refl, arith, All, Contains}
use Rattle.std.proofs.lemmas.Bool.Decides.{nat_tests}
use Rattle.std.proofs.lemmas.List.{length-take, length-map}
use Rattle.std.proofs.lemmas.List.Elements.{All-map, All-take, All-filter, All-weaker, All-contains_itself, filter_passes}
use Rattle.txc_db.specs.History.{History, moment_at, IsAllowed}
use Rattle.txc_cushion.specs.declared.pin.Pin.{Pin}
use Rattle.txc_cushion.specs.declared.entry.PinEntry.{PinEntry}
use Rattle.txc_cushion.specs.declared.limits.TheConstants.{MAX_HANDED_OUT}
use Rattle.txc_cushion.specs.Pin.{PinsDescend}
use Rattle.txc_cushion.specs.Entries.{may_be_handed_out, is_among, with_user}
use Rattle.txc_cushion.specs.Cushion.{CushionValue, IsCushion, handed_out}
use Rattle.txc_cushion.proofs.Falling.{falls_filter, falls_take, falls_pins, falls_map}

-- the history shows the pin of the entry
abbrev IsShown : History → PinEntry → Type 0
IsShown L e = moment_at L e.pin.stamp ≡ Some e.pin.moment

-- ---- what a test says

pub handed_is_fresh : (now staleness at_least : ℕ) (e : PinEntry) → may_be_handed_out now staleness at_least e ≡ true → now ≤ e.pin.moment + staleness
handed_is_fresh now staleness at_least e may = grind (arith, nat_tests)

pub handed_is_late : (now staleness at_least : ℕ) (e : PinEntry) → may_be_handed_out now staleness at_least e ≡ true → at_least ≤ e.pin.stamp
handed_is_late now staleness at_least e may = grind (arith, nat_tests)

-- ---- what is handed out

module _ (c : CushionValue) (now staleness at_least : ℕ) (is : IsCushion c) where
  abbrev test : PinEntry → Bool
  test e = may_be_handed_out now staleness at_least e

  pub handed_shown : All (λ p. moment_at c.history p.stamp ≡ Some p.moment) (handed_out c now staleness at_least)
  handed_shown =
      All-map (λ (p : Pin). moment_at c.history p.stamp ≡ Some p.moment) (λ (e : PinEntry). e.pin) (take MAX_HANDED_OUT (filter test c.entries))
      (All-take (IsShown c.history) MAX_HANDED_OUT (filter test c.entries) (All-filter test (IsShown c.history) c.entries is.shown))

  pub handed_falls : PinsDescend (handed_out c now staleness at_least)
  handed_falls = falls_pins (take MAX_HANDED_OUT (filter test c.entries)) (falls_take MAX_HANDED_OUT (filter test c.entries) (falls_filter test c.entries is.falls))

  pub handed_few : length (handed_out c now staleness at_least) ≤ MAX_HANDED_OUT
  handed_few =
      let long = length-map (take MAX_HANDED_OUT (filter test c.entries)) (λ (e : PinEntry). e.pin) in
      let short = length-take MAX_HANDED_OUT (filter test c.entries) in
      omega (arith, long, short)

  pub handed_allowed : All (λ p. IsAllowed c.history p.stamp now staleness at_least) (handed_out c now staleness at_least)
  handed_allowed =
      let shown = All-filter test (IsShown c.history) c.entries is.shown in
      let passes = filter_passes test c.entries in
      let allowed : All (λ (e : PinEntry). IsAllowed c.history e.pin.stamp now staleness at_least) (filter test c.entries) = λ k d below. record {
        moment = (get_or (filter test c.entries) k d).pin.moment;
        pinned = shown k d below;
        fresh = handed_is_fresh now staleness at_least (get_or (filter test c.entries) k d) (passes k d below);
        late = handed_is_late now staleness at_least (get_or (filter test c.entries) k d) (passes k d below);
      } in
      All-map (λ (p : Pin). IsAllowed c.history p.stamp now staleness at_least) (λ (e : PinEntry). e.pin) (take MAX_HANDED_OUT (filter test c.entries))
      (All-take (λ (e : PinEntry). IsAllowed c.history e.pin.stamp now staleness at_least) MAX_HANDED_OUT (filter test c.entries) allowed)

  -- an entry from which the pin was handed out
  abbrev IsFrom : Pin → Type 0
  IsFrom p = (f : PinEntry) × Contains c.entries f × (f.pin ≡ p) × (test f ≡ true)

  handed_from : All IsFrom (handed_out c now staleness at_least)
  handed_from =
      let there = All-filter test (Contains c.entries) c.entries (All-contains_itself c.entries) in
      let passes = filter_passes test c.entries in
      let from : All (λ (e : PinEntry). IsFrom e.pin) (filter test c.entries) = λ k d below. (get_or (filter test c.entries) k d, there k d below, refl, passes k d below) in
      All-map IsFrom (λ (e : PinEntry). e.pin) (take MAX_HANDED_OUT (filter test c.entries)) (All-take (λ (e : PinEntry). IsFrom e.pin) MAX_HANDED_OUT (filter test c.entries) from)

  -- a stamp that is handed out is pinned
  pub handed_there : All (λ p. (f : PinEntry) × Contains c.entries f × (f.pin ≡ p)) (handed_out c now staleness at_least)
  handed_there = All-weaker IsFrom (λ (p : Pin). (f : PinEntry) × Contains c.entries f × (f.pin ≡ p)) (λ p from. (from.0, from.1, from.2)) (handed_out c now staleness at_least) handed_from

-- ---- the entries after it

pub with_user_pin : (pins : List Pin) (e : PinEntry) → (with_user pins e).pin ≡ e.pin
with_user_pin pins e = go (is_among e.pin.stamp pins)
  where
    go : (b : Bool) → (cond b (record e { users = e.users + 1 }) e).pin ≡ e.pin
    go true = refl
    go false = refl

-- what is done to each entry alone, and leaves its pin, leaves a pincushion
pub map_is : (f : PinEntry → PinEntry) → ((e : PinEntry) → (f e).pin ≡ e.pin) → (c : CushionValue) → IsCushion c → IsCushion (record c { entries = map f c.entries })
map_is f same c is = record {
  falls = falls_map f same c.entries is.falls;
  shown = All-map (IsShown c.history) f c.entries (All-weaker (IsShown c.history) (λ (e : PinEntry). IsShown c.history (f e)) (λ e shown. rw (same e) shown) c.entries is.shown);
  few = let long = length-map c.entries f in let few = is.few in omega (arith, long, few);
}
