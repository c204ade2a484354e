-- Pins that are kept, as those of a pincushion.
use Rattle.std.proofs.Common.{◌≡◌, ◌∙◌, ℕ, ◌+◌, ◌<◌, ◌≤◌, ◌&&◌, not, nat_le, nat_lt, Bool, true, false, List, [], ◌∷◌, length, map, take, filter, get_or, Some, refl, sym, ap, arith, All}
use Rattle.std.proofs.lemmas.Bool.Decides.{nat_tests}
use Rattle.std.proofs.lemmas.List.{length-map, get_or-map, take_all}
use Rattle.std.proofs.lemmas.List.Elements.{All-map, All-filter, filter_passes}
use Rattle.std.proofs.lemmas.List.Kept.{AllPairs-filter}
use Rattle.std.proofs.lemmas.List.Sums.{length-filter, count_by-le-length}
use Rattle.txc_db.specs.History.{moment_at, IsAllowed}
use Rattle.txc_cushion.specs.declared.pin.Pin.{Pin}
use Rattle.txc_cushion.specs.declared.entry.PinEntry.{PinEntry}
use Rattle.txc_cushion.specs.declared.limits.TheConstants.{MAX_HANDED_OUT, MAX_USERS}
use Rattle.txc_cushion.specs.Pin.{is_older, PinsDescend}
use Rattle.txc_cushion.specs.Entries.{may_be_handed_out, pins_of}
use Rattle.txc_cushion.specs.Cushion.{CushionValue, IsCushion, handed_out}
use Rattle.txc_txn_ports.specs.declared.bounds.Bounds.{Bounds}
use Rattle.txc_txn_client.specs.PinLease.{HandedValue, fresh_of, is_fresh}

-- an entry of the pin which nobody uses
abbrev unused : Pin → PinEntry
unused p = record { pin = p; users = 0 }

-- a pincushion that has the kept pins alone
abbrev pub cushion_of : HandedValue → CushionValue
cushion_of h = record { events = h.front.events; history = h.front.history; entries = map unused h.pins }

fresh_is_now : (asked : Bounds) (p : Pin) → is_fresh asked p ≡ true → asked.now ≤ p.moment + asked.staleness
fresh_is_now asked p is = grind (arith, nat_tests)

fresh_is_late : (asked : Bounds) (p : Pin) → is_fresh asked p ≡ true → asked.at_least ≤ p.stamp
fresh_is_late asked p is = grind (arith, nat_tests)

-- a kept pin may be handed out where it is fresh
same_test : (asked : Bounds) (p : Pin) → may_be_handed_out asked.now asked.staleness asked.at_least (unused p) ≡ is_fresh asked p
same_test asked p = go (nat_le asked.at_least p.stamp)
  where
    go : (b : Bool) → not (is_older asked.staleness asked.now p) && (b && nat_lt 0 MAX_USERS) ≡ not (is_older asked.staleness asked.now p) && b
    go true = refl
    go false = refl

module _ (h : HandedValue) (asked : Bounds) (shown : All (λ p. moment_at h.front.history p.stamp ≡ Some p.moment) h.pins) (falls : PinsDescend h.pins) (few : length h.pins ≤ MAX_HANDED_OUT) where
  pub fresh_shown : All (λ p. moment_at h.front.history p.stamp ≡ Some p.moment) (fresh_of asked h)
  fresh_shown = All-filter (is_fresh asked) (λ (p : Pin). moment_at h.front.history p.stamp ≡ Some p.moment) h.pins shown

  pub fresh_falls : PinsDescend (fresh_of asked h)
  fresh_falls = AllPairs-filter (λ (newer older : Pin). older.stamp < newer.stamp) (is_fresh asked) h.pins falls

  pub fresh_few : length (fresh_of asked h) ≤ MAX_HANDED_OUT
  fresh_few = omega (arith, length-filter (is_fresh asked) h.pins, count_by-le-length (is_fresh asked) h.pins, few)

  pub fresh_allowed : All (λ p. IsAllowed h.front.history p.stamp asked.now asked.staleness asked.at_least) (fresh_of asked h)
  fresh_allowed =
      let passes = filter_passes (is_fresh asked) h.pins in
      λ i d below. record {
        moment = (get_or (filter (is_fresh asked) h.pins) i d).moment;
        pinned = fresh_shown i d below;
        fresh = fresh_is_now asked (get_or (filter (is_fresh asked) h.pins) i d) (passes i d below);
        late = fresh_is_late asked (get_or (filter (is_fresh asked) h.pins) i d) (passes i d below);
      }

  pub cushion_is : IsCushion (cushion_of h)
  cushion_is = record {
    falls = λ i j d less below.
        let long : length (map unused h.pins) ≡ length h.pins = length-map h.pins unused in
        let at_i : get_or (map unused h.pins) i d ≡ unused (get_or h.pins i d.pin) = get_or-map unused h.pins i d.pin d (omega (arith, long, below, less)) in
        let at_j : get_or (map unused h.pins) j d ≡ unused (get_or h.pins j d.pin) = get_or-map unused h.pins j d.pin d (omega (arith, long, below)) in
        rw (at_i, at_j) (falls i j d.pin less (omega (arith, long, below)));
    shown = All-map (λ (e : PinEntry). moment_at h.front.history e.pin.stamp ≡ Some e.pin.moment) unused h.pins shown;
    few = omega (arith, length-map h.pins unused, few);
  }

  -- the pins alone of those of the entries that may be handed out
  filtered : (ps : List Pin) → pins_of (filter (may_be_handed_out asked.now asked.staleness asked.at_least) (map unused ps)) ≡ filter (is_fresh asked) ps
  filtered [] = refl
  filtered (p ∷ ps) = go (is_fresh asked p) refl (filtered ps)
    where
      go : (b : Bool) → is_fresh asked p ≡ b → pins_of (filter (may_be_handed_out asked.now asked.staleness asked.at_least) (map unused ps)) ≡ filter (is_fresh asked) ps
          → pins_of (filter (may_be_handed_out asked.now asked.staleness asked.at_least) (unused p ∷ map unused ps)) ≡ filter (is_fresh asked) (p ∷ ps)
      go true is next = rw (same_test asked p ∙ is, is) (ap (λ (l : List Pin). p ∷ l) next)
      go false is next = rw (same_test asked p ∙ is, is) next

  pub handed_are_fresh : fresh_of asked h ≡ handed_out (cushion_of h) asked.now asked.staleness asked.at_least
  handed_are_fresh =
      let kept = filter (may_be_handed_out asked.now asked.staleness asked.at_least) (map unused h.pins) in
      let long : length (pins_of kept) ≡ length kept = length-map kept (λ (e : PinEntry). e.pin) in
      let same : length (pins_of kept) ≡ length (filter (is_fresh asked) h.pins) = ap length (filtered h.pins) in
      let all : take MAX_HANDED_OUT kept ≡ kept = take_all MAX_HANDED_OUT kept (omega (arith, long, same, fresh_few)) in
      sym (ap pins_of all ∙ filtered h.pins)
