-- Pins that are given back one by one.
use Rattle.std.proofs.Common.{◌≡◌, ◌∙◌, ℕ, zero, suc, ◌+◌, ◌<◌, ◌≤◌, List, [], ◌∷◌, length, map, Result, Ok, Err, Some, refl, ap, sym, arith, get_or, take, drop, add-one, eq-eqb, slice_get}
use Rattle.std.proofs.Math.Seq.{drop-cons}
use Rattle.std.proofs.lemmas.List.{drop_all}
use Rattle.txc_cushion.specs.declared.error.UnknownPin.{UnknownPin}
use Rattle.txc_cushion.specs.declared.pin.Pin.{Pin}
use Rattle.txc_cushion.specs.declared.pins.Pins.{Pins}
use Rattle.txc_cushion.specs.Entries.{pins_of, times, users_of}
use Rattle.txc_cushion.specs.declared.entry.PinEntry.{PinEntry}
use Rattle.txc_cushion.specs.Cushion.{after_give_back, handed_out}
use Rattle.txc_cushion.specs.Laws.{GiveBackCountsUsers}
use Rattle.txc_cushion.specs.Refusals.{HaveUsers, IsFirstUnused}
use Rattle.txc_cushion.proofs.Counts.{times_cons, times_on}
use Rattle.txc_world.specs.Ports.{PortsValue}
use Rattle.txc_world.specs.PortRequests.{FreshTransition}
use Rattle.txc_world.specs.KeeperAtPorts.{GiveBackTransition}
use Rattle.txc_world.specs.Holdings.{CountRight, GivesBack, KeepsPins}
use Rattle.txc_world.proofs.SameEntries.{pins_back, pins_handed, same_entries}
use Rattle.txc_world.proofs.Times.{times_one}

-- of these pins all but the rest are given back
abbrev pub GivesBackSome : PortsValue → PortsValue → List Pin → List Pin → Type 0
GivesBackSome old new pins rest = HaveUsers old.cushion.entries (map (λ p. p.stamp) pins)
    → (stamp : ℕ) → users_of stamp new.cushion.entries + times stamp (map (λ p. p.stamp) pins)
    ≡ users_of stamp old.cushion.entries + times stamp (map (λ p. p.stamp) rest)

-- a stamp that has a user is not refused
not_unused : (p : PortsValue) (s stamp : ℕ) → IsFirstUnused p.cushion.entries (s ∷ []) stamp → 0 < users_of s p.cushion.entries → ⊥
not_unused p s stamp first some = go first.place first.there first.none_left
  where
    go : (place : ℕ) → slice_get (s ∷ []) place ≡ Some stamp → users_of stamp p.cushion.entries ≤ times stamp (take place (s ∷ [])) → ⊥
    go zero there none = let same : s ≡ stamp = cc there in let none' : users_of s p.cushion.entries ≤ 0 = rw same none in omega (arith, none', some)
    go (suc k) there none = cc there

given_one : {A : Type 0} → (old new : PortsValue) (s : ℕ) (given : Result A UnknownPin) → GiveBackCountsUsers → GiveBackTransition (s ∷ []) old new given
    → 0 < users_of s old.cushion.entries → (t : ℕ) → users_of t new.cushion.entries + times t (s ∷ []) ≡ users_of t old.cushion.entries
given_one old new s (Ok given) law transition some t = rw transition.0 (law old.cushion (s ∷ []) t transition.1).users
given_one old new s (Err unknown) law transition some t = absurd (not_unused old s unknown.stamp transition.1 some)

pub gives_one : {A : Type 0} → (old between new : PortsValue) (pins : List Pin) (i : ℕ) (pin : Pin) (given : Result A UnknownPin) → GiveBackCountsUsers
    → GiveBackTransition (pin.stamp ∷ []) between new given → i < length pins → pin ≡ get_or pins i pin → GivesBackSome old between pins (drop i pins)
    → GivesBackSome old new pins (drop (i + 1) pins)
gives_one old between new pins i pin given law transition within is before = λ have t.
    let s = pin.stamp in
    let rest = map (λ (p : Pin). p.stamp) (drop (i + 1) pins) in
    let first : drop i pins ≡ pin ∷ drop (i + 1) pins =
    drop-cons pins i pin within ∙ (ap (λ (p : Pin). p ∷ drop (suc i) pins) (sym is) ∙ ap (λ (n : ℕ). pin ∷ drop n pins) (sym (add-one i))) in
    let left : (x : ℕ) → times x (map (λ (p : Pin). p.stamp) (drop i pins)) ≡ times x (s ∷ rest) = λ x. ap (λ (ps : List Pin). times x (map (λ (p : Pin). p.stamp) ps)) first in
    let there = times_on s s rest (eq-eqb s s refl) in
    let now = before have s in
    let had = have s in
    let here = left s in
    let some : 0 < users_of s between.cushion.entries = omega (arith, there, now, had, here) in
    let one = given_one between new s given law transition some t in
    let was = before have t in
    let list = left t in
    let all = times_cons t s rest in
    let own = times_one t s in
    omega (arith, one, was, list, all, own)

pub gives_all : (old new : PortsValue) (pins : List Pin) (i : ℕ) → length pins ≤ i → GivesBackSome old new pins (drop i pins) → GivesBack old new pins
gives_all old new pins i past all = λ have t.
    let none : times t (map (λ (p : Pin). p.stamp) (drop i pins)) ≡ 0 = rw (drop_all i pins past) refl in
    let some = all have t in
    omega (arith, none, some)

-- no pin comes or goes
pub pins_then : {A : Type 0} → (old between new : PortsValue) (stamp : ℕ) (given : Result A UnknownPin) → KeepsPins old between
    → GiveBackTransition (stamp ∷ []) between new given → KeepsPins old new
pins_then old between new stamp (Ok given) keeps transition = rw transition.0 (record {
  pins = pins_back (stamp ∷ []) between.cushion.entries ∙ keeps.pins;
  same = ap (λ (p : PortsValue). record p { cushion = after_give_back p.cushion (stamp ∷ []) }) keeps.same;
})
pins_then old between new stamp (Err unknown) keeps transition = rw transition.0 keeps

-- pins that were handed out and are given back leave the users as they were
users_again : (old between new : PortsValue) (now staleness at_least : ℕ) (pins : Pins) → CountRight old → FreshTransition {A = Unit {0}} now staleness at_least old between (Ok pins)
    → GivesBack between new pins.pins.items → (t : ℕ) → users_of t new.cushion.entries ≡ users_of t old.cushion.entries
users_again old between new now staleness at_least pins right transition gives = λ t.
    let more : (x : ℕ) → users_of x between.cushion.entries ≡ users_of x old.cushion.entries + times x (map (λ (p : Pin). p.stamp) pins.pins.items) =
    λ x. rw (transition.0, transition.1) (right.fresh old.cushion now staleness at_least x right.cushion).users in
    let have : HaveUsers between.cushion.entries (map (λ (p : Pin). p.stamp) pins.pins.items) = λ x. let m = more x in omega (arith, m) in
    let m = more t in
    let g = gives have t in
    omega (arith, m, g)

-- and all else too
pub all_again : (old between new : PortsValue) (now staleness at_least : ℕ) (pins : Pins) → CountRight old → FreshTransition {A = Unit {0}} now staleness at_least old between (Ok pins)
    → GivesBack between new pins.pins.items → KeepsPins between new → new ≡ old
all_again old between new now staleness at_least pins right transition gives keeps =
    let handed : pins_of between.cushion.entries ≡ pins_of old.cushion.entries =
    rw transition.0 (pins_handed (handed_out old.cushion now staleness at_least) old.cushion.entries) in
    let entries : old.cushion.entries ≡ new.cushion.entries =
    same_entries old.cushion.entries new.cushion.entries (λ t. (right.once old.cushion t right.cushion).0) (sym (keeps.pins ∙ handed))
    (λ t. sym (users_again old between new now staleness at_least pins right transition gives t)) in
    keeps.same
    ∙ ap (λ (es : List PinEntry). record between { cushion = record between.cushion { entries = es } }) (sym entries)
    ∙ ap (λ (p : PortsValue). record p { cushion = record p.cushion { entries = old.cushion.entries } }) transition.0
