-- A site at which a transaction begins, ends, or is put back.
use Rattle.std.proofs.Common.{◌≡◌, ◌∙◌, ◌==◌, ◌+◌, ◌<◌, ◌%◌, ℕ, Bool, true, false, Option, Some, None, refl, ap, sym, subst, arith, eqb-true, ltb-true, nat_lt}
use Rattle.std.specs.Prelude.{if◌then◌else◌}
use Rattle.std.proofs.lemmas.Bool.{and_parts}
use Rattle.slab.specs.Slab.{Slab, get, slab_len}
use Rattle.txc_caller.specs.Ports.{HasGrownDatabase}
use Rattle.txc_caller.specs.CallerTxn.{CallerValue, KeepsCaller}
use Rattle.txc_c.specs.Opened.{IsOpenOf, OpenStays}
use Rattle.txc_c.specs.Sites.{of_number, open_at, HasPutAtPlace, HasBegunAt, HasEndedAt, HasMadeRoom, HasTakenOut, IsPlaced, IsSite, SiteValue}
use Rattle.txc_c.specs.declared.opened.Open.{Open}
use Rattle.txc_c.specs.declared.opened.Opened.{Opened}
use Rattle.txc_c.specs.declared.opened.TheConstants.{MAX_OPEN, MOST_BEGUN}
use Rattle.txc_c.proofs.Places.{found, none_named, none_there, one_named, others, place_named, placed_on, placed_with}

-- ---- what a number has found

found_if : (n : ℕ) (o : Opened) (x : Open) (b : Bool) → (o.number == n) ≡ b → (if b then Some o.txn else None) ≡ Some x → (o.number ≡ n) × (o.txn ≡ x)
found_if n o x true is h = (eqb-true o.number n is, cc)
found_if n o x false is h = absurd (cc)

-- it has this number, and is that transaction
pub named_at : (n : ℕ) (slot : Option Opened) (x : Open) → of_number n slot ≡ Some x → (o : Opened) × ((slot ≡ Some o) × (o.number ≡ n) × (o.txn ≡ x))
named_at n None x h = absurd (cc)
named_at n (Some o) x h = let f = found_if n o x (o.number == n) refl h in (o, (refl, f.0, f.1))

-- ---- one has begun

-- there is a place for it, and a number
pub may_add : (s0 s : SiteValue) → HasMadeRoom s0 s → (s.opened.vacant_key < MAX_OPEN) × (s.begun < MOST_BEGUN)
may_add s0 s room =
    let both = and_parts (nat_lt (slab_len s0.opened) MAX_OPEN) (nat_lt s0.begun MOST_BEGUN) room.may in
    let place = room.place in
    let number = ltb-true s0.begun MOST_BEGUN both.1 in
    let key = ap (λ (v : SiteValue). v.opened.vacant_key) room.same in
    let count = ap (λ (v : SiteValue). v.begun) room.same in
    (omega (arith, place, key), omega (arith, number, count))

module _ (stay : OpenStays) (s0 s : SiteValue) (room : HasMadeRoom s0 s) (site : IsSite s) (c' : CallerValue) (keeps : KeepsCaller s.caller c')
    (grown : HasGrownDatabase s.caller.ports.database c'.ports.database) (x : Open) (is_of : IsOpenOf c' x) (opened' : Slab Opened) (begun' n : ℕ)
    (added : HasPutAtPlace x s.opened s.begun opened' begun' n) where
  abbrev o' : Opened
  o' = record { number = n; txn = x }

  abbrev pub after_begin : SiteValue
  after_begin = record { caller = c'; opened = opened'; begun = begun' }

  pub begun_site : IsSite after_begin
  begun_site =
      let more = added.one_more in let low = (may_add s0 s room).1 in record {
        placed = placed_with c' begun' s.opened opened' added.place o' added.updates (record { count = begun'; numbered = added.numbered; given = omega arith; of_caller = is_of })
            (placed_on stay s.caller c' s.begun begun' s.opened keeps grown (omega (arith, more)) site.placed);
        few = omega (arith, more, low);
      }

  pub has_begun : (begin_is : CallerValue → CallerValue → Open → Type 0) → begin_is s0.caller c' x → HasBegunAt begin_is n s0 after_begin
  has_begun begin_is begun =
      let at : n % MAX_OPEN ≡ added.place = place_named added.place begun' n added.numbered in
      let as_was : (m : ℕ) → of_number m (get s.opened (m % MAX_OPEN)) ≡ open_at s0 m = λ (m : ℕ). ap (λ (v : SiteValue). open_at v m) room.same in record {
        is = x;
        vacant = sym (as_was n) ∙ none_there n (get s.opened (n % MAX_OPEN)) (ap (get s.opened) at ∙ added.vacant);
        here = found n o' (get opened' (n % MAX_OPEN)) (ap (get opened') at ∙ added.updates.changed) refl;
        others = λ m differs. others s.opened opened' n added.place (Some o') added.updates (one_named n o' (Some o') refl refl)
            (none_named n (get s.opened added.place) added.vacant) m differs ∙ as_was m;
        begun = added.one_more ∙ ap (λ (v : SiteValue). v.begun + 1) room.same;
        place = added.place;
        numbered = added.numbered;
        as_begun = begun;
      }

-- ---- it ends

module _ (stay : OpenStays) (s0 s : SiteValue) (n : ℕ) (o : Opened) (taken : HasTakenOut n o s0 s) (site : IsSite s) (c' : CallerValue) (keeps : KeepsCaller s.caller c')
    (grown : HasGrownDatabase s.caller.ports.database c'.ports.database) where
  abbrev pub after_end : SiteValue
  after_end = record { caller = c'; opened = s.opened; begun = s.begun }

  pub has_ended : (end_is : CallerValue → CallerValue → Type 0) → end_is s0.caller c' → HasEndedAt end_is n s0 after_end
  has_ended end_is ended = record {
    gone = none_there n (get s.opened (n % MAX_OPEN)) taken.updates.changed;
    others = record {
      others = others s0.opened s.opened n (n % MAX_OPEN) None taken.updates (none_named n None refl) (one_named n o (get s0.opened (n % MAX_OPEN)) taken.there taken.number_is);
      begun = ap (λ (v : SiteValue). v.begun) taken.same;
    };
    ended = ended;
  }

-- it was open
pub taken_open : (s0 s : SiteValue) (n : ℕ) (o : Opened) → HasTakenOut n o s0 s → open_at s0 n ≡ Some o.txn
taken_open s0 s n o taken = found n o (get s0.opened (n % MAX_OPEN)) taken.there taken.number_is

-- ---- it is put back

-- it is placed where it was, with the caller as it is now
pub placed_again : OpenStays → (s0 s : SiteValue) (n : ℕ) (o : Opened) → HasTakenOut n o s0 s → (c' : CallerValue) → KeepsCaller s.caller c' → HasGrownDatabase s.caller.ports.database c'.ports.database
    → (place : ℕ) → place ≡ n % MAX_OPEN → IsPlaced c' s.begun place o
placed_again stay s0 s n o taken c' keeps grown place place_is =
    subst (λ (p : ℕ). IsPlaced c' s.begun p o) (sym place_is)
    (record { count = taken.placed.count; numbered = taken.placed.numbered; given = taken.placed.given; of_caller = stay s.caller c' o.txn keeps grown taken.placed.of_caller })
