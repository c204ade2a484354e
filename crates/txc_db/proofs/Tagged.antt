-- Events beside their tags, and fronts of them.
use Rattle.std.proofs.Common.{◌≡◌, ℕ, zero, suc, ◌+◌, ◌==◌, ◌≤◌, ◌<◌, Bool, true, false, List, [], ◌∷◌, length, Some, slice_get, refl, ap, sym, subst, ◌∙◌, add-one, eqb-true, arith}
use Rattle.std.specs.Prelude.{IfSome}
use mathlib.Core.List.{IsPrefix}
use Rattle.std.proofs.lemmas.Bool.{eqb-false}
use Rattle.txc_tags.specs.Tags.{sets_match}
use Rattle.txc_stream.specs.Names.{Name}
use Rattle.txc_db.specs.Refusals.{NoneMatches}
use Rattle.txc_tags.specs.declared.tag.Tag.{Tag}
use Rattle.txc_db.specs.Facts.{EventValue}
use Rattle.txc_db.specs.FrontsAndFeeds.{FrontValue}
use Rattle.txc_db.specs.History.{History, AreTagged, tags_at}
use Rattle.txc_db.proofs.Histories.{tags_stay}

-- the event at a place has the tags of the stamp after it
pub tagged_at : (L : History) → AreTagged L → (t : ℕ) (v : EventValue) → slice_get L t ≡ Some v → v.tags ≡ tags_at L (t + 1)
tagged_at L tagged t v at = tagged (suc t) v at ∙ ap (tags_at L) (sym (add-one t))

-- one event more that does not match
pub none_more : (L : History) (base t : ℕ) (read : List Tag) → NoneMatches L base t read → sets_match (tags_at L (t + 1)) read ≡ false → NoneMatches L base (t + 1) read
none_more L base t read none off e low high = go (e == t + 1) refl
  where
    go : (b : Bool) → (e == t + 1) ≡ b → sets_match (tags_at L e) read ≡ false
    go true is = let same : e ≡ t + 1 = eqb-true e (t + 1) is in ap (λ n. sets_match (tags_at L n) read) same ∙ off
    go false is = let up : e ≤ t = let ne = eqb-false e (t + 1) is in omega (arith, high, ne) in none e low up

-- a front is its row of events and its history
pub front_is : (f : FrontValue) (events : Name) (L : History) → f.events ≡ events → f.history ≡ L → f ≡ record { events = events; history = L }
front_is f events L same is =
    let one : f ≡ record { events = events; history = f.history } = ap (λ (r : Name). let g : FrontValue = record { events = r; history = f.history } in g) same in
    one ∙ ap (λ (l : History). let g : FrontValue = record { events = events; history = l } in g) is

-- ---- notes of tags

noted_at : (L : History) (t : ℕ) (tags : List Tag) → t < length L → IfSome (slice_get L t) (λ (x : EventValue). tags ≡ x.tags)
    → (v : EventValue) × (slice_get L t ≡ Some v) × (tags ≡ v.tags)
noted_at [] t tags below note = absurd (omega (arith, below))
noted_at (x ∷ xs) zero tags below note = (x, refl, note)
noted_at (x ∷ xs) (suc t) tags below note = noted_at xs t tags (omega (arith, below)) note

-- the note of an event has its tags
pub noted_tags : (L : History) → AreTagged L → (t : ℕ) (tags : List Tag) → t < length L → IfSome (slice_get L t) (λ (x : EventValue). tags ≡ x.tags) → tags ≡ tags_at L (t + 1)
noted_tags L tagged t tags below note = let at = noted_at L t tags below note in at.2 ∙ tagged_at L tagged t at.0 at.1

-- a longer history has the same tags
pub prefix_tags : (L M : History) → IsPrefix L M → (e : ℕ) → e ≤ length L → tags_at M e ≡ tags_at L e
prefix_tags L M begins e within = subst (λ (l : History). tags_at l e ≡ tags_at L e) begins.1 (tags_stay L begins.0 e within)
