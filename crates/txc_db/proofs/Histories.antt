-- States and tags of histories.
use Rattle.std.proofs.Common.{◌≡◌, ℕ, zero, suc, ◌≤◌, ◌<◌, List, [], ◌∷◌, ◌++◌, length, take, fold, true, false, Option, Some, None, slice_get, refl, ap, sym, ◌∙◌, arith, ◌⊎◌, inl, inr}
use Rattle.std.proofs.Math.Seq.{take-length}
use Rattle.std.proofs.lemmas.List.{take-append-le}
use Rattle.std.proofs.lemmas.List.Sums.{fold-append}
use Rattle.std.proofs.lemmas.List.{length_push}
use Rattle.std.proofs.lemmas.Option.{slice_get_within}
use mathlib.Core.List.{IsPrefix}
use Rattle.txc_stream.proofs.Offered.{prefix_get}
use Rattle.txc_tags.specs.declared.tag.Tag.{Tag}
use Rattle.txc_tags.specs.Tags.{sets_match}
use Rattle.txc_rows.specs.declared.query.Query.{Query}
use Rattle.txc_rows.specs.States.{State, IsState, answer}
use Rattle.txc_rows.specs.RowTags.{covers_query, tags_between}
use Rattle.txc_rows.specs.Laws.{ChangedIsState, TagsAreSound, NoTagsBetween}
use Rattle.txc_db.specs.Facts.{Fact, commit, pin, EventValue}
use Rattle.txc_db.specs.History.{History, after_fact, state_after_event, state_at, tags_at, AreTagged, moment_at, moment_of, pinned_moment}

-- ---- states

fact_state : ChangedIsState → (f : Fact) (s : State) → IsState s → IsState (after_fact f s)
fact_state changed (commit net) s h = changed net s h
fact_state changed (pin m) s h = h

fold_state : ChangedIsState → (es : History) (s : State) → IsState s → IsState (fold state_after_event s es)
fold_state changed [] s h = h
fold_state changed (e ∷ es) s h = fold_state changed es (after_fact e.fact s) (fact_state changed e.fact s h)

pub is_state : ChangedIsState → (L : History) (t : ℕ) → IsState (state_at L t)
is_state changed L t = fold_state changed (take t L) [] tt

pub event_tags_sound : ChangedIsState → TagsAreSound → (L : History) (t : ℕ) (q : Query) (set : List Tag)
    → sets_match (tags_at L (suc t)) set ≡ false → covers_query set q ≡ true → answer q (state_at L t) ≡ answer q (state_at L (suc t))
event_tags_sound changed sound L t q set apart c = sound (state_at L t) (state_at L (suc t)) q set (is_state changed L t) (is_state changed L (suc t)) apart c

pub states_stay : (L more : History) (t : ℕ) → t ≤ length L → state_at (L ++ more) t ≡ state_at L t
states_stay L more t h = ap (fold state_after_event []) (take-append-le t L more h)

pub tags_stay : (L more : History) (e : ℕ) → e ≤ length L → tags_at (L ++ more) e ≡ tags_at L e
tags_stay L more zero h = refl
tags_stay L more (suc t) h = rw (states_stay L more t (omega arith), states_stay L more (suc t) h) refl

-- ---- pins

step_pin : (s : State) (L : History) (t m : ℕ) → pinned_moment (slice_get L t) ≡ Some m → fold state_after_event s (take (suc t) L) ≡ fold state_after_event s (take t L)
step_pin s [] t m e = absurd (let f = e in cc)
step_pin s (x ∷ xs) zero m e = go x.fact refl e
  where
    go : (f : Fact) → x.fact ≡ f → moment_of f ≡ Some m → after_fact x.fact s ≡ s
    go (commit net) is k = absurd (let f = k in cc)
    go (pin n) is k = rw is refl
step_pin s (x ∷ xs) (suc t) m e = step_pin (after_fact x.fact s) xs t m e

pub pin_stays : (L : History) (t m : ℕ) → moment_at L (suc t) ≡ Some m → state_at L (suc t) ≡ state_at L t
pin_stays L t m e = step_pin [] L t m e

pub pins_change_nothing : NoTagsBetween → (L : History) (t m : ℕ) → moment_at L (suc t) ≡ Some m → (state_at L (suc t) ≡ state_at L t) × (tags_at L (suc t) ≡ [])
pins_change_nothing none L t m e =
    let same = pin_stays L t m e in
    (same, ap (λ s. tags_between (state_at L t) s) same ∙ none (state_at L t))

-- ---- one event more

whole : (L : History) (e : EventValue) → take (suc (length L)) (L ++ e ∷ []) ≡ L ++ e ∷ []
whole L e = ap (λ n. take n (L ++ e ∷ [])) (let n : suc (length L) ≡ length (L ++ e ∷ []) = omega (arith, length_push L e) in n) ∙ take-length (L ++ e ∷ [])

pub state_before : (L : History) (e : EventValue) → state_at (L ++ e ∷ []) (length L) ≡ state_at L (length L)
state_before L e = states_stay L (e ∷ []) (length L) (omega arith)

pub state_pushed : (L : History) (e : EventValue) → state_at (L ++ e ∷ []) (suc (length L)) ≡ state_after_event (state_at L (length L)) e
state_pushed L e =
    ap (fold state_after_event []) (whole L e) ∙ (fold-append state_after_event [] L (e ∷ []) ∙ ap (λ xs. state_after_event (fold state_after_event [] xs) e) (sym (take-length L)))

pub tags_pushed : (L : History) (e : EventValue) → tags_at (L ++ e ∷ []) (suc (length L)) ≡ tags_between (state_at L (length L)) (state_after_event (state_at L (length L)) e)
tags_pushed L e = rw (state_before L e, state_pushed L e) refl

pushed_get : (L : History) (e v : EventValue) (t : ℕ) → slice_get (L ++ e ∷ []) t ≡ Some v → (slice_get L t ≡ Some v × (t < length L)) ⊎ ((t ≡ length L) × (v ≡ e))
pushed_get [] e v zero at = inr (refl, cc at)
pushed_get [] e v (suc t) at = absurd (let f = at in cc)
pushed_get (x ∷ xs) e v zero at = inl (at, omega arith)
pushed_get (x ∷ xs) e v (suc t) at = elim (pushed_get xs e v t at) [
  | inl old ↦ inl (old.0, omega (arith, old.1))
  | inr new ↦ inr (ap suc new.0, new.1)
]

-- where the new event stands beside its tags, each one does
pub tagged_pushed : (L : History) (e : EventValue) → AreTagged L → e.tags ≡ tags_between (state_at L (length L)) (state_after_event (state_at L (length L)) e) → AreTagged (L ++ e ∷ [])
tagged_pushed L e tagged beside zero v at = absurd (let f = at in cc)
tagged_pushed L e tagged beside (suc t) v at = elim (pushed_get L e v t at) [
  | inl old ↦ tagged (suc t) v old.0 ∙ sym (tags_stay L (e ∷ []) (suc t) (omega (arith, old.1)))
  | inr new ↦ ap (λ (x : EventValue). x.tags) new.1 ∙ (beside ∙ (sym (tags_pushed L e) ∙ ap (λ n. tags_at (L ++ e ∷ []) (suc n)) (sym new.0)))
]

-- a longer history has the same pins
pub moment_stays : (L more : History) (t moment : ℕ) → IsPrefix L more → moment_at L t ≡ Some moment → moment_at more t ≡ Some moment
moment_stays L more zero moment begins at = at
moment_stays L more (suc t) moment begins at = go (slice_get L t) refl at
  where
    go : (o : Option EventValue) → slice_get L t ≡ o → pinned_moment o ≡ Some moment → moment_at more (suc t) ≡ Some moment
    go None is here = absurd (let h = here in cc)
    go (Some e) is here = rw (prefix_get L more t e begins is) here

-- the stamp of a pin is not beyond the history
pub pin_within : (L : History) (t m : ℕ) → moment_at L t ≡ Some m → t ≤ length L
pin_within L zero m is = cc is
pin_within L (suc t) m is = go (slice_get L t) refl is
  where
    go : (o : Option EventValue) → slice_get L t ≡ o → pinned_moment o ≡ Some m → suc t ≤ length L
    go None there has = cc has
    go (Some e) there has = let within = slice_get_within L t e there in omega (arith, within)
