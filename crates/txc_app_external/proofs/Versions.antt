-- What the versions of the tags of a read decide.
use Rattle.std.proofs.Common.{◌≡◌, inl, inr, ℕ, zero, suc, ◌<◌, ◌≤◌, List, [], ◌∷◌, map, Option, Some, None, Bool, true, false, cond, refl, ap, ◌∙◌, arith}
use Rattle.std.specs.List.{list_any}
use Rattle.std.specs.Option.{unwrap_or}
use Rattle.std.proofs.lemmas.Fmt.{decimal_is_IsNumeral}
use Rattle.std.proofs.lemmas.Bool.{cases_lt}
use Rattle.txc_app.specs.declared.ask.Answer.{Answer}
use Rattle.txc_app.specs.declared.ask.Answer.TheVariants as answers
use Rattle.txc_app_external.specs.Snapshots.{Tag, Snapshots, last_snapshot, is_noted, last_noted, version_rows}
use Rattle.txc_app_external.specs.Functions.{noted_in, first_with}
use Rattle.txc_app_external.specs.Laws.{AreNumbered, FoundInEachSuchSnapshot}

module _ (D : Snapshots) where
  -- the number of the last step that noted the tag, or 0
  abbrev last : Tag → ℕ → ℕ
  last t k = unwrap_or (last_noted D t k) 0

  last_below : (t : Tag) (k : ℕ) → last t k ≤ k
  last_below t zero = omega arith
  last_below t (suc k) = go (is_noted D (suc k) t) (last_below t k)
    where
      go : (b : Bool) → last t k ≤ k → unwrap_or (cond b (Some (suc k)) (last_noted D t k)) 0 ≤ suc k
      go true h = omega arith
      go false h = omega arith

  not_after : (t : Tag) (k j n : ℕ) → last t k ≤ j → j < n → n ≤ k → is_noted D n t ≡ false
  not_after t zero j n low after within = absurd (omega arith)
  not_after t (suc k) j n low after within = go (is_noted D (suc k) t) refl low (not_after t k j n)
    where
      here : n ≡ suc k → is_noted D (suc k) t ≡ false → is_noted D n t ≡ false
      here e h = ap (λ i. is_noted D i t) e ∙ h

      go : (b : Bool) → is_noted D (suc k) t ≡ b → unwrap_or (cond b (Some (suc k)) (last_noted D t k)) 0 ≤ j
          → (last t k ≤ j → j < n → n ≤ k → is_noted D n t ≡ false) → is_noted D n t ≡ false
      go true e h rest = absurd (omega arith)
      go false e h rest = elim (cases_lt k n) [ inl past ↦ here (omega (arith, past, within)) e | inr before ↦ rest h after before ]

  number_is : (t : Tag) (k : ℕ) → k ≤ last_snapshot D → AreNumbered D → noted_in (version_rows t (last_noted D t k)) ≡ last t k
  number_is t k taken few = go (last_noted D t k) (last_below t k)
    where
      go : (o : Option ℕ) → unwrap_or o 0 ≤ k → noted_in (version_rows t o) ≡ unwrap_or o 0
      go None h = refl
      go (Some n) h = (decimal_is_IsNumeral n (omega (arith, few))).1

  -- the versions of these tags in snapshot k
  abbrev versions_at : ℕ → List Tag → List Answer
  versions_at k tags = map (λ t. answers.Rows (version_rows t (last_noted D t k))) tags

  first_below : (k : ℕ) → k ≤ last_snapshot D → AreNumbered D → (tags : List Tag) → first_with (versions_at k tags) ≤ k
  first_below k taken few [] = omega arith
  first_below k taken few (t ∷ ts) =
      let rest = first_below k taken few ts in let here = last_below t k in let same = number_is t k taken few in
      omega (arith, rest, here, same)

  none_touched : (k : ℕ) → k ≤ last_snapshot D → AreNumbered D → (j n : ℕ) → j < n → n ≤ k → (tags : List Tag)
      → first_with (versions_at k tags) ≤ j → list_any (is_noted D n) tags ≡ false
  none_touched k taken few j n after within [] low = refl
  none_touched k taken few j n after within (t ∷ ts) low =
      let same = number_is t k taken few in
      let here : is_noted D n t ≡ false = not_after t k j n (omega (arith, low, same)) after within in
      rw here (none_touched k taken few j n after within ts (omega (arith, low)))

pub found_in_each : FoundInEachSuchSnapshot
found_in_each D r k covered few taken =
    let low = first_below D k taken few (D.tags_of r) in
    covered r (first_with (versions_at D k (D.tags_of r))) k low taken
    (λ n after within. none_touched D k taken few _ n after within (D.tags_of r) (omega arith))
