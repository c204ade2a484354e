-- A pass over versions that cuts a stretch at each that matches leaves the validity.
use Rattle.std.proofs.Common.{◌≡◌, ◌⊎◌, inl, inr, ℕ, zero, suc, ◌+◌, ◌-◌, ◌<◌, ◌≤◌, ◌==◌, List, [], ◌∷◌, ◌++◌, take, length, get_or, map, filter, Bool, true, false, true≢false, cond, ◌&&◌, refl, sym, ap, subst, ◌∙◌, arith}
use Rattle.std.specs.List.{AllByRecursion}
use Rattle.std.proofs.lemmas.Bool.{cases_lt}
use Rattle.std.proofs.Math.Bool.{and-false}
use Rattle.txc_rows.specs.declared.version.Versioned.{Versioned}
use Rattle.txc_rows.specs.declared.query.Query.{Query}
use Rattle.txc_rows.specs.Versions.{row_of, suits, is_visible, shown_at, AreVersions}
use Rattle.txc_rows.proofs.Offered.{IsIn}
use Rattle.txc_validity.specs.Changes.{Turns, IsSteady}
use Rattle.txc_rows.specs.FoundAnswers.{HoldsOn}
use Rattle.txc_validity.specs.Validity.{IsValidity}
use Rattle.txc_validity.proofs.Edges.{IsEdge, edge}

-- the versions that match are visible throughout as they are at t
abbrev pub AreSteady : Query → ℕ → ℕ → ℕ → List Versioned → Type 0
AreSteady q t first last = AllByRecursion (λ v. suits q v ≡ true → IsSteady t first last v)

-- so the answer is the same throughout
steady_shows : (q : Query) (vs : List Versioned) (t first last : ℕ) → AreSteady q t first last vs → HoldsOn (λ s. shown_at q s vs) t first last
steady_shows q [] t first last all s a b = refl
steady_shows q (v ∷ vs) t first last all s a b = go (suits q v) refl (steady_shows q vs t first last all.1 s a b)
  where
    go : (f : Bool) → suits q v ≡ f → shown_at q s vs ≡ shown_at q t vs → shown_at q s (v ∷ vs) ≡ shown_at q t (v ∷ vs)
    go true e on =
        let seen : is_visible s v ≡ is_visible t v = all.0 e s a b in
        rw (e, seen) (elim (is_visible t v && true) as (λ c. map row_of (cond c (v ∷ filter (λ x. is_visible s x && suits q x) vs) (filter (λ x. is_visible s x && suits q x) vs)) ≡ map row_of (cond c (v ∷ filter (λ x. is_visible t x && suits q x) vs) (filter (λ x. is_visible t x && suits q x) vs))) [ true ↦ ap (λ rows. v.row ∷ rows) on | false ↦ on ])
    go false e on = rw (e, and-false (is_visible s v), and-false (is_visible t v)) on

-- ---- one version more

steady_less : (q : Query) (t first last later earlier : ℕ) → first ≤ later → earlier ≤ last → (vs : List Versioned) → AreSteady q t first last vs → AreSteady q t later earlier vs
steady_less q t first last later earlier a b [] all = tt
steady_less q t first last later earlier a b (v ∷ vs) all = (λ fits s x y. all.0 fits s (omega arith) (omega arith), steady_less q t first last later earlier a b vs all.1)

steady_push : (q : Query) (t first last : ℕ) (vs : List Versioned) (v : Versioned) → AreSteady q t first last vs → (suits q v ≡ true → IsSteady t first last v) → AreSteady q t first last (vs ++ v ∷ [])
steady_push q t first last [] v all one = (one, tt)
steady_push q t first last (w ∷ vs) v all one = (all.0, steady_push q t first last vs v all.1 one)

take_next : {X : Type 0} (xs : List X) (i : ℕ) (x : X) → i < length xs → x ≡ get_or xs i x → take (i + 1) xs ≡ take i xs ++ x ∷ []
take_next [] i x low is = absurd (omega arith)
take_next (y ∷ ys) zero x low is = ap (λ z. z ∷ []) (sym is)
take_next (y ∷ ys) (suc i) x low is = let e : suc i + 1 ≡ suc (i + 1) = omega arith in rw e (ap (λ zs. y ∷ zs) (take_next ys i x (omega arith) is))

pub steady_hit : (q : Query) (vs : List Versioned) (i t first last later earlier : ℕ) (v : Versioned) → i < length vs → v ≡ get_or vs i v → first ≤ later → earlier ≤ last → AreSteady q t first last (take i vs)
    → IsSteady t later earlier v → AreSteady q t later earlier (take (i + 1) vs)
steady_hit q vs i t first last later earlier v low is a b all one =
    subst (AreSteady q t later earlier) (sym (take_next vs i v low is)) (steady_push q t later earlier (take i vs) v (steady_less q t first last later earlier a b (take i vs) all) (λ _. one))

pub steady_miss : (q : Query) (vs : List Versioned) (i t first last : ℕ) (v : Versioned) → i < length vs → v ≡ get_or vs i v → AreSteady q t first last (take i vs) → suits q v ≡ false → AreSteady q t first last (take (i + 1) vs)
steady_miss q vs i t first last v low is all off =
    subst (AreSteady q t first last) (sym (take_next vs i v low is)) (steady_push q t first last (take i vs) v all (λ fits. absurd (true≢false (sym fits ∙ off))))

in_at : {X : Type 0} (xs : List X) (i : ℕ) (x : X) → i < length xs → x ≡ get_or xs i x → IsIn x xs
in_at [] i x low is = absurd (omega arith)
in_at (y ∷ ys) zero x low is = inl is
in_at (y ∷ ys) (suc i) x low is = inr (in_at ys i x (omega arith) is)

pub edge_next : (q : Query) (vs : List Versioned) (i s : ℕ) (v : Versioned) (Old New : Type 0) → i < length vs → v ≡ get_or vs i v → suits q v ≡ true → Old ⊎ Turns v s → (Old → New ⊎ IsEdge q vs s) → New ⊎ IsEdge q vs s
edge_next q vs i s v Old New low is fits (inl old) on = on old
edge_next q vs i s v Old New low is fits (inr turns) on = inr (v, in_at vs i v low is, fits, turns)

-- ---- after the last

low_edge : (q : Query) (vs : List Versioned) (t horizon first a b : ℕ) → AreVersions vs → horizon ≤ a → first ≤ t → t ≤ b → HoldsOn (λ s. shown_at q s vs) t a b → (first ≡ horizon) ⊎ IsEdge q vs first → first ≤ a
low_edge q vs t horizon first a b are low around high same (inl e) = omega arith
low_edge q vs t horizon first a b are low around high same (inr turns) = elim (cases_lt a first) [
  | inl under ↦
      let next : first - 1 + 1 ≡ first = omega arith in
      let before : shown_at q (first - 1) vs ≡ shown_at q t vs = same (first - 1) (omega arith) (omega arith) in
      let here : shown_at q first vs ≡ shown_at q t vs = same first (omega arith) (omega arith) in
      absurd (edge q vs (first - 1) are (subst (IsEdge q vs) (sym next) turns) (before ∙ sym here ∙ ap (λ s. shown_at q s vs) (sym next)))
  | inr from ↦ from
]

high_edge : (q : Query) (vs : List Versioned) (t newest last a b : ℕ) → AreVersions vs → b ≤ newest → t ≤ last → a ≤ t → HoldsOn (λ s. shown_at q s vs) t a b → (last ≡ newest) ⊎ IsEdge q vs (last + 1) → b ≤ last
high_edge q vs t newest last a b are high around low same (inl e) = omega arith
high_edge q vs t newest last a b are high around low same (inr turns) = elim (cases_lt last b) [
  | inl over ↦
      let here : shown_at q last vs ≡ shown_at q t vs = same last (omega arith) (omega arith) in
      let after : shown_at q (last + 1) vs ≡ shown_at q t vs = same (last + 1) (omega arith) (omega arith) in
      absurd (edge q vs last are turns (here ∙ sym after))
  | inr upto ↦ upto
]

pub valid_from : (q : Query) (vs : List Versioned) (t horizon newest first last : ℕ) → AreVersions vs → horizon ≤ first → first ≤ t → t ≤ last → last ≤ newest → AreSteady q t first last vs
    → (first ≡ horizon) ⊎ IsEdge q vs first → (last ≡ newest) ⊎ IsEdge q vs (last + 1)
    → IsValidity (λ s. shown_at q s vs) t horizon newest (record { lo = first; known = last; still = last == newest })
valid_from q vs t horizon newest first last are low before after high steady begins ends = record {
  low = low;
  around = (before, after);
  high = high;
  same = steady_shows q vs t first last steady;
  largest = λ a b p x y r same. (low_edge q vs t horizon first a b are p before y same begins, high_edge q vs t newest last a b are r after x same ends);
  still = refl;
}
