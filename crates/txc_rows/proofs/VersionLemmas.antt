-- Versions that follow one another still do after a write of changes and after a purge.
use Rattle.std.proofs.Common.{◌≡◌, ◌≢◌, inl, inr, ℕ, ◌<◌, ◌≤◌, List, [], ◌∷◌, filter, Bool, true, false, cond, ◌&&◌, Option, None, Some, refl, arith}
use Rattle.std.specs.List.{AllByRecursion}
use Rattle.sqlite_trees.proofs.ListLemmas.{all_weaker, all_both, all-append, all-filter, all-map}
use Rattle.txc_rows.specs.declared.version.Versioned.{Versioned}
use Rattle.txc_rows.specs.declared.query.Change.{Change}
use Rattle.txc_rows.specs.declared.query.Change.TheVariants.{Put, Remove}
use Rattle.txc_rows.specs.Values.{RowValue}
use Rattle.txc_rows.specs.States.{is_at}
use Rattle.txc_rows.specs.Versions.{is_current, closed, removed, put, after_net, IsVersion, Follows, Pairwise, AreVersions, IsPutOver, IsChange, AreChanges}
use Rattle.txc_rows.specs.StorableVersions.{IsStorable}
use Rattle.txc_rows.proofs.Members.{bool_cases}
use Rattle.txc_rows.proofs.Pairs.{pairs_mapped, pairs_pushed, pairs_left}
use Rattle.txc_rows.proofs.StoredVersions.{hit_is, hit_from}

-- it stands for some stamps
abbrev pub HasLife : Versioned → Type 0
HasLife v = (d : ℕ) → v.died ≡ Some d → v.born < d

pub record AreLives (vs : List Versioned) : Type 0 where
  pub each : AllByRecursion HasLife vs
  pub apart : Pairwise Follows vs

abbrev IsBornBefore : ℕ → ℕ → ℕ → Versioned → Type 0
IsBornBefore t i s v = v.row.table ≡ t → v.row.id ≡ i → v.born < s

closed_life : (t i s : ℕ) (v : Versioned) → HasLife v → IsBornBefore t i s v → HasLife (closed t i s v)
closed_life t i s v is before d e = go (is_at t i v.row && is_current v) refl e
  where
    go : (b : Bool) → is_at t i v.row && is_current v ≡ b → cond b (Some s) v.died ≡ Some d → v.born < d
    go true hit f = let same : s ≡ d = cc in let at = hit_is t i v hit in let b = before at.0 at.1 in omega arith
    go false off f = is d f

-- a version that has died is not ended again
stays : (t i s : ℕ) (v : Versioned) (d : ℕ) → v.died ≡ Some d → (closed t i s v).died ≡ Some d
stays t i s v d e = elim (bool_cases (is_at t i v.row && is_current v)) [
  | inl hit ↦ absurd (let n = (hit_is t i v hit).2 in cc)
  | inr off ↦ rw off e
]

closed_follows : (t i s : ℕ) (v w : Versioned) → Follows v w → Follows (closed t i s v) (closed t i s w)
closed_follows t i s v w h = record { died = λ a b. let it = h.died a b in (it.0, stays t i s v it.0 it.1, it.2, it.3) }

removed_lives : (t i s : ℕ) (vs : List Versioned) → AreLives vs → AllByRecursion (IsBornBefore t i s) vs → AreLives (removed t i s vs)
removed_lives t i s vs h before = record {
  each = all-map HasLife (closed t i s) vs (all_both HasLife (IsBornBefore t i s) _ (closed_life t i s) vs h.each before);
  apart = pairs_mapped Follows (closed t i s) (closed_follows t i s) vs h.apart;
}

put_follows : (s : ℕ) (row : RowValue) (v : Versioned) → (v.row.table ≡ row.table → v.row.id ≡ row.id → IsPutOver s row v)
    → Follows (closed row.table row.id s v) (record { row = row; born = s; died = None })
put_follows s row v over = record { died = λ a b. go (is_at row.table row.id v.row && is_current v) refl a b }
  where
    go : (b : Bool) → is_at row.table row.id v.row && is_current v ≡ b → v.row.table ≡ row.table → v.row.id ≡ row.id → (d : ℕ) × (cond b (Some s) v.died ≡ Some d) × (d ≤ s) × (d ≡ s → v.row ≢ row)
    go true hit a b = (s, refl, omega arith, λ e. (over a b).differs (hit_is row.table row.id v hit).2)
    go false off a b = dead v.died refl
      where
        dead : (x : Option ℕ) → v.died ≡ x → (d : ℕ) × (v.died ≡ Some d) × (d ≤ s) × (d ≡ s → v.row ≢ row)
        dead None e = absurd (let hit = hit_from row.table row.id v a b e in cc)
        dead (Some d) e = let it = (over a b).died d e in (d, e, it.0, it.1)

put_lives : (s : ℕ) (row : RowValue) (vs : List Versioned) → AreLives vs → IsChange s (Put row) vs → AreLives (put row s vs)
put_lives s row vs h over =
    let new : Versioned = record { row = row; born = s; died = None } in
    let old = removed_lives row.table row.id s vs h (all_weaker (λ v. v.row.table ≡ row.table → v.row.id ≡ row.id → IsPutOver s row v) _ (λ v o a b. (o a b).born) vs over) in
    record {
      each = all-append HasLife (removed row.table row.id s vs) (new ∷ []) old.each (λ d e. absurd (let f = e in cc), tt);
      apart = pairs_pushed Follows new (removed row.table row.id s vs) (all-map (λ v. Follows v new) (closed row.table row.id s) vs (all_weaker _ _ (put_follows s row) vs over)) old.apart;
    }

written_lives : (s : ℕ) (net : List Change) (vs : List Versioned) → AreLives vs → AreChanges s net vs → AreLives (after_net s net vs)
written_lives s [] vs h are = h
written_lives s (Put row ∷ cs) vs h are = written_lives s cs (put row s vs) (put_lives s row vs h are.0) are.1
written_lives s (Remove t i ∷ cs) vs h are = written_lives s cs (removed t i s vs) (removed_lives t i s vs h are.0) are.1

-- a write of changes, where a store can hold what it leaves
pub written_versions : (s : ℕ) (net : List Change) (vs : List Versioned) → AreVersions vs → AreChanges s net vs → AllByRecursion IsStorable (after_net s net vs) → AreVersions (after_net s net vs)
written_versions s net vs h are can =
    let lives = written_lives s net vs (record { each = all_weaker IsVersion HasLife (λ v is d e. (is.life d e).0) vs h.each; apart = h.apart }) are in
    record { each = all_both IsStorable HasLife IsVersion (λ v is live. record { row = is.row; born = is.born; life = λ d e. (live d e, is.died d e) }) (after_net s net vs) can lives.each; apart = lives.apart }

-- any of them, in their order
pub kept_versions : (p : Versioned → Bool) (vs : List Versioned) → AreVersions vs → AreVersions (filter p vs)
kept_versions p vs h = record { each = all-filter IsVersion p vs h.each; apart = pairs_left Follows p vs h.apart }
