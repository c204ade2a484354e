-- What a store can hold it can hold after each change.
use Rattle.std.proofs.Common.{◌≡◌, ◌≢◌, ℕ, ◌≤◌, List, [], ◌∷◌, filter, Bool, true, false, cond, ◌&&◌, ◌==◌, Option, None, Some, is_none, refl, arith}
use borrow.Author.Tests.{eqb-true, eq-eqb}
use Rattle.sqlite_trees.proofs.ListLemmas.{all_of, all_weaker, all-append, all-filter, all-map}
use Rattle.txc_stamp.specs.declared.stamp.TheConstants.{MOST_STAMP}
use Rattle.txc_rows.specs.declared.version.Versioned.{Versioned}
use Rattle.txc_rows.specs.declared.query.Change.{Change}
use Rattle.txc_rows.specs.declared.query.Change.TheVariants.{Put, Remove}
use Rattle.txc_rows.specs.Values.{RowValue, IsRow}
use Rattle.txc_rows.specs.States.{is_at}
use Rattle.txc_rows.specs.Versions.{is_current, closed, removed, put, after_write}
use Rattle.txc_rows.specs.StorableVersions.{IsStorable, HasEnded, AreHeld, IsWritable}
use Rattle.txc_rows.proofs.Members.{both_true}
use Rattle.txc_rows.proofs.Pairs.{pairs_mapped, pairs_pushed, pairs_left}

pub none_is : (d : Option ℕ) → is_none d ≡ true → d ≡ None
none_is None e = refl
none_is (Some d) e = absurd (let f = e in cc)

-- the current version of a table and id, as the test has it
pub hit_is : (t i : ℕ) (v : Versioned) → is_at t i v.row && is_current v ≡ true → (v.row.table ≡ t) × (v.row.id ≡ i) × (v.died ≡ None)
hit_is t i v e =
    let two = both_true (is_at t i v.row) (is_current v) e in
    let here = both_true (v.row.table == t) (v.row.id == i) two.0 in
    (eqb-true _ _ here.0, eqb-true _ _ here.1, none_is v.died two.1)

pub hit_from : (t i : ℕ) (v : Versioned) → v.row.table ≡ t → v.row.id ≡ i → v.died ≡ None → is_at t i v.row && is_current v ≡ true
hit_from t i v a b c = rw (eq-eqb _ _ a, eq-eqb _ _ b, c) refl

pub holdable_closed : (t i s : ℕ) → s ≤ MOST_STAMP → (v : Versioned) → IsStorable v → IsStorable (closed t i s v)
holdable_closed t i s low v is = record { row = is.row; born = is.born; died = λ d e. go (is_at t i v.row && is_current v) d e }
  where
    go : (b : Bool) → (d : ℕ) → cond b (Some s) v.died ≡ Some d → d ≤ MOST_STAMP
    go true d e = let same : s ≡ d = cc in omega arith
    go false d e = is.died d e

-- what had died has still
pub closed_dead : (t i s : ℕ) (v : Versioned) → v.died ≢ None → (closed t i s v).died ≢ None
closed_dead t i s v dead = go (is_at t i v.row && is_current v)
  where
    go : (b : Bool) → cond b (Some s) v.died ≡ None → ⊥
    go true e = cc
    go false e = dead e

held_removed : (t i s : ℕ) → s ≤ MOST_STAMP → (vs : List Versioned) → AreHeld vs → AreHeld (removed t i s vs)
held_removed t i s low vs h = record {
  each = all-map IsStorable (closed t i s) vs (all_weaker IsStorable _ (holdable_closed t i s low) vs h.each);
  ended = pairs_mapped HasEnded (closed t i s) (λ v w dead a b. closed_dead t i s v (dead a b)) vs h.ended;
}

-- a change of a table and id leaves no current version of them
none_current : (s : ℕ) (row : RowValue) (v : Versioned) → HasEnded (closed row.table row.id s v) (record { row = row; born = s; died = None })
none_current s row v a b = go (is_at row.table row.id v.row && is_current v) refl
  where
    go : (c : Bool) → is_at row.table row.id v.row && is_current v ≡ c → cond c (Some s) v.died ≡ None → ⊥
    go true hit e = cc
    go false off e = let hit = hit_from row.table row.id v a b e in cc

held_put : (s : ℕ) → s ≤ MOST_STAMP → (row : RowValue) → IsRow row → (vs : List Versioned) → AreHeld vs → AreHeld (put row s vs)
held_put s low row is vs h =
    let new : Versioned = record { row = row; born = s; died = None } in
    let before = held_removed row.table row.id s low vs h in
    record {
      each = all-append IsStorable (removed row.table row.id s vs) (new ∷ []) before.each (record { row = is; born = low; died = λ d e. absurd (let f = e in cc) }, tt);
      ended = pairs_pushed HasEnded new (removed row.table row.id s vs) (all-map (λ v. HasEnded v new) (closed row.table row.id s) vs (all_of _ (none_current s row) vs)) before.ended;
    }

pub held_write : (s : ℕ) (c : Change) (vs : List Versioned) → IsWritable s c → AreHeld vs → AreHeld (after_write s c vs)
held_write s (Put row) vs can h = held_put s can.0 row can.1 vs h
held_write s (Remove table id) vs can h = held_removed table id s can vs h

pub held_kept : (p : Versioned → Bool) (vs : List Versioned) → AreHeld vs → AreHeld (filter p vs)
held_kept p vs h = record { each = all-filter IsStorable p vs h.each; ended = pairs_left HasEnded p vs h.ended }
