-- What making the table anew leaves of a connection.
use Rattle.std.proofs.Common.{◌≡◌, ℕ, ◌+◌, ◌<◌, List, [], ◌∷◌, map, length, drop, get_or, false, true, None, Some, Option, Ok, Err, Result, OnOk, IfErr, IsTrue, refl, sym, ap, subst, ◌∙◌}
use Rattle.std.specs.List.Sorted.{IsPermutation}
use Rattle.std.proofs.lemmas.List.{at_drop_more}
use Rattle.sqlite_trees.proofs.ListLemmas.{all-filter, all-permutation}
use Rattle.sqlite.specs.declared.error.Error.{Error}
use Rattle.sqlite.specs.State.{Shows, KeepsCounts, IsRolledBack}
use Rattle.sqlite.specs.Held.{Held, state}
use Rattle.sqlite.specs.Steps.{over_memory, FailsToCommit}
use Rattle.sqlite_trees.specs.declared.memory.MemStore.{MemStore}
use Rattle.sqlite.specs.Order.{Row, column}
use Rattle.sqlite.specs.Values.{bound_value}
use Rattle.txc_rows.specs.StorableVersions.{IsStorable}
use Rattle.txc_rows.specs.declared.placed.Placed.{Placed}
use Rattle.txc_rows.specs.Placed.{is_left, placed_left}
use Rattle.txc_rows.specs.StoredVersion.{AreCells, death, placed_from}
use Rattle.txc_rows.specs.LatestTable.{latest_in, HasLatest, IsKept, IsCall, IsSame}
use Rattle.txc_rows.proofs.HeldLemmas.{AreStorable, latest_by, undone_call, refused_call, committed_kept, ended_call}

pub same_then : (a b c : Held MemStore) → IsSame a b → IsSame b c → IsSame a c
same_then a b c first next = record { kept = next.kept; trees = next.trees ∙ first.trees }

pub call_since : {X : Type 0} (L : List Placed → Type 0) (old first end : Held MemStore) (r : Result X Error) → IsSame old first → IsCall L first end r → IsCall L old end r
call_since L old first end (Ok x) same call = record { kept = call.kept; leaves = call.leaves; unchanged = tt }
call_since L old first end (Err e) same call = record { kept = call.kept; leaves = tt; unchanged = call.unchanged ∙ same.trees }

pub undone_since : {X : Type 0} (L : List Placed → Type 0) (old first mid end : Held MemStore) (e : Error) → IsSame old first → (state over_memory mid).committed ≡ (state over_memory first).committed → IsRolledBack (state over_memory mid) (state over_memory end)
    → IsCall {X = X} L old end (Err e)
undone_since L old first mid end e same base back = refused_call L old end e (same_then old first end same (undone_call first mid end same.kept base back))

-- what is left of a list from an element on
pub next_first : {X : Type 0} (xs : List X) (i : ℕ) (x : X) → i < length xs → x ≡ get_or xs i x → drop i xs ≡ x ∷ drop (i + 1) xs
next_first xs i x low is = at_drop_more (λ ys. ys) xs i x low ∙ ap (λ y. y ∷ drop (i + 1) xs) (sym is)

-- ---- what a transaction begins with

module _ (h tx : Held MemStore) (begun : tx ≡ record h { in_transaction = true }) where
  pub begun_base : (state over_memory tx).committed ≡ (state over_memory h).committed
  begun_base = ap (λ (x : Held MemStore). (state over_memory x).committed) begun

  pub begun_now : (state over_memory tx).now ≡ (state over_memory h).now
  begun_now = ap (λ (x : Held MemStore). (state over_memory x).now) begun

-- ---- a row that was read is given

bound_death : (d : Option ℕ) → bound_value (death d) ≡ death d
bound_death None = refl
bound_death (Some d) = refl

pub bound_cells : (r : Row) → AreCells r → map bound_value (column r 0 ∷ column r 1 ∷ column r 2 ∷ column r 3 ∷ column r 4 ∷ column r 5 ∷ column r 6 ∷ []) ≡ r
bound_cells r is =
    let x = placed_from r in
    subst (λ (y : Row). map bound_value (column y 0 ∷ column y 1 ∷ column y 2 ∷ column y 3 ∷ column y 4 ∷ column y 5 ∷ column y 6 ∷ []) ≡ y) (sym is) (rw (bound_death x.version.died) refl)

-- ---- the table of a new store

abbrev Commits : Held MemStore → Held MemStore → Type 0
Commits mid end = IsTrue (state over_memory mid).in_transaction × Shows (state over_memory mid) (state over_memory end) (state over_memory mid).now (state over_memory mid).now false × KeepsCounts (state over_memory mid) (state over_memory end) × ((state over_memory end).marks ≡ [])

made_same : (mid end : Held MemStore) → HasLatest [] mid → end.in_transaction ≡ false → Commits mid end → IsSame mid end
made_same mid end has idle ok = committed_kept mid end has.table (rw has.latest_are tt) idle ok.1

pub made_kept : (mid end : Held MemStore) (r : Result (Unit {0}) Error) → HasLatest [] mid → end.in_transaction ≡ false → OnOk r (Commits mid end) → OnOk r (IsKept end)
made_kept mid end (Ok x) has idle ok = (made_same mid end has idle ok).kept
made_kept mid end (Err e) has idle ok = tt

pub made_empty : (mid end : Held MemStore) (r : Result (Unit {0}) Error) → HasLatest [] mid → end.in_transaction ≡ false → OnOk r (Commits mid end) → OnOk r (latest_in end ≡ [])
made_empty mid end (Ok x) has idle ok = latest_by mid end (made_same mid end has idle ok).trees ∙ has.latest_are
made_empty mid end (Err e) has idle ok = tt

-- ---- a table that is made anew

pub rebuilt_call : (from : ℕ) (old first mid end : Held MemStore) (left : List Placed) (r : Result (Unit {0}) Error) → IsKept old → IsSame old first → IsPermutation (placed_left from (latest_in old)) left → HasLatest left mid
    → (state over_memory mid).committed ≡ (state over_memory first).committed → end.in_transaction ≡ false → OnOk r (Commits mid end) → IfErr r (FailsToCommit (state over_memory mid) (state over_memory end)) → mid.in_transaction ≡ true
    → IsCall (IsPermutation (placed_left from (latest_in old))) old end r
rebuilt_call from old first mid end left r kept same are has base idle ok err inside =
    let L = IsPermutation (placed_left from (latest_in old)) in
    let each : AreStorable left = all-permutation (λ x. IsStorable x.version) _ left are (all-filter (λ x. IsStorable x.version) (λ x. is_left from x.version) (latest_in old) kept.each) in
    call_since L old first end r same (ended_call L first mid end r same.kept has.table (rw has.latest_are each) (rw has.latest_are are) base idle ok err inside)
