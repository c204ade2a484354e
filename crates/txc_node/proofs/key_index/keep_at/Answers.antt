use Rattle.std.proofs.Common.{◌≡◌, ◌+◌, false, cond, List, [], drop, Some, None, refl, sym, ap, subst, ◌∙◌, arith, suc}
use Rattle.std.specs.Prelude.{slice_get, swap_remove}
use Rattle.std.specs.List.{AllByRecursion}
use Rattle.std.specs.Map.{lookup}
use Rattle.std.proofs.lemmas.Bool.{false≢true}
use Rattle.indexmap.specs.IndexMap.{set_value_at}
use Rattle.txc_stamp.specs.Interval.{Interval}
use Rattle.txc_tags.specs.Keys.{Call, same_call}
use Rattle.txc_node.specs.IndexedEntries.{listed}
use Rattle.txc_node.specs.Sweep.{ends_by, lasting, AreAllLasting}
use Rattle.txc_node.proofs.Lasting.{dropped_from, dropped_listed, kept_from, kept_listed, none_past, set_there}
use Rattle.txc_node.proofs.key_index.keep_at.Goals as goal
use Rattle.txc_node.proofs.key_index.keep_at.Goals.{in-None, in-Some}

pub returns-then-not-stays-clause-lasting : goal.returns-then-not-stays-clause-lasting
returns-then-not-stays-clause-lasting c = elim c.match-get_index_mut.branch [
  | in-None w ↦ absurd (false≢true (sym c.if-not-stays.true ∙ w.stays-is))
  | in-Some w ↦
      let s = c.args.sweep.now in
      let i = c.args.i in
      let xs = c.args.versions.now.entries in
      let v = w.in-Some.reaches.now in
      let u = w.keep_lasting-stays.new.self in
      let at = set_there xs i v u (sym w.in-Some.ensures.value) in
      let mid : c.match-get_index_mut.versions.entries ≡ set_value_at xs i u = ap (λ m. m.entries) w.versions-is in
      let there : c.swap_remove_index.result ≡ Some (at.0, u) = c.swap_remove_index.ensures.entry ∙ ap (λ (es : List (Call × List Interval)). slice_get es i) mid ∙ at.2 in
      let none : lasting s.processed s.horizon v ≡ [] = w.keep_lasting-stays.ensures.none (sym w.stays-is ∙ c.if-not-stays.true) in
      let updates = rw there at c.swap_remove_index.ensures.updates in
      dropped_listed s.processed s.horizon xs c.swap_remove_index.new.self.entries i v u at.0 c.get_index_mut.ensures.unique at.1 at.2 none
      (λ k. updates.0 k ∙ ap (λ (es : List (Call × List Interval)). cond (same_call at.0 k) None (lookup (same_call k) es)) mid)
]

pub returns-then-not-stays-clause-from : goal.returns-then-not-stays-clause-from
returns-then-not-stays-clause-from c = elim c.match-get_index_mut.branch [
  | in-None w ↦ absurd (false≢true (sym c.if-not-stays.true ∙ w.stays-is))
  | in-Some w ↦ λ h.
      let s = c.args.sweep.now in
      let i = c.args.i in
      let xs = c.args.versions.now.entries in
      let v = w.in-Some.reaches.now in
      let u = w.keep_lasting-stays.new.self in
      let at = set_there xs i v u (sym w.in-Some.ensures.value) in
      let mid : c.match-get_index_mut.versions.entries ≡ set_value_at xs i u = ap (λ m. m.entries) w.versions-is in
      let there : c.swap_remove_index.result ≡ Some (at.0, u) = c.swap_remove_index.ensures.entry ∙ ap (λ (es : List (Call × List Interval)). slice_get es i) mid ∙ at.2 in
      let after = rw there at c.swap_remove_index.ensures.entries in
      let more : i + 1 ≡ suc i = omega arith in
      let left : c.swap_remove_index.new.self.entries ≡ swap_remove (set_value_at xs i u) i (at.0, u) = after ∙ ap (λ (es : List (Call × List Interval)). swap_remove es i (at.0, u)) mid in
      subst (λ (es : List (Call × List Interval)). AreAllLasting s.processed s.horizon (drop i es)) (sym left) (dropped_from s.processed s.horizon xs i u (at.0, u) (subst (λ n. AreAllLasting s.processed s.horizon (drop n xs)) more h))
]

pub returns-else-not-stays-clause-lasting : goal.returns-else-not-stays-clause-lasting
returns-else-not-stays-clause-lasting c = elim c.match-get_index_mut.branch [
  | in-None w ↦ rw w.versions-is (λ k. refl)
  | in-Some w ↦
      let s = c.args.sweep.now in
      let xs = c.args.versions.now.entries in
      let u = w.keep_lasting-stays.new.self in
      let mid : c.match-get_index_mut.versions.entries ≡ set_value_at xs c.args.i u = ap (λ m. m.entries) w.versions-is in
      let kept = w.keep_lasting-stays.ensures.more (sym w.stays-is ∙ c.if-not-stays.false) in
      subst (λ (es : List (Call × List Interval)). (k : Call) → lasting s.processed s.horizon (listed es k) ≡ lasting s.processed s.horizon (listed xs k)) (sym mid)
      (kept_listed s.processed s.horizon xs c.args.i w.in-Some.reaches.now u (sym w.in-Some.ensures.value) kept)
]

pub returns-else-not-stays-clause-from : goal.returns-else-not-stays-clause-from
returns-else-not-stays-clause-from c = elim c.match-get_index_mut.branch [
  | in-None w ↦ λ h.
      let s = c.args.sweep.now in
      let xs = c.args.versions.now.entries in
      subst (λ (es : List (Call × List Interval)). AreAllLasting s.processed s.horizon (drop c.args.i es)) (sym (ap (λ m. m.entries) w.versions-is))
      (none_past (λ x. AllByRecursion (λ r. ends_by s.processed s.horizon r ≡ false) x.1) xs c.args.i (sym w.in-None.ensures.value))
  | in-Some w ↦ λ h.
      let s = c.args.sweep.now in
      let i = c.args.i in
      let xs = c.args.versions.now.entries in
      let v = w.in-Some.reaches.now in
      let u = w.keep_lasting-stays.new.self in
      let mid : c.match-get_index_mut.versions.entries ≡ set_value_at xs i u = ap (λ m. m.entries) w.versions-is in
      let kept = w.keep_lasting-stays.ensures.more (sym w.stays-is ∙ c.if-not-stays.false) in
      let more : i + 1 ≡ suc i = omega arith in
      subst (λ (es : List (Call × List Interval)). AreAllLasting s.processed s.horizon (drop i es)) (sym mid)
      (kept_from s.processed s.horizon xs i v u kept (subst (λ n. AreAllLasting s.processed s.horizon (drop n xs)) more h))
]
