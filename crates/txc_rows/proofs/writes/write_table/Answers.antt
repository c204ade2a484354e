use Rattle.std.proofs.Common.{◌≡◌, ℕ, List, ◌+◌, ◌++◌, ◌∷◌, drop, length, sym, subst, ap, ◌∙◌, rules, refl, Ok, Err, arith}
use Rattle.std.proofs.lemmas.Result.{err_from_is_err_and}
use Rattle.std.proofs.lemmas.List.{drop_all, at_drop_more}
use Rattle.sqlite.specs.Effect.{Database}
use Rattle.sqlite.specs.Held.{Held, state}
use Rattle.sqlite.specs.Steps.{over_memory}
use Rattle.sqlite.proofs.Callers.{memory_is_clean}
use Rattle.sqlite_trees.specs.declared.memory.MemStore.{MemStore}
use Rattle.txc_rows.specs.Versions.{after_net}
use Rattle.txc_rows.specs.StorableVersions.{IsStorable}
use Rattle.txc_rows.specs.declared.placed.Placed.{Placed}
use Rattle.txc_rows.specs.Placed.{versions_by_place, AreBelow, AreWellPlaced, AreAll, AreAmong}
use Rattle.txc_rows.specs.StoredVersion.{placed_all}
use Rattle.txc_rows.specs.LatestTable.{latest_in, versions_of, IsCall, IsKept, HasWritten}
use Rattle.txc_rows.proofs.HeldLemmas.{AreStorable, table_by, undone_call, refused_call, ended_call, recast_ok, recast_err}
use Rattle.txc_rows.proofs.ChangeSteps.{longer_itself, longer_then}
use Rattle.txc_rows.proofs.SweepCalls.{begun_base, begun_now}
use Rattle.txc_rows.proofs.writes.write_table.Goals.{After-commit}
use Rattle.txc_rows.proofs.writes.write_table.Goals as goal
use Rattle.txc_tags.proofs.All.{all_front}

-- a transaction begins with what there is
begun_written : (next : ℕ) (replaced : List Placed) (h tx : Held MemStore) → (state over_memory tx).now ≡ (state over_memory h).now → IsKept h → AreWellPlaced (latest_in h) replaced → AreBelow next (latest_in h ++ replaced)
    → HasWritten (versions_of replaced (latest_in tx)) next replaced tx
begun_written next replaced h tx now kept apart below = record {
  table = table_by h tx kept.table now;
  all = record {
    apart = subst (λ (d : Database). AreWellPlaced (placed_all (d.trees 0)) replaced) (sym now) apart;
    written = record { versions_are = refl; below = subst (λ (d : Database). AreBelow next (placed_all (d.trees 0) ++ replaced)) (sym now) below };
  };
}

pub loop-change-init : goal.loop-change-init
loop-change-init c =
    let old = c.args.conn.now in
    let tx = c.transaction-tx.result.conn.now in
    let now = begun_now old tx c.transaction-tx.ensures.begun in
    record {
      written = begun_written c.args.place c.args.replaced.now old tx now c.requires.kept c.requires.apart c.requires.below;
      inside = ap (λ (h : Held MemStore). h.in_transaction) c.transaction-tx.ensures.begun;
      next = omega arith;
      within = omega arith;
      base = begun_base old tx c.transaction-tx.ensures.begun;
      rest = ap (λ (d : Database). after_net c.args.stamp c.args.net.now (versions_by_place (placed_all (d.trees 0) ++ c.args.replaced.now))) now;
      same = refl;
      known = subst (λ (d : Database). AreAmong (placed_all (d.trees 0)) c.args.known.now.items) (sym now) c.requires.known;
      longer = longer_itself c.args.replaced.now;
    }

pub returns-in_err-one-clause-call : goal.returns-in_err-one-clause-call
returns-in_err-one-clause-call c =
    let old = c.args.conn.now in
    let mid = c.write_change.new.tx.conn.now in
    let end = c.drop-tx.new.self.0 in
    let same : end ≡ c.conn-1.given.0 = search rules in
    let base : (state over_memory mid).committed ≡ (state over_memory old).committed = c.in_err-one.ensures.step.base ∙ c.loop-change.invariant.base in
    let kept = undone_call old mid end c.requires.kept base (c.drop-tx.ensures.undone (memory_is_clean end)) in
    let p = err_from_is_err_and c.from_residual.result c.from_residual.ensures.1 in
    let leaves = AreAll (after_net c.args.stamp c.args.net.now (versions_of c.args.replaced.now (latest_in old))) (c.args.place + length c.args.net.now) c.write_change.new.replaced in
    rw p.1 (subst (λ h. IsCall leaves old h (Err p.0)) same (refused_call leaves old end p.0 kept))

pub returns-in_err-one-clause-longer : goal.returns-in_err-one-clause-longer
returns-in_err-one-clause-longer c = longer_then c.args.replaced.now c.loop-change.replaced c.write_change.new.replaced c.loop-change.invariant.longer c.in_err-one.ensures.longer

-- what a commit of all changes is to leave
abbrev WriteCounts : After-commit → List Placed → Type 0
WriteCounts c = AreAll (after_net c.args.stamp c.args.net.now (versions_of c.args.replaced.now (latest_in c.args.conn.now))) (c.args.place + length c.args.net.now) c.loop-change.replaced

committed : (c : After-commit) → IsCall (WriteCounts c) c.args.conn.now c.commit.new.self.0 c.commit.result
committed c =
    let mid = c.loop-change.tx.conn.now in
    let end = c.commit.new.self.0 in
    let i = c.loop-change.invariant in
    let replaced = c.loop-change.replaced in
    let past = drop_all c.loop-change.change-index c.args.net.now c.loop-change-test.false in
    let last : c.loop-change.next ≡ c.args.place + length c.args.net.now = omega (arith, i.next, i.within, c.loop-change-test.false) in
    let apart = i.written.all.apart in
    let written : WriteCounts c (latest_in mid) = record {
      apart = apart;
      written = record { versions_are = ap (λ cs. after_net c.args.stamp cs (versions_of replaced (latest_in mid))) (sym past) ∙ i.rest; below = rw (← last) i.written.all.written.below };
    } in
    let each : AreStorable (latest_in mid) = all_front (λ x. IsStorable x.version) (latest_in mid) replaced apart.each in
    ended_call (WriteCounts c) c.args.conn.now mid end c.commit.result c.requires.kept i.written.table each written i.base c.commit.ensures.ended (c.commit.ensures.ok (memory_is_clean end)) (c.commit.ensures.err (memory_is_clean end)) i.inside

pub returns-in_err-commit-clause-call : goal.returns-in_err-commit-clause-call
returns-in_err-commit-clause-call c =
    let old = c.args.conn.now in
    let end = c.commit.new.self.0 in
    let after = (goal.at.returns-in_err-commit-clause-call c).After-commit in
    let same : end ≡ c.conn-2-1.given.0 = search rules in
    let failed : IsCall (WriteCounts after) old end (Err c.in_err-commit.field-0.0) = subst (IsCall (WriteCounts after) old end) c.in_err-commit.was (committed after) in
    let p = err_from_is_err_and c.from_residual-in_err-commit.result c.from_residual-in_err-commit.ensures.1 in
    rw p.1 (subst (λ h. IsCall (WriteCounts after) old h (Err p.0)) same (recast_err (WriteCounts after) old end c.in_err-commit.field-0.0 p.0 failed))

pub returns-clause-call : goal.returns-clause-call
returns-clause-call c =
    let old = c.args.conn.now in
    let end = c.commit.new.self.0 in
    let after = (goal.at.returns-clause-call c).After-commit in
    let same : end ≡ c.conn-2-1.given.0 = search rules in
    let done : IsCall (WriteCounts after) old end (Ok c.in_ok-commit.field-0) = subst (IsCall (WriteCounts after) old end) c.in_ok-commit.was (committed after) in
    subst (λ h. IsCall (WriteCounts after) old h (Ok c.loop-change.written)) same (recast_ok (WriteCounts after) old end c.in_ok-commit.field-0 c.loop-change.written done)

pub returns-in_err-commit-clause-longer : goal.returns-in_err-commit-clause-longer
returns-in_err-commit-clause-longer c = c.loop-change.invariant.longer

pub returns-clause-longer : goal.returns-clause-longer
returns-clause-longer c = c.loop-change.invariant.longer

pub loop-change-preserved : goal.loop-change-preserved
loop-change-preserved c =
    let i = c.loop-change.invariant in
    let step = c.in_ok-one.ensures.step in
    let mid = versions_of c.loop-change.replaced (latest_in c.loop-change.tx.conn.now) in
    let net = c.args.net.now in
    let at = c.loop-change.change-index in
    let change = c.change-item.result in
    let left = step.leaves in
    let next : after_net c.args.stamp (change ∷ drop (at + 1) net) mid ≡ after_net c.args.stamp (drop at net) mid =
    ap (λ x. after_net c.args.stamp (x ∷ drop (at + 1) net) mid) c.change-item.is ∙ sym (at_drop_more (λ cs. after_net c.args.stamp cs mid) net at change c.loop-change-test.true) in
    record {
      written = record { table = left.table; all = record { apart = left.all.apart; written = record { versions_are = refl; below = left.all.written.below } } };
      inside = step.inside;
      next = omega (arith, i.next);
      within = omega (arith, c.loop-change-test.true);
      base = step.base ∙ i.base;
      rest = ap (after_net c.args.stamp (drop (at + 1) net)) left.all.written.versions_are ∙ next ∙ i.rest;
      same = c.in_ok-one.ensures.same_reference ∙ i.same;
      known = c.in_ok-one.ensures.known;
      longer = longer_then c.args.replaced.now c.loop-change.replaced c.write_change.new.replaced i.longer c.in_ok-one.ensures.longer;
    }
