use Rattle.std.proofs.Common.{◌≡◌, ◌+◌, ◌++◌, ◌∷◌, [], drop, map, length, length-append, sym, ap, subst, ◌∙◌, append_assoc, arith, rules}
use Rattle.std.specs.List.{AllByRecursion, Contains}
use Rattle.txc_rows.specs.declared.placed.Placed.{Placed}
use Rattle.txc_rows.specs.Placed.{version_of, AreAmong}
use Rattle.txc_rows.specs.StoredVersion.{placed_from}
use Rattle.txc_rows.specs.LatestTable.{IsPlacedRow}
use Rattle.txc_rows.proofs.SweepCalls.{next_first}
use Rattle.txc_rows.proofs.decode.add_known.Goals as goal
use Rattle.txc_tags.proofs.All.{all_front}

pub returns-in_default-clause-known : goal.returns-in_default-clause-known
returns-in_default-clause-known c = λ latest before added. all_front (λ x. Contains latest x) c.loop-row.known.items _ (c.loop-row.invariant.known latest before added)

pub returns-in_err-copy-clause-known : goal.returns-in_err-copy-clause-known
returns-in_err-copy-clause-known c = λ latest before added. all_front (λ x. Contains latest x) c.loop-row.known.items _ (c.loop-row.invariant.known latest before added)

pub returns-in_err-push-clause-known : goal.returns-in_err-push-clause-known
returns-in_err-push-clause-known c = λ latest before added. all_front (λ x. Contains latest x) c.loop-row.known.items _ (c.loop-row.invariant.known latest before added)

pub returns-in_err-push-2-clause-known : goal.returns-in_err-push-2-clause-known
returns-in_err-push-2-clause-known c = λ latest before added. rw c.in_err-push-2.ensures.items (all_front (λ x. Contains latest x) c.loop-row.known.items _ (c.loop-row.invariant.known latest before added))

pub loop-row-preserved : goal.loop-row-preserved
loop-row-preserved c =
    let i = c.loop-row.invariant in
    let known = c.loop-row.known.items in
    let found = c.loop-row.found.items in
    let x = c.in-Ok.placed in
    let is : x ≡ placed_from c.row-item.result = search rules in
    let split = next_first c.args.rows.now c.loop-row.row-index c.row-item.result c.loop-row-test.true c.row-item.is in
    let later = map placed_from (drop (c.loop-row.row-index + 1) c.args.rows.now) in
    let knows : c.push-in-loop-row.new.self.items ≡ known ++ x ∷ [] = search rules in
    let finds : c.push.new.self.items ≡ found ++ x.version ∷ [] = search rules in
    let are = ap (λ xs. xs ++ later) knows ∙ append_assoc known (x ∷ []) later ∙ ap (λ (y : Placed). known ++ y ∷ later) is ∙ ap (λ rs. known ++ map placed_from rs) (sym split) in
    record {
      done =
          ap (λ vs. vs ++ map version_of later) finds ∙ append_assoc found (x.version ∷ []) (map version_of later)
          ∙ ap (λ (y : Placed). found ++ y.version ∷ map version_of later) is ∙ ap (λ rs. found ++ map version_of (map placed_from rs)) (sym split) ∙ i.done;
      rest = (subst (AllByRecursion (IsPlacedRow c.args.table)) split i.rest).1;
      few = omega (arith, i.few, ap length knows, length-append known (x ∷ []));
      known = λ latest before added. subst (AreAmong latest) (sym are) (i.known latest before added);
    }

pub returns-clause-known : goal.returns-clause-known
returns-clause-known c = λ latest before added. all_front (λ x. Contains latest x) c.loop-row.known.items _ (c.loop-row.invariant.known latest before added)
