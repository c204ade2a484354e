use Rattle.std.proofs.Common.{◌≡◌, ◌≤◌, inl, inr, ℕ, List, [], length, take, filter, slice_get, Some, refl, ap, sym, subst, ◌∙◌, arith}
use Rattle.std.specs.List.{flat_map}
use Rattle.std.proofs.Math.Seq.{take-length}
use Rattle.std.proofs.lemmas.Option.{slice_get-get_or}
use Rattle.txc_tags.specs.Tags.{with_tags}
use Rattle.txc_rows.specs.declared.query.Change.{Change}
use Rattle.txc_rows.proofs.Offered.{IsIn}
use Rattle.txc_rows.specs.RowTags.{tags_of_row}
use Rattle.txc_rows.specs.Net.{changes_state, net_changes, settled, puts_of}
use Rattle.txc_db.specs.DatabaseValue.{DatabaseValue, newest, newest_state}
use Rattle.txc_db.specs.Calls.{row_query, matching_of}
use Rattle.txc_db.specs.Steps.{IsReadRefused}
use Rattle.txc_db.specs.NetGrowth.{found_rows, IsNetWith}
use Rattle.txc_db.proofs.Histories.{is_state}
use Rattle.txc_db.proofs.NetRows.{at_in, settled_in, taken_in, few_named, net_more, commit_tags}
use Rattle.txc_db.proofs.Refusing.{read_refused}
use Rattle.txc_db.proofs.db_core.DbCore.net_of.Goals as goal

pub loop-change-preserved : goal.loop-change-preserved
loop-change-preserved c =
    let list = c.deref-change-items.result.now in
    let inv = c.loop-change.invariant in
    let at : slice_get c.deref-change-items.result.now c.loop-change.change-index ≡ Some c.change-item.result = slice_get-get_or list c.loop-change.change-index c.change-item.result c.loop-change-test.true ∙ ap (λ (x : Change). Some x) (sym c.change-item.is) in
    let with : IsNetWith (newest_state c.args.self.now) c.change-item.result c.loop-change.net.changes.items c.add_change.new.net.changes.items c.loop-change.net.tags c.add_change.new.net.tags =
    subst (λ (v : DatabaseValue). IsNetWith (newest_state v) c.change-item.result c.loop-change.net.changes.items c.add_change.new.net.changes.items c.loop-change.net.tags c.add_change.new.net.tags) inv.same c.in-Ok.ensures.net in
    let more = net_more (newest_state c.args.self.now) list c.loop-change.change-index c.change-item.result c.loop-change.net.changes.items c.add_change.new.net.changes.items c.loop-change.net.tags c.add_change.new.net.tags at with inv.net inv.tags in
    let few : matching_of c.args.self.now (row_query c.change-item.result) ≤ c.args.self.now.most = subst (λ (v : DatabaseValue). matching_of v (row_query c.change-item.result) ≤ v.most) inv.same (c.in-Ok.ensures.few refl) in
    record {
      same = c.add_change.ensures.same ∙ inv.same;
      net = more.0;
      tags = more.1;
      few = λ x one. elim (taken_in list c.loop-change.change-index c.change-item.result x at one) [
        | inl before ↦ inv.few x before
        | inr last ↦ subst (λ (y : Change). matching_of c.args.self.now (row_query y) ≤ c.args.self.now.most) (sym last) few
      ];
    }

pub returns-clause-tags : goal.returns-clause-tags
returns-clause-tags c =
    let list = c.deref-change-items.result.now in
    let inv = c.loop-change.invariant in
    let s = newest_state c.args.self.now in
    let net = net_changes s c.args.changes.now in
    let whole : c.loop-change.change-index ≡ length c.deref-change-items.result.now = let end = c.loop-change.auto.change-index-end in omega (arith, c.loop-change-test.false, end) in
    let all : take c.loop-change.change-index c.deref-change-items.result.now ≡ settled c.args.changes.now = ap (λ (n : ℕ). take n list) whole ∙ (take-length list ∙ (c.deref-change-items.ensures.value ∙ c.in_ok-settled.ensures)) in
    let items : c.loop-change.net.changes.items ≡ net_changes (newest_state c.args.self.now) c.args.changes.now = inv.net ∙ ap (λ (xs : List Change). filter (changes_state s) xs) all in
    commit_tags c.net_changes_are_differences.ensures.tags c.net_changes_are_differences.ensures.transition s c.args.changes.now c.add_puts.new.tags (is_state c.states_are_maps.ensures.states c.args.self.now.history (newest c.args.self.now))
    (c.in_ok-add_puts.ensures ∙ (ap (λ (xs : List Change). with_tags (flat_map tags_of_row (puts_of xs)) c.loop-change.net.tags) (c.deref.ensures.value ∙ items)
    ∙ ap (with_tags (flat_map tags_of_row (puts_of net))) (inv.tags ∙ ap (λ (xs : List Change). with_tags (flat_map tags_of_row (found_rows s xs)) []) items)))

pub returns-clause-few : goal.returns-clause-few
returns-clause-few c = λ _.
    let list = c.deref-change-items.result.now in
    let whole : c.loop-change.change-index ≡ length c.deref-change-items.result.now = let end = c.loop-change.auto.change-index-end in omega (arith, c.loop-change-test.false, end) in
    let all : take c.loop-change.change-index c.deref-change-items.result.now ≡ settled c.args.changes.now = ap (λ (n : ℕ). take n list) whole ∙ (take-length list ∙ (c.deref-change-items.ensures.value ∙ c.in_ok-settled.ensures)) in
    few_named c.args.self.now c.args.changes.now (λ x one. c.loop-change.invariant.few x (subst (IsIn x) (sym all) one))

pub returns-in-Err-clause-refused : goal.returns-in-Err-clause-refused
returns-in-Err-clause-refused c =
    let list = c.deref-change-items.result.now in
    let at : slice_get c.deref-change-items.result.now c.loop-change.change-index ≡ Some c.change-item.result = slice_get-get_or list c.loop-change.change-index c.change-item.result c.loop-change-test.true ∙ ap (λ (x : Change). Some x) (sym c.change-item.is) in
    let one : IsIn c.change-item.result c.args.changes.now = settled_in c.change-item.result c.args.changes.now (subst (λ (xs : List Change). IsIn c.change-item.result xs) (c.deref-change-items.ensures.value ∙ c.in_ok-settled.ensures) (at_in c.change-item.result list c.loop-change.change-index at)) in
    read_refused c.args.self.now c.args.changes.now c.change-item.result one c.in-Err.refusal
    (subst (λ (v : DatabaseValue). IsReadRefused v (row_query c.change-item.result) c.in-Err.refusal) c.loop-change.invariant.same c.in-Err.ensures.refused)
