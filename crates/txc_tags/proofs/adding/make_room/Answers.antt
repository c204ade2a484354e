use Rattle.std.proofs.Common.{arith, refl, not, ◌==◌, ap, ◌∙◌, ◌≤◌, count_by, length, vec_len, vec_capacity}
use Rattle.std.proofs.lemmas.List.Filters.{length-filter_both}
use Rattle.std.proofs.lemmas.List.Sums.{length-filter}
use Rattle.std.proofs.lemmas.Result.{on_ok_weaker}
use Rattle.txc_tags.specs.Tags.{is_of}
use Rattle.txc_tags.proofs.adding.make_room.Goals as goal

pub returns-then-count_of-gt0-clause-after : goal.returns-then-count_of-gt0-clause-after
returns-then-count_of-gt0-clause-after c =
    let counted = c.count_of.ensures ∙ ap (count_by (is_of c.args.table)) c.deref.ensures.value in
    let parts = length-filter_both (is_of c.args.table) (λ x. not (x.table == c.args.table)) (λ x. refl) c.args.tags.now.items in
    let fits : vec_len c.args.tags.now ≤ vec_capacity c.args.tags.now = c.args.tags.now.ok.1 in
    omega (arith, c.if-count_of-gt0.true, counted, parts, length-filter (is_of c.args.table) c.args.tags.now.items, fits, c.deref.ensures.len, ap length c.deref.ensures.value)

pub returns-clause-after : goal.returns-clause-after
returns-clause-after c =
    let parts = length-filter_both (is_of c.args.table) (λ x. not (x.table == c.args.table)) (λ x. refl) c.args.tags.now.items in
    on_ok_weaker c.reserve.result (λ l. omega (arith, l, parts, c.reserve.ensures.len, c.deref.ensures.len, ap length c.deref.ensures.value)) c.reserve.ensures.ok
