use Rattle.std.proofs.Common.{◌<◌, ◌∙◌, IsOk, inl, inr, true≢false, sym, List, ap, arith, count_by, filter, length, not, vec_len, vec_capacity, ◌==◌}
use Rattle.txc_tags.specs.declared.tag.Tag.{Tag}
use Rattle.txc_tags.specs.Tags.{is_of, tag_before, wildcard}
use Rattle.txc_tags.proofs.Counting.{some_or_none, wild_longer}
use Rattle.txc_tags.proofs.Placing.{wild_inserted}
use Rattle.txc_tags.proofs.adding.put_wildcard.Goals as goal

pub returns-clause-after : goal.returns-clause-after
returns-clause-after c =
    let place = c.place_of-place.ensures.value ∙ ap (count_by (λ x. tag_before x (wildcard c.args.table))) c.deref.ensures.value in
    let others = c.take_out.ensures.others ∙ ap (filter (λ x. not (x.table == c.args.table))) c.in_ok-make_room.ensures.same in
    c.in_ok-insert.ensures.items ∙ wild_inserted c.args.table c.args.tags.now.items c.take_out.new.tags.items c.place_of-place.result c.requires.canonical.in_order others place

pub returns-in_err-make_room-clause-no_memory : goal.returns-in_err-make_room-clause-no_memory
returns-in_err-make_room-clause-no_memory c = λ shorter. elim (some_or_none (count_by (is_of c.args.table) c.args.tags.now.items)) [
  | inl none ↦ absurd (omega (arith, shorter, wild_longer c.args.table c.args.tags.now.items none))
  | inr some ↦ (let ok : IsOk c.make_room.result = c.make_room.ensures.no_memory some in absurd (true≢false (sym (rw c.in_err-make_room.was at ok))))
]

pub returns-in_err-insert-clause-no_memory : goal.returns-in_err-insert-clause-no_memory
returns-in_err-insert-clause-no_memory c =
    let left = c.take_out.new.tags.ok.0 ∙ ap length c.take_out.ensures.others ∙ ap (λ (ts : List Tag). length (filter (λ x. not (x.table == c.args.table)) ts)) c.in_ok-make_room.ensures.same in
    let room : vec_len c.take_out.new.tags < vec_capacity c.take_out.new.tags = omega (arith, left, c.in_ok-make_room.ensures.after, c.take_out.ensures.capacity) in
    let ok : IsOk c.insert.result = c.insert.ensures.succeeds room in
    absurd (true≢false (sym (rw c.in_err-insert.was at ok)))
