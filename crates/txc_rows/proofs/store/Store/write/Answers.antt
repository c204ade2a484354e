use Rattle.std.proofs.Common.{sym, ap, subst, ◌∙◌, arith}
use Rattle.std.proofs.lemmas.Result.{err_from_is_err_and}
use Rattle.std.specs.List.{AllByRecursion}
use Rattle.txc_rows.specs.StorableVersions.{IsStorable}
use Rattle.txc_rows.specs.Versions.{after_net}
use Rattle.txc_rows.proofs.StoreLemmas.{written_store, unwritten_store}
use Rattle.txc_rows.proofs.store.Store.write.Goals as goal
use Rattle.txc_tags.proofs.All.{all_front}

pub invariant_of-self : goal.invariant_of-self
invariant_of-self c = ((c.in_err-kept_from.ensures.room c.self.inside.next_place c.self.invariant.0).store, rw (c.replace-known.ensures.after, c.new.ensures.items) tt, rw (c.replace-known.ensures.after, c.new.ensures.items) (search arith))

pub returns-in_err-kept_from-clause-unchanged : goal.returns-in_err-kept_from-clause-unchanged
returns-in_err-kept_from-clause-unchanged c =
    let p = err_from_is_err_and c.from_residual-in_err-kept_from.result c.from_residual-in_err-kept_from.ensures.1 in
    rw p.1 ((c.in_err-kept_from.ensures.room c.self.inside.next_place c.self.invariant.0).unchanged ∙ c.self.view_is)

pub write-requires-clause-apart : goal.write-requires-clause-apart
write-requires-clause-apart c = (c.in_ok-kept_from.ensures.room c.self.inside.next_place c.self.invariant.0).store.apart

pub write-requires-clause-below : goal.write-requires-clause-below
write-requires-clause-below c = (c.in_ok-kept_from.ensures.room c.self.inside.next_place c.self.invariant.0).store.below

pub invariant_of-self-in_err-written : goal.invariant_of-self-in_err-written
invariant_of-self-in_err-written c =
    let was = c.self.inside in
    let room = c.in_ok-kept_from.ensures.room was.next_place c.self.invariant.0 in
    ((unwritten_store was.kept_from c.in_ok-kept_from.kept_from c.number-number.result c.args.stamp was.next_place c.args.net.now was.replaced was.latest c.make_room.new.replaced c.make_room.new.latest c.number-number.ensures.answer room c.write.new.replaced c.write.new.self c.in_err-written.ensures.replaced c.in_err-written.ensures.unchanged).0, rw (c.replace-known.ensures.after, c.new.ensures.items) tt, rw (c.replace-known.ensures.after, c.new.ensures.items) (search arith))

pub returns-in_err-written-clause-unchanged : goal.returns-in_err-written-clause-unchanged
returns-in_err-written-clause-unchanged c =
    let was = c.self.inside in
    let room = c.in_ok-kept_from.ensures.room was.next_place c.self.invariant.0 in
    let p = err_from_is_err_and c.from_residual-in_err-written.result c.from_residual-in_err-written.ensures.1 in
    rw p.1 ((unwritten_store was.kept_from c.in_ok-kept_from.kept_from c.number-number.result c.args.stamp was.next_place c.args.net.now was.replaced was.latest c.make_room.new.replaced c.make_room.new.latest c.number-number.ensures.answer room c.write.new.replaced c.write.new.self c.in_err-written.ensures.replaced c.in_err-written.ensures.unchanged).1 ∙ c.self.view_is)

pub invariant_of-self-2 : goal.invariant_of-self-2
invariant_of-self-2 c =
    let was = c.self.inside in
    let room = c.in_ok-kept_from.ensures.room was.next_place c.self.invariant.0 in
    (rw c.in_ok-next_place.ensures.next (written_store was.kept_from c.in_ok-kept_from.kept_from c.number-number.result c.args.stamp was.next_place c.args.net.now was.replaced was.latest c.make_room.new.replaced c.make_room.new.latest c.number-number.ensures.answer room c.write.new.replaced c.write.new.self c.in_ok-written.ensures.all).0, rw (c.replace-known.ensures.after, c.new.ensures.items) tt, rw (c.replace-known.ensures.after, c.new.ensures.items) (search arith))

pub returns-clause-after : goal.returns-clause-after
returns-clause-after c =
    let was = c.self.inside in
    let room = c.in_ok-kept_from.ensures.room was.next_place c.self.invariant.0 in
    (written_store was.kept_from c.in_ok-kept_from.kept_from c.number-number.result c.args.stamp was.next_place c.args.net.now was.replaced was.latest c.make_room.new.replaced c.make_room.new.latest c.number-number.ensures.answer room c.write.new.replaced c.write.new.self c.in_ok-written.ensures.all).1 ∙ ap (after_net c.args.stamp c.args.net.now) c.self.view_is

pub returns-clause-each : goal.returns-clause-each
returns-clause-each c =
    let was = c.self.inside in
    let room = c.in_ok-kept_from.ensures.room was.next_place c.self.invariant.0 in
    let done = written_store was.kept_from c.in_ok-kept_from.kept_from c.number-number.result c.args.stamp was.next_place c.args.net.now was.replaced was.latest c.make_room.new.replaced c.make_room.new.latest c.number-number.ensures.answer room c.write.new.replaced c.write.new.self c.in_ok-written.ensures.all in
    subst (AllByRecursion IsStorable) (sym done.1) done.2

pub make_room-requires-clause-each : goal.make_room-requires-clause-each
make_room-requires-clause-each c = all_front (λ x. IsStorable x.version) c.self.inside.latest c.self.inside.replaced c.self.invariant.0.apart.each
