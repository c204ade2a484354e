use Rattle.std.proofs.Common.{Err, length, ap, arith, rules, refl, subst, sym, ◌∙◌}
use Rattle.txc_script.specs.LineFaults.{IsWordRead, kinds_for}
use Rattle.txc_script.specs.Words.{words_left}
use Rattle.txc_script.specs.declared.unread.WordError.{WordError}
use Rattle.txc_script.proofs.SaidKinds.{all_read, bad_read, none_read, one_more_read}
use Rattle.txc_script.proofs.WordFaults.{kinds_count, none_left}
use Rattle.txc_script.proofs.reading.read_each.Goals as goal

pub loop-before-init : goal.loop-before-init
loop-before-init g c = record {
  read = none_read (kinds_for c.args.kinds.now c.args.other (words_left c.args.words)) (words_left c.args.words) _ (search rules);
  all = omega (arith, c.requires);
  room = search rules;
  capacity = search rules;
}

pub next-word-requires : goal.next-word-requires
next-word-requires g c = omega (arith, c.loop-before.invariant.all)

pub returns-in-Err-Bad-clause-refused : goal.returns-in-Err-Bad-clause-refused
returns-in-Err-Bad-clause-refused g c =
    let after = words_left c.next-word.new.self in
    let word = c.next-word.result.now in
    let bad = subst (λ (u : WordError). IsWordRead c.next_kind-kind.result.0 word (Err u)) c.in-Err-Bad.field-0-is c.in-Err-Bad.ensures in
    rw c.in-Err-Bad.field-0-is (
      sym (kinds_count c.args.kinds.now c.args.other (words_left c.args.words)),
      bad_read _ (words_left c.args.words) _ _ word (words_left c.loop-before.left) after c.loop-before.said.items c.loop-before.before _ c.loop-before.invariant.read
          (ap (kinds_for c.loop-before.rest.now c.args.other) c.next-word.ensures ∙ c.next_kind-kind.ensures word after) c.next-word.ensures refl bad.0 c.new.ensures bad.1,
    )

pub loop-before-preserved : goal.loop-before-preserved
loop-before-preserved g c =
    let after = words_left c.next-word.new.self in
    let word = c.next-word.result.now in record {
      read = one_more_read _ (words_left c.args.words) _ _ _ word (words_left c.loop-before.left) after c.loop-before.said.items c.push_reserved.new.self.items c.in-Ok.value c.loop-before.before c.loop-before.invariant.read
          (ap (kinds_for c.loop-before.rest.now c.args.other) c.next-word.ensures ∙ c.next_kind-kind.ensures word after) c.next-word.ensures c.in-Ok.ensures c.push_reserved.ensures.items;
      all = omega (arith, c.loop-before.invariant.all, ap length c.next-word.ensures);
      room = search rules;
      capacity = search rules;
    }

pub returns-clause-answer : goal.returns-clause-answer
returns-clause-answer g c =
    let empty = none_left (words_left c.loop-before.left) (omega (arith, c.loop-before.invariant.all)) in
    all_read _ (words_left c.args.words) _ (words_left c.loop-before.left) c.loop-before.said.items c.loop-before.before c.loop-before.invariant.read
    (ap (kinds_for c.loop-before.rest.now c.args.other) empty) empty
