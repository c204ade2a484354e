use Rattle.std.proofs.Common.{◌≡◌, ◌≢◌, ◌∙◌, ℕ, [], ◌∷◌, arith, ap, sym}
use Rattle.txc_rows.specs.declared.query.Query.TheVariants.{ById}
use Rattle.txc_app.specs.declared.ask.Ask.TheVariants as asks
use Rattle.txc_uses_callers.proofs.Asking.{asks_after, none_told, one_told, says_body, says_last, says_other, there, told_so}
use Rattle.txc_uses_callers.proofs.reading.computed.Goals as goal

-- a row of group 0, or none, is the last
pub finish-requires-then-other-eq0-clause-asks : goal.finish-requires-then-other-eq0-clause-asks
finish-requires-then-other-eq0-clause-asks c =
    let b = c.requires.begins in
    let old = c.args.txn.now in
    let mid = c.query-2.new.self in
    let told = rw c.in-Answered.is at c.in_ok-query.ensures.told in
    let before = none_told old.objects mid.objects old.core.call c.args.asked c.query.result (there old.objects (c.requires.functions 0 (omega arith))) b c.in_ok-query.ensures.objects in
    let zero : c.group-other.result ≡ 0 = omega arith in
    asks_after mid.objects mid.core.call c.args.asked [] c.in-Some.answer.now (asks.Done c.in_ok-bytes.bytes.items) (told.2.0 ∙ b.only) c.in-Some.ensures
    (told_so c.args.asked [] mid.objects before)
    (says_body c.args.asked c.in-Some.answer.now c.in_ok-bytes.bytes.items (sym c.group-other.ensures ∙ zero) c.in_ok-bytes.ensures)

-- else the row of its group is asked for
pub query-requires-4-clause-asks : goal.query-requires-4-clause-asks
query-requires-4-clause-asks c =
    let b = c.requires.begins in
    let old = c.args.txn.now in
    let mid = c.query-2.new.self in
    let told = rw c.in-Answered.is at c.in_ok-query.ensures.told in
    let before = none_told old.objects mid.objects old.core.call c.args.asked c.query.result (there old.objects (c.requires.functions 0 (omega arith))) b c.in_ok-query.ensures.objects in
    let other : c.group-other.result ≢ 0 = omega arith in
    asks_after mid.objects mid.core.call c.args.asked [] c.in-Some.answer.now (asks.Query c.query-3.result) (told.2.0 ∙ b.only) c.in-Some.ensures
    (told_so c.args.asked [] mid.objects before)
    (says_other c.args.asked c.in-Some.answer.now c.query-3.result (λ is. other (c.group-other.ensures ∙ is)) (c.query-3.ensures ∙ ap (λ (g : ℕ). ById 1 g) c.group-other.ensures))

-- and it is done after that
pub finish-requires-2-clause-asks : goal.finish-requires-2-clause-asks
finish-requires-2-clause-asks c =
    let b = c.requires.begins in
    let old = c.args.txn.now in
    let mid = c.query-2.new.self in
    let new = c.query-4.new.self in
    let told = rw c.in-Answered.is at c.in_ok-query.ensures.told in
    let last = rw c.in-Answered-2.is at c.in_ok-query-2.ensures.told in
    let only = told.2.0 ∙ b.only in
    let before = none_told old.objects mid.objects old.core.call c.args.asked c.query.result (there old.objects (c.requires.functions 0 (omega arith))) b c.in_ok-query.ensures.objects in
    let both = one_told mid.objects new.objects mid.core.call c.args.asked c.in-Some.answer.now c.query-3.result only c.in-Some.ensures before c.in_ok-query-2.ensures.objects in
    asks_after new.objects new.core.call c.args.asked (c.in-Some.answer.now ∷ []) c.in-Some-answer.answer.now (asks.Done c.in_ok-bytes-2.bytes.items) (last.2.0 ∙ only) c.in-Some-answer.ensures
    (told_so c.args.asked (c.in-Some.answer.now ∷ []) new.objects both)
    (says_last c.args.asked c.in-Some.answer.now c.in-Some-answer.answer.now c.in_ok-bytes-2.bytes.items c.in_ok-bytes-2.ensures)
