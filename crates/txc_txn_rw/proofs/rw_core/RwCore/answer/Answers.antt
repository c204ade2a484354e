use Rattle.std.proofs.Common.{◌≡◌, List, [], ◌∷◌, ◌++◌, Option, Some, None, refl, sym, ap, subst, ◌∙◌}
use Rattle.txc_rows.specs.declared.query.Query.{Query}
use Rattle.txc_rows.specs.States.{RowValue}
use Rattle.txc_txn_rw.specs.declared.given.Given.TheVariants as given
use Rattle.txc_txn_rw.specs.RwCore.{query_of_reading, IsRightReply, RwHolds, RwValue}
use Rattle.txc_txn_rw.proofs.Holding.{kept_more, rows_dropped, rows_kept, rows_lead, rows_led_for, rows_refused}
use Rattle.txc_txn_rw.proofs.rw_core.RwCore.answer.Goals as goal

pub invariant_of-self-in_default-copy_rows : goal.invariant_of-self-in_default-copy_rows
invariant_of-self-in_default-copy_rows c =
    kept_more c.self.inside.tags c.self.inside.queried c.push_reserved.new.self c.self.inside.changes.items c.self.inside.reading c.replace.new.dest c.in-Some.field-0 c.self.invariant
    (sym c.replace.ensures.value ∙ c.in-Some.is) c.replace.ensures.after c.push_reserved.ensures.items

pub invariant_of-self-in_default-push : goal.invariant_of-self-in_default-push
invariant_of-self-in_default-push c =
    kept_more c.self.inside.tags c.self.inside.queried c.push_reserved.new.self c.self.inside.changes.items c.self.inside.reading c.replace.new.dest c.in-Some.field-0 c.self.invariant
    (sym c.replace.ensures.value ∙ c.in-Some.is) c.replace.ensures.after c.push_reserved.ensures.items

pub invariant_of-self-2 : goal.invariant_of-self-2
invariant_of-self-2 c =
    kept_more c.self.inside.tags c.self.inside.queried c.push_reserved.new.self c.self.inside.changes.items c.self.inside.reading c.replace.new.dest c.in-Some.field-0 c.self.invariant
    (sym c.replace.ensures.value ∙ c.in-Some.is) c.replace.ensures.after c.push_reserved.ensures.items

pub returns-in-Err-clause-holds : goal.returns-in-Err-clause-holds
returns-in-Err-clause-holds c = λ next objects L right h.
    let was : RwValue = record { base = c.self.inside.base; queried = c.self.inside.queried.items; answers = c.self.inside.answers.items; changes = c.self.inside.changes.items; call = c.self.inside.machine; reading = query_of_reading c.self.inside.reading } in
    let q : Query = c.in-Some.field-0.query in
    let asked : was.reading ≡ Some q = ap query_of_reading (sym c.replace.ensures.value ∙ c.in-Some.is) in
    let reading : Option Query = query_of_reading c.replace.new.dest in
    let none : reading ≡ None = ap query_of_reading c.replace.ensures.after in
    rows_lead next L objects was q (subst (RwHolds next L objects) (sym c.self.view_is) h) _ c.args.reply _ asked (subst (λ (w : RwValue). IsRightReply L w c.args.reply) (sym c.self.view_is) right)
    (rows_refused was q c.args.reply was.queried was.answers reading none c.in-Err.error c.into.result c.in-Err.is c.into.ensures)

pub returns-in-Err-clause-transition : goal.returns-in-Err-clause-transition
returns-in-Err-clause-transition c = λ query is.
    let was : RwValue = record { base = c.self.inside.base; queried = c.self.inside.queried.items; answers = c.self.inside.answers.items; changes = c.self.inside.changes.items; call = c.self.inside.machine; reading = query_of_reading c.self.inside.reading } in
    let q : Query = c.in-Some.field-0.query in
    let asked : was.reading ≡ Some q = ap query_of_reading (sym c.replace.ensures.value ∙ c.in-Some.is) in
    let reading : Option Query = query_of_reading c.replace.new.dest in
    let none : reading ≡ None = ap query_of_reading c.replace.ensures.after in
    rows_led_for c.args.self.now was _ q query c.args.reply _ c.self.view_is asked is
    (rows_refused was q c.args.reply was.queried was.answers reading none c.in-Err.error c.into.result c.in-Err.is c.into.ensures)

pub returns-in_default-copy_rows-clause-holds : goal.returns-in_default-copy_rows-clause-holds
returns-in_default-copy_rows-clause-holds c = λ next objects L right h.
    let was : RwValue = record { base = c.self.inside.base; queried = c.self.inside.queried.items; answers = c.self.inside.answers.items; changes = c.self.inside.changes.items; call = c.self.inside.machine; reading = query_of_reading c.self.inside.reading } in
    let q : Query = c.in-Some.field-0.query in
    let asked : was.reading ≡ Some q = ap query_of_reading (sym c.replace.ensures.value ∙ c.in-Some.is) in
    let reading : Option Query = query_of_reading c.replace.new.dest in
    let none : reading ≡ None = ap query_of_reading c.replace.ensures.after in
    rows_lead next L objects was q (subst (RwHolds next L objects) (sym c.self.view_is) h) _ c.args.reply _ asked (subst (λ (w : RwValue). IsRightReply L w c.args.reply) (sym c.self.view_is) right)
    (rows_dropped was q c.args.reply c.push_reserved.new.self.items was.answers reading none c.in-Ok.found c.in-Ok.is c.push_reserved.ensures.items refl)

pub returns-in_default-copy_rows-clause-transition : goal.returns-in_default-copy_rows-clause-transition
returns-in_default-copy_rows-clause-transition c = λ query is.
    let was : RwValue = record { base = c.self.inside.base; queried = c.self.inside.queried.items; answers = c.self.inside.answers.items; changes = c.self.inside.changes.items; call = c.self.inside.machine; reading = query_of_reading c.self.inside.reading } in
    let q : Query = c.in-Some.field-0.query in
    let asked : was.reading ≡ Some q = ap query_of_reading (sym c.replace.ensures.value ∙ c.in-Some.is) in
    let reading : Option Query = query_of_reading c.replace.new.dest in
    let none : reading ≡ None = ap query_of_reading c.replace.ensures.after in
    rows_led_for c.args.self.now was _ q query c.args.reply _ c.self.view_is asked is
    (rows_dropped was q c.args.reply c.push_reserved.new.self.items was.answers reading none c.in-Ok.found c.in-Ok.is c.push_reserved.ensures.items refl)

pub returns-in_default-push-clause-holds : goal.returns-in_default-push-clause-holds
returns-in_default-push-clause-holds c = λ next objects L right h.
    let was : RwValue = record { base = c.self.inside.base; queried = c.self.inside.queried.items; answers = c.self.inside.answers.items; changes = c.self.inside.changes.items; call = c.self.inside.machine; reading = query_of_reading c.self.inside.reading } in
    let q : Query = c.in-Some.field-0.query in
    let asked : was.reading ≡ Some q = ap query_of_reading (sym c.replace.ensures.value ∙ c.in-Some.is) in
    let reading : Option Query = query_of_reading c.replace.new.dest in
    let none : reading ≡ None = ap query_of_reading c.replace.ensures.after in
    rows_lead next L objects was q (subst (RwHolds next L objects) (sym c.self.view_is) h) _ c.args.reply _ asked (subst (λ (w : RwValue). IsRightReply L w c.args.reply) (sym c.self.view_is) right)
    (rows_dropped was q c.args.reply c.push_reserved.new.self.items c.push.new.self.items reading none c.in-Ok.found c.in-Ok.is c.push_reserved.ensures.items c.in_default-push.ensures.items)

pub returns-in_default-push-clause-transition : goal.returns-in_default-push-clause-transition
returns-in_default-push-clause-transition c = λ query is.
    let was : RwValue = record { base = c.self.inside.base; queried = c.self.inside.queried.items; answers = c.self.inside.answers.items; changes = c.self.inside.changes.items; call = c.self.inside.machine; reading = query_of_reading c.self.inside.reading } in
    let q : Query = c.in-Some.field-0.query in
    let asked : was.reading ≡ Some q = ap query_of_reading (sym c.replace.ensures.value ∙ c.in-Some.is) in
    let reading : Option Query = query_of_reading c.replace.new.dest in
    let none : reading ≡ None = ap query_of_reading c.replace.ensures.after in
    rows_led_for c.args.self.now was _ q query c.args.reply _ c.self.view_is asked is
    (rows_dropped was q c.args.reply c.push_reserved.new.self.items c.push.new.self.items reading none c.in-Ok.found c.in-Ok.is c.push_reserved.ensures.items c.in_default-push.ensures.items)

pub returns-clause-holds : goal.returns-clause-holds
returns-clause-holds c = λ next objects L right h.
    let was : RwValue = record { base = c.self.inside.base; queried = c.self.inside.queried.items; answers = c.self.inside.answers.items; changes = c.self.inside.changes.items; call = c.self.inside.machine; reading = query_of_reading c.self.inside.reading } in
    let q : Query = c.in-Some.field-0.query in
    let asked : was.reading ≡ Some q = ap query_of_reading (sym c.replace.ensures.value ∙ c.in-Some.is) in
    let reading : Option Query = query_of_reading c.replace.new.dest in
    let none : reading ≡ None = ap query_of_reading c.replace.ensures.after in
    rows_lead next L objects was q (subst (RwHolds next L objects) (sym c.self.view_is) h) _ c.args.reply _ asked (subst (λ (w : RwValue). IsRightReply L w c.args.reply) (sym c.self.view_is) right)
    (rows_kept was q c.args.reply c.push_reserved.new.self.items c.push.new.self.items reading none c.in-Ok.found c.in-Ok-copy_rows.copy c.in-Ok.is c.push_reserved.ensures.items (c.in-Ok-copy_rows.ensures ∙ c.deref.ensures.value)
    (c.in-Ok-push.ensures.items ∙ ap (λ (rows : List RowValue). was.answers ++ given.Rows q rows ∷ []) c.new.ensures))

pub returns-clause-transition : goal.returns-clause-transition
returns-clause-transition c = λ query is.
    let was : RwValue = record { base = c.self.inside.base; queried = c.self.inside.queried.items; answers = c.self.inside.answers.items; changes = c.self.inside.changes.items; call = c.self.inside.machine; reading = query_of_reading c.self.inside.reading } in
    let q : Query = c.in-Some.field-0.query in
    let asked : was.reading ≡ Some q = ap query_of_reading (sym c.replace.ensures.value ∙ c.in-Some.is) in
    let reading : Option Query = query_of_reading c.replace.new.dest in
    let none : reading ≡ None = ap query_of_reading c.replace.ensures.after in
    rows_led_for c.args.self.now was _ q query c.args.reply _ c.self.view_is asked is
    (rows_kept was q c.args.reply c.push_reserved.new.self.items c.push.new.self.items reading none c.in-Ok.found c.in-Ok-copy_rows.copy c.in-Ok.is c.push_reserved.ensures.items (c.in-Ok-copy_rows.ensures ∙ c.deref.ensures.value)
    (c.in-Ok-push.ensures.items ∙ ap (λ (rows : List RowValue). was.answers ++ given.Rows q rows ∷ []) c.new.ensures))
