use Rattle.std.proofs.Common.{◌≡◌, subst, ℕ}
use Rattle.txc_db.specs.History.{state_at}
use Rattle.txc_db.specs.DatabaseValue.{newest}
use Rattle.txc_rows.specs.States.{answer}
use Rattle.txc_rows.specs.declared.query.Query.TheVariants.{Range}
use Rattle.txc_db_carry.proofs.Steps.{range_done, put_refused}
use Rattle.txc_db_carry.proofs.carrying.+carry_range.Goals as goal

pub returns-in-Ok-put_rows-clause-carried : goal.returns-in-Ok-put_rows-clause-carried
returns-in-Ok-put_rows-clause-carried t c =
    let old = c.args.old.now in
    let stamp : c.args.stamp ≡ newest old = c.requires.stamp in
    range_done old c.args.new.now c.args.new.now.events c.args.table c.args.first c.args.last c.in-Ok.found.rows.items c.states_are_maps.ensures.states c.requires.some c.requires.carried
    (subst (λ (n : ℕ). c.in-Ok.found.rows.items ≡ answer (Range c.args.table c.args.first c.args.last) (state_at old.history n)) stamp c.in-Ok.ensures.answer.rows)
    c.net_changes_are_differences.ensures.transition c.put_rows.new.new c.in-Ok-put_rows.ensures.after

pub returns-in-Ok-clause-refused : goal.returns-in-Ok-clause-refused
returns-in-Ok-clause-refused t c =
    let old = c.args.old.now in
    let stamp : c.args.stamp ≡ newest old = c.requires.stamp in
    put_refused old c.args.new.now c.args.new.now.events c.args.table c.args.first c.args.last c.in-Ok.found.rows.items c.states_are_maps.ensures.states c.requires.some c.requires.carried
    (subst (λ (n : ℕ). c.in-Ok.found.rows.items ≡ answer (Range c.args.table c.args.first c.args.last) (state_at old.history n)) stamp c.in-Ok.ensures.answer.rows)
    c.in-Err-put_rows.refusal c.in-Err-put_rows.ensures.refused
