use Rattle.std.proofs.Common.{ℕ, Some, ap, sym, subst, ◌∙◌}
use Rattle.std.specs.Prelude.{IfErr, IfOk}
use Rattle.txc_db.specs.Calls.{IsQueryRefused}
use Rattle.txc_db.specs.DatabaseReply.{MayRefuse}
use Rattle.txc_txn_rw.specs.RwCore.{RwHolds, RwValue, IsFoundAt}
use Rattle.txc_txn_rw.proofs.Holding.{holds_moved}
use Rattle.txc_txn_rw.proofs.Running.{query_after, query_left, query_refused}
use Rattle.txc_txn_rw.proofs.Turns.{right_reply}
use Rattle.txc_txn_rw.proofs.calling.query_at.Goals as goal

pub returns-clause-holds : goal.returns-clause-holds
returns-clause-holds g c = λ next objects h.
    let L = c.args.seen.now.history in
    let asking = c.in_ok-ask.ensures.after in
    let found = subst (λ (n : ℕ). IfOk c.find-found.result (IsFoundAt L n c.args.query)) c.base.ensures c.find-found.ensures.answer in
    c.answer.ensures.holds next objects L (right_reply L c.ask.new.self c.find-found.result c.args.query (ap (λ (w : RwValue). w.reading) asking) found)
    (subst (RwHolds next L objects) (sym asking) (holds_moved next L objects c.args.core.now h objects c.args.core.now.call (Some c.args.query) (λ M hold. hold)))

pub returns-clause-after : goal.returns-clause-after
returns-clause-after g c =
    let asking = c.in_ok-ask.ensures.after in
    query_after c.args.core.now c.ask.new.self c.answer.new.self c.args.query asking c.requires.idle.1 c.find-found.result c.answer.result
    (c.answer.ensures.transition c.args.query (ap (λ (w : RwValue). w.reading) asking))

pub returns-clause-left : goal.returns-clause-left
returns-clause-left g c =
    let asking = c.in_ok-ask.ensures.after in
    query_left c.args.core.now c.ask.new.self c.answer.new.self c.args.query asking c.requires.idle.1 c.find-found.result c.answer.result
    (c.answer.ensures.transition c.args.query (ap (λ (w : RwValue). w.reading) asking))

pub returns-clause-refused : goal.returns-clause-refused
returns-clause-refused g c =
    let asking = c.in_ok-ask.ensures.after in
    let at_base = c.base.ensures ∙ ap (λ (w : RwValue). w.base) asking in
    let refused = subst (λ (n : ℕ). IfErr c.find-found.result (MayRefuse g.J.Naming.database_history (λ d. IsQueryRefused d c.args.query n))) at_base c.find-found.ensures.refused in
    query_refused c.args.core.now c.ask.new.self c.answer.new.self c.args.query asking c.requires.idle.1 g.J.Naming.database_history c.find-found.result c.answer.result refused
    (c.answer.ensures.transition c.args.query (ap (λ (w : RwValue). w.reading) asking))
